-- `shading::tint_row` meets its contract: pixels as they are, or transformed.
use Rattle.engine.proofs.RowLaws.{plain_row, transformed_row}
use Rattle.engine.proofs.shading.tint_row.Goals as goal

pub returns-in-None : goal.returns-in-None
returns-in-None c =
    plain_row c.args.n c.args.row.now c.args.tint c.in-None.is c.requires

pub returns-in-Some : goal.returns-in-Some
returns-in-Some c =
    let call = c.transform_row in
    transformed_row c.args.n c.args.row.now c.args.tint c.in-Some.t call.new.row c.in-Some.is call.ensures
