-- `transform::bytewise::transform_blocks` meets its contract: the pixels before i are transformed, and the others are as they were.
use native.Mathlib.Omega.{arith}
use Rattle.raster.proofs.Runs.{stored_all}
use Rattle.transform.specs.Transforms.{transform_channels}
use Rattle.transform.proofs.Laid.{part_turn}
use Rattle.transform.proofs.bytewise.transform_blocks.Goals as goal

pub loop-i-preserved : goal.loop-i-preserved
loop-i-preserved c =
    let end = c.min-end.result in
    let least = c.min-end.ensures in
    let call = c.transform_block in (
      omega (arith, least),
      part_turn (transform_channels c.args.t) c.loop-i.invariant.1 call.new.row end (omega (arith, least))
          (omega (arith, least, c.requires.row_len)) call.ensures,
    )

pub returns : goal.returns
returns c =
    stored_all c.loop-i.invariant.1 c.args.n (omega arith) c.requires.row_len
