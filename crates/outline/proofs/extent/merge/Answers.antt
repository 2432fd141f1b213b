-- `outline::extent::merge` meets its contract.
use Rattle.std.proofs.Common.{ap, ◌∙◌, arith}
use Rattle.path.specs.Stored.{put_edge}
use Rattle.outline.proofs.Merged.{merged_stored}
use Rattle.outline.proofs.extent.merge.Goals as goal

pub returns-clause-alike : goal.returns-clause-alike
returns-clause-alike c =
    let l = c.args.ends.now in
    merged_stored l _ c.args.n (omega (arith, c.if-n-eq0.false)) (omega (arith, c.requires)) (c.put.ensures ∙ ap (put_edge l 0) c.corners-c.ensures)
