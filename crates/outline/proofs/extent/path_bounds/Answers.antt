-- `outline::extent::path_bounds` meets its contract.
use mathlib.Core.Path.{◌∙◌}
use Rattle.outline.proofs.Merged.{alike_box}
use Rattle.outline.proofs.extent.path_bounds.Goals as goal

pub returns : goal.returns
returns c =
    let g = c.gather_path-count in
    let a = c.args in
    c.bounds.ensures ∙ alike_box _ _ a.width a.height g.ensures.alike
