-- `outline::bounds::bounds` meets its contract.
use mathlib.Core.Path.{sym, ap, ◌∙◌}
use Prim.Native.Nat.{ℕ, ◌<◌}
use native.Mathlib.Omega.{arith}
use Rattle.path.specs.Boxes.{box_of}
use Rattle.path.specs.Stored.{edges_of}
use Rattle.outline.specs.Corners.{pixels_of}
use Rattle.outline.proofs.Outermost.{box_some}
use Rattle.outline.proofs.bounds.bounds.Goals as goal

pub returns-then-n-eq0 : goal.returns-then-n-eq0
unfolding box_of
returns-then-n-eq0 c =
    let a = c.args in
    ap (λ (n : ℕ). box_of a.width a.height (edges_of a.edges.now n)) (sym c.if-n-eq0.true)

pub returns : goal.returns
returns c =
    let a = c.args in
    let some : 0 < a.n = omega (arith, c.if-n-eq0.false) in
    c.pixels.ensures ∙ ap (pixels_of a.width a.height) c.corners.ensures
    ∙ sym (box_some a.width a.height a.edges.now a.n some)
