use mathlib.Core.Path.{ap, ◌∙◌}
use lib.IntN.{nat_abs}
use mir.Syntax.{w32}
use Rattle.fixed.proofs.Signed.{back}
use Rattle.regions.specs.Proposals.{x_at, y_at, width_at, height_at}
use Rattle.regions.proofs.proposal.rect_at.Goals as goal

pub returns : goal.returns
returns c =
    let a = c.args in
    let l = a.s.now in
    let x = c.size-x.ensures.0 ∙ ap nat_abs (back w32 (x_at l a.k) c.size-arg-1.given) in
    let y = c.size-y.ensures.0 ∙ ap nat_abs (back w32 (y_at l a.k) c.size-arg-2-1.given) in
    let u = c.size-width.ensures.0 ∙ ap nat_abs (back w32 (width_at l a.k) c.size-arg-3-1.given) in
    let v = c.size-height.ensures.0 ∙ ap nat_abs (back w32 (height_at l a.k) c.size-arg-4-1.given) in
    rw (x, y, u, v)
