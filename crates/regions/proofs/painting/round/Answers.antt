use mathlib.Core.Path.{◌≡◌, refl, ap, ◌∙◌}
use Prim.Native.Nat.{ℕ, ◌/◌}
use native.Mathlib.Omega.{arith}
use lib.ListN.{length}
use Rattle.lists.specs.Lists.{tab}
use Rattle.rect.specs.Rects.{smallest}
use Rattle.regions.specs.Proposals.{proposed_at}
use Rattle.regions.proofs.Turns.{round_turn, round_on}
use Rattle.regions.proofs.painting.round.Goals as goal

pub loop-k-init : goal.loop-k-init
loop-k-init c =
    (refl, record { across = omega arith; wide = omega arith; up = omega arith; high = omega arith })

pub loop-k-preserved : goal.loop-k-preserved
loop-k-preserved c =
    let l = c.loop-k in
    let on = c.requires l.k (omega arith) in (
      round_turn (proposed_at c.args.rectangles.now) l.k l.a c.rect_at.result c.join-a.result l.invariant.0 c.rect_at.ensures
          c.join-a.ensures,
      round_on (proposed_at c.args.rectangles.now) l.k l.a c.rect_at.result c.join-a.result c.rect_at.ensures c.join-a.ensures
          l.invariant.1 on,
    )

pub returns : goal.returns
returns c =
    let l = c.loop-k in
    let a = c.args in
    let last : l.k ≡ length a.rectangles.now / 4 = omega arith in
    (l.invariant.0 ∙ ap (λ (k : ℕ). smallest (tab k (proposed_at a.rectangles.now))) last, l.invariant.1)
