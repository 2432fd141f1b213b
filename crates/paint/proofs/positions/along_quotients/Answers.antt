-- `positions::along_quotients` meets its contract: the positions before i are stored, and q is t at the pixel i.
use Rattle.std.proofs.Common.{◌≡◌, ◌+◌, length, ℤ, refl, ap, ◌∙◌, arith, length-set, to_z-of_z, w64, to_z, of_z}
use Rattle.lists.proofs.Laws.{tab_turn, tab_all}
use Rattle.fixed.proofs.Signed.{clean}
use Rattle.paint.specs.Gradient.{squared_length, mapped}
use Rattle.paint.specs.Buffers.{Moderate}
use Rattle.paint.specs.Segments.{position_of}
use Rattle.paint.specs.declared.Quotient.{Quotient}
use Rattle.paint.proofs.Walk.{whole_is_t, next_pixel, length_moderate, step_moderate, at_moderate}
use Rattle.paint.proofs.positions.along_quotients.Invariants.{place}
use Rattle.paint.proofs.positions.along_quotients.Goals as goal
use Rattle.paint.proofs.positions.along_quotients.Tie as tie
use Rattle.paint.proofs.positions.along_quotients.Lts as lts
use Rattle.paint.proofs.positions.along_quotients.Reads as reads

moderate : (c : lts.In-loop tie.the-claims reads.Pre reads.Post goal.the-invariant-loop-i goal.the-decreases-loop-i tie.handed_clauses) → Moderate c.loop-i.q
moderate c =
    let l = c.loop-i in
    let a = c.args in
    let p = c.requires in
    rw l.invariant.1 (at_moderate a.g.points p.limited_points.1 p.limited_points.0 (a.x + l.i) a.y (omega (arith, p.ks_bound.0)) p.ks_bound.1)

placed : (c : goal.After-add_quotients-q)
    → let a = c.args in c.position.result ≡ place a.g a.x a.y c.loop-i.i
placed c =
    let a = c.args in
    let l = c.loop-i in
    c.position.ensures
    ∙ ap (λ (z : ℤ). position_of (mapped a.g.spread z))
    (clean w64 1152921504606846976 l.q.whole tt (moderate c.before.before.before).whole
    ∙ ap (λ (r : Quotient). r.whole) l.invariant.1
    ∙ whole_is_t a.g.points c.requires.limited_points.1 (a.x + l.i) a.y)

-- what the local holds
length-is : (c : lts.Start tie.the-claims reads.Pre reads.Post goal.the-invariant-loop-i goal.the-decreases-loop-i tie.handed_clauses)
    → to_z w64 (of_z w64 c.args.d) ≡ squared_length c.args.g.points
length-is c = to_z-of_z c.ranges.d ∙ c.requires.first_value.2

pub loop-i-init : goal.loop-i-init
loop-i-init c =
    let e : c.args.x + 0 ≡ c.args.x = omega arith in
    (refl, rw e c.requires.first_value.0, refl)

pub add_quotients-q-requires : goal.add_quotients-q-requires
add_quotients-q-requires c =
    let p = c.args.g.points in
    let r = c.requires.limited_points in (
      moderate c.before.before.before,
      rw c.requires.first_value.1 (step_moderate p r.1 r.0),
      rw (length-is c.before.before.before.before.before.before) (length_moderate p r.1 r.0),
    )

pub loop-i-preserved : goal.loop-i-preserved
loop-i-preserved c =
    let a = c.args in
    let l = c.loop-i in
    let e : a.x + (l.i + 1) ≡ a.x + l.i + 1 = omega arith in (
      simp length-set (omega (arith, l.invariant.0)),
      c.add_quotients-q.ensures
          ∙ rw (l.invariant.1, c.requires.first_value.1, length-is c.before.before.before.before.before.before, e)
          (next_pixel a.g.points c.requires.limited_points.1 (a.x + l.i) a.y),
      tab_turn (place a.g a.x a.y) l.ks a.ks.now l.i c.position.result (placed c) l.invariant.2
          (omega (arith, l.invariant.0)),
    )

pub returns : goal.returns
returns c =
    let l = c.loop-i in
    let a = c.args in
    tab_all (place a.g a.x a.y) l.ks a.ks.now l.i (length a.ks.now) l.invariant.2 (omega (arith, l.invariant.0)) refl
