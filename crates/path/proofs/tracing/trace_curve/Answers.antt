-- `path::tracing::trace_curve` meets its contract: each command's law of Traces. Assumes nothing.
use mathlib.Core.Path.{◌≡◌, refl, sym, ap, subst, ◌∙◌}
use Prim.Native.Nat.{ℕ, ◌+◌, ◌*◌, ◌/◌, ◌≤◌}
use native.Mathlib.Omega.{arith}
use lib.IntN.{ℤ}
use lib.ListN.{length}
use Rattle.path.specs.declared.Point.{Point}
use Rattle.path.specs.declared.Pen.{Pen}
use Rattle.path.specs.declared.Curve.{Curve}
use Rattle.path.specs.declared.Segment.{Segment}
use Rattle.path.specs.declared.Traced.{Traced}
use Rattle.path.specs.Segments.{pair_at, base, quad_to, cubic_to, coordinate_from, coordinates_taken}
use Rattle.path.specs.Answers.{traced_as, traced_by}
use Rattle.path.specs.Limits.{Near}
use Rattle.path.proofs.Traces.{taken_by, enough_at, near_base, traced_quad, traced_cubic, traced_smooth_quad, traced_smooth_cubic}
use Rattle.path.proofs.tracing.trace_curve.Goals as goal
use Rattle.path.proofs.tracing.trace_curve.Tie as tie
use Rattle.path.proofs.tracing.trace_curve.Lts as lts
use Rattle.path.proofs.tracing.trace_curve.Reads as reads

abbrev coordinate : lts.After-base tie.the-claims reads.Pre reads.Post → ℕ → ℤ
coordinate from = let a = from.args in coordinate_from a.coordinates.now a.walk.used

near : (from : lts.After-base tie.the-claims reads.Pre reads.Post) → Near from.base-base.result
near from =
    subst Near (sym from.base-base.ensures) (near_base from.args.byte from.args.walk.pen from.requires.0.held)

abbrev pointAt : lts.After-base tie.the-claims reads.Pre reads.Post → ℕ → Point
pointAt from j = let a = from.args in pair_at (base a.byte a.walk.pen) (coordinate from) j

at_base : (from : lts.After-base tie.the-claims reads.Pre reads.Post) (j : ℕ) (p : Point) → p ≡ pair_at from.base-base.result (coordinate from) j
    → p ≡ pointAt from j
at_base from j p e = e ∙ ap (λ (o : Point). pair_at o (coordinate from) j) from.base-base.ensures

-- what is returned, by how many coordinates are used
used : (from : lts.After-base tie.the-claims reads.Pre reads.Post) (r : Traced) (pen pen₂ : Pen) (curve curve₂ : Curve)
    → r ≡ traced_as (from.args.walk.used + from.taken.result) pen curve → pen ≡ pen₂ → curve ≡ curve₂
    → r ≡ traced_as (from.args.walk.used + coordinates_taken from.args.byte) pen₂ curve₂
used from r pen pen₂ curve curve₂ e p q = e ∙ (λ i. traced_as (from.args.walk.used + from.taken.ensures.0 i) (p i) (q i))

kind : (split : lts.After-split tie.the-claims reads.Pre reads.Post) → (k : ℕ) → split.split-s.result.command ≡ k → split.args.byte / 2 ≡ k
kind split k e = sym (ap (λ (s : Segment). s.command) split.split-s.ensures) ∙ e

enough : (split : lts.After-split tie.the-claims reads.Pre reads.Post) → (k : ℕ) → split.split-s.result.command ≡ k
    → 2 * (split.args.walk.used + taken_by k) ≤ length split.args.coordinates.now
enough split k e = enough_at split.args.coordinates.now split.args.walk split.args.byte k split.requires.0 ((kind split k) e)

pub pair_at-q-requires-in_default : goal.pair_at-q-requires-in_default
pair_at-q-requires-in_default c =
    let smooth : c.split-s.result.command ≡ 8 = omega (arith, kind c.before.before.before _ refl, c.requires.0.segment, c.requires.1) in
    (omega (arith, enough c.before.before.before 8 smooth), near c.before.before.before.before.before)

pub returns-in-5 : goal.returns-in-5
unfolding traced_by
returns-in-5 c =
    let p = c.pair_at-p in
    let q = c.pair_at-q in
    let a = c.args in
    used c.before.before.before.before.before.before.before.before _ _ _ _ _ c.traced.ensures c.quad_to.ensures c.quad.ensures
    ∙ traced_quad a.walk.pen a.byte (coordinate c.before.before.before.before.before.before.before.before)
    (kind c.before.before.before.before.before.before 5 c.in-5.is) _ p.result q.result
    (at_base c.before.before.before.before.before.before.before.before 0 p.result p.ensures)
    (at_base c.before.before.before.before.before.before.before.before 2 q.result q.ensures)

pub returns-in-6 : goal.returns-in-6
unfolding traced_by
returns-in-6 c =
    let p = c.pair_at-p in
    let q = c.pair_at-q-in-6 in
    let r = c.pair_at-r in
    let a = c.args in
    used c.before.before.before.before.before.before.before.before.before _ _ _ _ _ c.traced-in-6.ensures c.cubic_to.ensures c.cubic.ensures
    ∙ traced_cubic a.walk.pen a.byte (coordinate c.before.before.before.before.before.before.before.before.before)
    (kind c.before.before.before.before.before.before.before 6 c.in-6.is) _ p.result q.result r.result
    (at_base c.before.before.before.before.before.before.before.before.before 0 p.result p.ensures)
    (at_base c.before.before.before.before.before.before.before.before.before 2 q.result q.ensures)
    (at_base c.before.before.before.before.before.before.before.before.before 4 r.result r.ensures)

pub returns-in-7 : goal.returns-in-7
unfolding traced_by
returns-in-7 c =
    let p = c.pair_at-p in
    let a = c.args in
    let curve = c.quad-in-7.ensures ∙ ap (λ (d : Point). quad_to d p.result) c.reflected-c.ensures in
    used c.before.before.before.before.before.before.before.before _ _ _ _ _ c.traced-in-7.ensures c.smooth_quad_to.ensures curve
    ∙ traced_smooth_quad a.walk.pen a.byte (coordinate c.before.before.before.before.before.before.before.before)
    (kind c.before.before.before.before.before.before 7 c.in-7.is) _ p.result
    (at_base c.before.before.before.before.before.before.before.before 0 p.result p.ensures)

pub returns-in_default : goal.returns-in_default
unfolding traced_by
returns-in_default c =
    let smooth : c.split-s.result.command ≡ 8 = omega (
      arith,
      kind c.before.before.before.before.before.before.before _ refl,
      c.requires.0.segment,
      c.requires.1,
    ) in
    let p = c.pair_at-p in
    let q = c.pair_at-q-in_default in
    let a = c.args in
    let curve = c.cubic-in_default.ensures ∙ ap (λ (d : Point). cubic_to d p.result q.result) c.reflected-c-in_default.ensures in
    used c.before.before.before.before.before.before.before.before.before _ _ _ _ _ c.traced-in_default.ensures c.smooth_cubic_to.ensures curve
    ∙ traced_smooth_cubic a.walk.pen a.byte (coordinate c.before.before.before.before.before.before.before.before.before)
    (kind c.before.before.before.before.before.before.before 8 smooth) _ p.result q.result
    (at_base c.before.before.before.before.before.before.before.before.before 0 p.result p.ensures)
    (at_base c.before.before.before.before.before.before.before.before.before 2 q.result q.ensures)
