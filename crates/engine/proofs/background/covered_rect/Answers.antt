-- `background::covered_rect` meets its contract: what it answers was seen to be covered, or has no pixel.
use mathlib.Core.Path.{◌≡◌, refl, sym, ap, ◌∙◌}
use mathlib.Core.List.{List}
use Prim.Native.Nat.{ℕ, ◌≤◌}
use lib.IntN.{ℤ}
use native.Mathlib.Omega.{arith}
use Rattle.rect.specs.declared.Rect.{Rect}
use Rattle.rect.specs.Rects.{empty_of}
use Rattle.path.specs.Boxes.{box_of}
use Rattle.rect.proofs.Laws.{Wide, not_empty}
use Rattle.path.specs.Stored.{edges_of}
use Rattle.engine.proofs.Steps.{edges_on}
use Rattle.engine.proofs.Hiding.{empty_covered}
use Rattle.engine.proofs.background.covered_rect.Goals as goal

-- the box lies on the surface
on : (n width height : ℕ) (scratch : List ℤ) (b : Rect) → b ≡ box_of width height (edges_of scratch n) → (width ≤ 1024) × (height ≤ 1024)
    → (b.x1 ≤ 1024) × (b.y1 ≤ 1024)
on n width height scratch b e within =
    let o = edges_on width height (edges_of scratch n) in (
      omega (arith, ap (λ (r : Rect). r.x1) e, o.0, within.0),
      omega (arith, ap (λ (r : Rect). r.y1) e, o.1, within.1),
    )

-- and has a pixel
some : (c : goal.Else-is_empty) → Wide c.bounds-b.result
some c = not_empty c.bounds-b.result (sym c.is_empty.ensures ∙ c.if-is_empty.false)

pub bounds-b-requires : goal.bounds-b-requires
bounds-b-requires c =
    let r = c.requires.outlined in
    (omega (arith, r.few, r.room), c.requires.width_bound)

pub returns-then-is_empty : goal.returns-then-is_empty
returns-then-is_empty c =
    let a = c.args in
    empty_covered (edges_of a.scratch.now a.n) c.bounds-b.result (sym c.is_empty.ensures ∙ c.if-is_empty.true)

pub is_covered-requires : goal.is_covered-requires
is_covered-requires c =
    record {
      outlined = c.requires.outlined;
      x1_bound = on c.args.n c.args.width c.args.height c.args.scratch.now c.bounds-b.result c.bounds-b.ensures
          c.requires.width_bound;
    }

pub returns-then-is_covered : goal.returns-then-is_covered
returns-then-is_covered c =
    c.is_covered.ensures c.if-is_covered.true

pub overflow_add-inner : goal.overflow_add-inner
overflow_add-inner c =
    omega (
      arith,
      (some c.before.before.before).wide,
      (on c.args.n c.args.width c.args.height c.args.scratch.now c.bounds-b.result c.bounds-b.ensures
          c.requires.width_bound).0,
    )

pub overflow_add-inner-2 : goal.overflow_add-inner-2
overflow_add-inner-2 c =
    omega (
      arith,
      (some c.before.before.before.before).high,
      (on c.args.n c.args.width c.args.height c.args.scratch.now c.bounds-b.result c.bounds-b.ensures
          c.requires.width_bound).1,
    )

pub overflow_sub-inner : goal.overflow_sub-inner
overflow_sub-inner c =
    omega (arith, (some c.before.before.before.before.before).wide)

pub overflow_sub-inner-2 : goal.overflow_sub-inner-2
overflow_sub-inner-2 c =
    omega (arith, (some c.before.before.before.before.before.before).high)

pub is_covered-requires-2 : goal.is_covered-requires-2
is_covered-requires-2 c =
    let o = on c.args.n c.args.width c.args.height c.args.scratch.now c.bounds-b.result c.bounds-b.ensures c.requires.width_bound in
    record { outlined = c.requires.outlined; x1_bound = (omega (arith, o.0), omega (arith, o.1)) }

pub returns-then-is_covered-2 : goal.returns-then-is_covered-2
returns-then-is_covered-2 c =
    c.is_covered-2.ensures c.if-is_covered-2.true

pub returns : goal.returns
returns c =
    let a = c.args in
    empty_covered (edges_of a.scratch.now a.n) _ refl
