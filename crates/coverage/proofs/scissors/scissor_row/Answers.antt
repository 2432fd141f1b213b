-- `coverage::scissors::scissor_row` meets its contract. Assumes nothing.
use mathlib.Core.Path.{◌≡◌, refl, sym, ap, subst, ◌∙◌}
use mathlib.Core.Bool.{Bool, ◌||◌}
use Prim.Native.Nat.{ℕ, ◌+◌, ◌-◌, ◌≤◌, ◌<◌}
use native.Mathlib.Omega.{arith}
use lib.ListN.{length}
use Rattle.lists.specs.Lists.{tab}
use Rattle.lists.proofs.Laws.{tab_all, tab_length, over_length}
use Rattle.coverage.specs.Scissors.{in_scissors}
use Rattle.coverage.specs.Scanline.{in_span}
use Rattle.coverage.proofs.Rectangles.{spans_are, four_same}
use Rattle.coverage.proofs.Borders.{pixel, stretch_cut}
use Rattle.coverage.proofs.scissors.scissor_row.Goals as goal
use Rattle.coverage.proofs.scissors.scissor_row.Tie as tie
use Rattle.coverage.proofs.scissors.scissor_row.Lts as lts
use Rattle.coverage.proofs.scissors.scissor_row.Reads as reads

abbrev columns-held : (c : lts.After-span4 tie.the-claims reads.Pre reads.Post goal.the-invariant-loop-i goal.the-decreases-loop-i tie.handed_clauses) → ℕ
    → Bool
columns-held c x =
    in_span c.span-a.result x || in_span c.span-b.result x
    || in_span c.span-c.result x || in_span c.span-d.result x

held : (c : lts.After-span4 tie.the-claims reads.Pre reads.Post goal.the-invariant-loop-i goal.the-decreases-loop-i tie.handed_clauses) → (x : ℕ)
    → (columns-held c) x ≡ in_scissors c.args.scissors.now c.args.n x c.args.y
held c x =
    four_same x c.span-a.ensures c.span-b.ensures c.span-c.ensures c.span-d.ensures
    ∙ spans_are c.args.scissors.now c.args.n x c.args.y c.requires.n_bound.0

abbrev x : (c : lts.After-nearest_border tie.the-claims reads.Pre reads.Post goal.the-invariant-loop-i goal.the-decreases-loop-i tie.handed_clauses) → ℕ
x c = c.args.x

abbrev e : (c : lts.After-nearest_border tie.the-claims reads.Pre reads.Post goal.the-invariant-loop-i goal.the-decreases-loop-i tie.handed_clauses) → ℕ
e c = c.nearest_border.result - (x c)

within : (c : lts.After-nearest_border tie.the-claims reads.Pre reads.Post goal.the-invariant-loop-i goal.the-decreases-loop-i tie.handed_clauses)
    → (c.loop-i.i < (e c)) × ((e c) ≤ length c.args.cover.now)
within c = (omega (arith, c.nearest_border.ensures.lower_bound), omega (arith, c.nearest_border.ensures.lower_bound, c.loop-i.invariant.1))

alike : (c : lts.After-nearest_border tie.the-claims reads.Pre reads.Post goal.the-invariant-loop-i goal.the-decreases-loop-i tie.handed_clauses)
    → (keep : Bool) → keep ≡ columns-held c.before.before.before ((x c) + c.loop-i.i) → (m : ℕ) → c.loop-i.i ≤ m → m < (e c)
    → keep ≡ in_scissors c.args.scissors.now c.args.n ((x c) + m) c.args.y
alike c keep q m g l = q ∙ sym (c.nearest_border.ensures.by_index ((x c) + m) (omega (arith, g)) (omega (arith, l))) ∙ held c.before.before.before ((x c) + m)

pub loop-i-init : goal.loop-i-init
loop-i-init c =
    (omega arith, refl, refl)

pub nearest_border-requires : goal.nearest_border-requires
nearest_border-requires c =
    (omega arith, omega (arith, c.loop-i.invariant, c.requires))

pub loop-i-smaller : goal.loop-i-smaller
loop-i-smaller c =
    omega (arith, within c.before.before.before.before.before.before)

pub loop-i-preserved : goal.loop-i-preserved
loop-i-preserved c =
    let a = c.args in
    let laid =
    stretch_cut a.scissors.now a.n a.x a.y a.cover.now c.loop-i.cover c.cut.new.part c.loop-i.i (e c.before.before.before.before.before.before)
    c.kept-keep.result (omega (arith, within c.before.before.before.before.before.before)) (within c.before.before.before.before.before.before).1
    c.loop-i.invariant.1 c.loop-i.invariant.2
    (alike c.before.before.before.before.before.before c.kept-keep.result c.kept-keep.ensures) c.cut.ensures
    in (
      (within c.before.before.before.before.before.before).1,
      ap length laid
          ∙ over_length (tab (e c.before.before.before.before.before.before) (pixel a.scissors.now a.n a.x a.y a.cover.now)) a.cover.now
          (subst (λ (m : ℕ). m ≤ length a.cover.now) (sym (tab_length (e c.before.before.before.before.before.before) (pixel a.scissors.now a.n a.x a.y
          a.cover.now)))
          (within c.before.before.before.before.before.before).1),
      laid,
    )

pub returns : goal.returns
returns c =
    let a = c.args in
    tab_all (pixel a.scissors.now a.n a.x a.y a.cover.now) c.loop-i.cover a.cover.now c.loop-i.i
    (length a.cover.now) c.loop-i.invariant.2 (omega arith) refl
