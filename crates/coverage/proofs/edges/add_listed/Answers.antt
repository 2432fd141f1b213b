-- `coverage::edges::add_listed` meets its contract. Assumes nothing.
use mathlib.Core.Path.{◌≡◌, refl, sym, ap, subst, ◌∙◌}
use mathlib.Core.Bool.{true}
use Prim.Native.Nat.{ℕ, ◌+◌, ◌*◌, ◌≤◌, ◌<◌}
use native.Mathlib.Omega.{arith}
use lib.ListN.{length, get_or}
use Rattle.path.specs.Stored.{edge_at, edges_of}
use Rattle.coverage.specs.Scanline.{missed, sums_at, with_sums, Marked}
use Rattle.coverage.specs.Band.{reach}
use Rattle.coverage.proofs.Turn.{no_sums, no_marks, turn_asks, turn_sums, turn_marks}
use Rattle.coverage.proofs.Listed.{reach_at, reach_end, gap_laid, gap_marks}
use Rattle.coverage.proofs.edges.add_listed.Goals as goal

pub loop-j-init : goal.loop-j-init
loop-j-init c =
    let a = c.args in
    let w = length a.cover.now in
    let r = reach a.list.now a.n 0 in
    let room = c.requires.edges.room in
    let g : (i : ℕ) → 0 ≤ i → i < r → missed (edge_at a.scratch.now i).y0 (edge_at a.scratch.now i).y1 a.y ≡ true =
    λ i u v. c.requires.needed.first i v in (
      refl,
      refl,
      no_sums a.n w a.c a.y a.scratch.now room c.requires.scratch_value
          ∙ gap_laid a.scratch.now a.y a.c (w * 4) a.n (w * 16) 0 r (omega arith) g,
      gap_marks a.scratch.now a.y a.c (w * 4) a.cover.now 0 r (omega arith) g
          (no_marks a.n w a.c a.y a.scratch.now room a.cover.now),
      c.requires.y_bound.2,
    )

pub overflow_cast-list : goal.overflow_cast-list
overflow_cast-list c =
    omega (arith, c.shared_slice_known-in-loop-j-1.given c.loop-j.j)

pub add_edge-requires : goal.add_edge-requires
add_edge-requires c =
    let a = c.args in
    let l = c.loop-j in
    let here = c.loop-j-test.true in
    let i = get_or a.list.now l.j 0 in
    let low = c.requires.needed.below l.j here in
    record {
      i_lt_n = (low, c.requires.y_bound.0, omega (arith, l.invariant.1, c.requires.y_bound.1), l.invariant.4);
      edges = (turn_asks a.n (length a.cover.now) a.c a.y a.scratch.now c.requires.edges.room i low l.scratch
          (l.invariant.2 ∙ ap (λ (i : ℕ). with_sums a.n (length a.cover.now) a.c a.y i a.scratch.now) (reach_at a.list.now a.n l.j here))
          (length l.cover)
          l.invariant.1 l.cover c.requires.edges l.invariant.0
          (subst (λ (m : ℕ). Marked l.cover (sums_at a.c (length a.cover.now * 4) a.y (edges_of a.scratch.now m)))
          (reach_at a.list.now a.n l.j here) l.invariant.3)).0;
      scratch_value = (turn_asks a.n (length a.cover.now) a.c a.y a.scratch.now c.requires.edges.room i low l.scratch
          (l.invariant.2 ∙ ap (λ (i : ℕ). with_sums a.n (length a.cover.now) a.c a.y i a.scratch.now) (reach_at a.list.now a.n l.j here)) (length l.cover)
          l.invariant.1 l.cover c.requires.edges l.invariant.0
          (subst (λ (m : ℕ). Marked l.cover (sums_at a.c (length a.cover.now * 4) a.y (edges_of a.scratch.now m)))
          (reach_at a.list.now a.n l.j here) l.invariant.3)).1.0;
      marked = (turn_asks a.n (length a.cover.now) a.c a.y a.scratch.now c.requires.edges.room i low l.scratch
          (l.invariant.2 ∙ ap (λ (i : ℕ). with_sums a.n (length a.cover.now) a.c a.y i a.scratch.now) (reach_at a.list.now a.n l.j here)) (length l.cover)
          l.invariant.1 l.cover c.requires.edges l.invariant.0
          (subst (λ (m : ℕ). Marked l.cover (sums_at a.c (length a.cover.now * 4) a.y (edges_of a.scratch.now m)))
          (reach_at a.list.now a.n l.j here) l.invariant.3)).1.1;
    }

pub loop-j-preserved : goal.loop-j-preserved
loop-j-preserved c =
    let a = c.args in
    let l = c.loop-j in
    let here = c.loop-j-test.true in
    let g = c.add_edge in
    let w = length a.cover.now in
    let i = get_or a.list.now l.j 0 in
    let r = reach a.list.now a.n (l.j + 1) in
    let k = c.requires.needed in
    let room = c.requires.edges.room in
    let low = k.below l.j here in
    let rise : i + 1 ≤ r = omega (arith, k.rise l.j here) in
    let gap : (m : ℕ) → i + 1 ≤ m → m < r → missed (edge_at a.scratch.now m).y0 (edge_at a.scratch.now m).y1 a.y ≡ true =
    λ m u v. k.gap l.j m here (omega (arith, u)) v in
    let sums = turn_sums a.n w a.c a.y a.scratch.now room i low l.scratch
    (l.invariant.2 ∙ ap (λ (i : ℕ). with_sums a.n (length a.cover.now) a.c a.y i a.scratch.now) (reach_at a.list.now a.n l.j here))
    (length l.cover) l.invariant.1 g.new.scratch
    g.ensures.scratch_after in
    let marks = turn_marks a.n w a.c a.y a.scratch.now room i low l.scratch
    (l.invariant.2 ∙ ap (λ (i : ℕ). with_sums a.n (length a.cover.now) a.c a.y i a.scratch.now) (reach_at a.list.now a.n l.j here))
    (length l.cover) l.invariant.1
    g.new.cover g.ensures.marked_2 in (
      omega (arith, g.auto.scratch, l.invariant.0),
      omega (arith, g.auto.cover, l.invariant.1),
      sums ∙ gap_laid a.scratch.now a.y a.c (w * 4) a.n (w * 16) (i + 1) r rise gap,
      gap_marks a.scratch.now a.y a.c (w * 4) g.new.cover (i + 1) r rise gap marks,
      g.ensures.grouped,
    )

pub shape_of-groups : goal.shape_of-groups
shape_of-groups c =
    c.loop-j.invariant.4.long ∙ sym c.requires.y_bound.2.long

pub returns : goal.returns
returns c =
    let a = c.args in
    let l = c.loop-j in
    let e = reach_end a.list.now a.n l.j (omega arith) in
    record {
      scratch_after = l.invariant.2 ∙ ap (λ (i : ℕ). with_sums a.n (length a.cover.now) a.c a.y i a.scratch.now) e;
      marked = subst (λ (i : ℕ). Marked l.cover (sums_at a.c (length a.cover.now * 4) a.y (edges_of a.scratch.now i))) e l.invariant.3;
      grouped = l.invariant.4;
    }
