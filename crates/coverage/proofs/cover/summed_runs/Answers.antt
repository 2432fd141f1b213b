-- `coverage::cover::summed_runs` meets its contract. Assumes nothing.
use mathlib.Core.Path.{◌≡◌, refl, sym, ap, subst, ◌∙◌}
use mathlib.Core.List.{List, ◌++◌}
use Prim.Native.Nat.{ℕ, ◌+◌, ◌-◌, ◌≤◌}
use native.Mathlib.Omega.{arith}
use lib.ListN.{length, take, drop}
use lib.IntN.{ℤ}
use Rattle.lists.specs.Lists.{tab}
use Rattle.lists.proofs.Laws.{part_length}
use Rattle.runs.specs.Runs.{expand, Runs}
use Rattle.path.specs.Stored.{edges_of}
use Rattle.coverage.specs.Winding.{coverage}
use Rattle.coverage.specs.Scanline.{Outlined}
use Rattle.coverage.specs.Band.{Needed}
use Rattle.coverage.proofs.Window.{k_of, runs_turn}
use borrow.Author.Rules.{rules}
use Rattle.coverage.proofs.cover.summed_runs.Goals as goal
use Rattle.coverage.proofs.cover.summed_runs.Tie as tie
use Rattle.coverage.proofs.cover.summed_runs.Lts as lts
use Rattle.coverage.proofs.cover.summed_runs.Reads as reads

-- as many pixels as are lent
width : (c : lts.After-min tie.the-claims reads.Pre reads.Post goal.the-invariant-loop-i goal.the-decreases-loop-i tie.handed_clauses) → let l = c.loop-i in
    (l.i ≤ c.min-end.result)
    × (c.min-end.result ≤ length l.marks)
    × (length (take (c.min-end.result - l.i) (drop l.i l.marks)) ≡ c.min-end.result - l.i)
width c =
    let l = c.loop-i in
    let e = c.min-end.result in
    let a : l.i ≤ e = omega (arith, c.min-end.ensures, l.invariant.0, l.invariant.2) in
    let b : e ≤ length l.marks = omega (arith, c.min-end.ensures) in
    (a, b, part_length l.marks l.i e a b)

pub overflow_mul-most : goal.overflow_mul-most
overflow_mul-most c =
    omega (arith, c.requires.outlined.0.few)

pub overflow_sub-most : goal.overflow_sub-most
overflow_sub-most c =
    omega (arith, c.requires.outlined.0.few, c.requires.outlined.0.room)

pub loop-i-init : goal.loop-i-init
loop-i-init c =
    (omega arith, refl, refl, refl, record { rises = λ j h. absurd (omega (arith, h)); last = refl }, refl)

pub window_runs-n-requires : goal.window_runs-n-requires
window_runs-n-requires c =
    let a = c.args in
    let l = c.loop-i in
    let w = width c.before.before.before.before in
    record {
      outlined = subst (λ (s : List ℤ). Outlined s a.line.edges × Needed s a.line.edges a.line.y a.list.now) (sym l.invariant.1) c.requires.outlined;
      y_bound = (
        c.requires.y_bound.0,
        omega (arith, w.0, w.1, w.2, l.invariant.2, c.requires.y_bound.1),
        omega (arith, w.2, c.min-end.ensures, ap length l.invariant.1, c.requires.outlined.0.few, c.requires.outlined.0.room),
      );
      runs = (l.invariant.4, omega (arith, w.0, w.1, w.2, l.invariant.2, l.invariant.3, c.requires.y_bound.2));
    }

pub loop-i-preserved : goal.loop-i-preserved
loop-i-preserved c =
    let a = c.args in
    let l = c.loop-i in
    let e = c.min-end.result in
    let w = width c.before.before.before.before.before.before.before.before.before.before in
    let g = c.window_runs-n in
    let f : List ℤ → List ℕ = λ s. tab (length (take (e - l.i) (drop l.i l.marks)))
    (λ j. coverage (edges_of s a.line.edges) a.line.nonzero (a.line.x + l.i + j) a.line.y) in (
      omega (arith, w.1, l.invariant.2),
      g.ensures.scratch_unchanged ∙ l.invariant.1,
      search rules,
      g.ensures.runs_2.1 ∙ l.invariant.3,
      subst (Runs g.new.runs g.result) (omega (arith, w.0, w.2)) g.ensures.runs_2.0,
      runs_turn (edges_of a.scratch.now a.line.edges) a.line.nonzero a.line.x a.line.y (expand l.runs l.n)
          (expand g.new.runs g.result) l.i e _ w.0 w.2 l.invariant.5
          (g.ensures.result_after ∙ ap (λ (s : List ℤ). expand l.runs l.n ++ f s) l.invariant.1),
    )

pub returns : goal.returns
returns c =
    let a = c.args in
    let l = c.loop-i in
    let e : l.i ≡ length a.marks.now = omega (arith, l.invariant.0, l.invariant.2) in
    record {
      scratch_unchanged = l.invariant.1;
      runs = subst (Runs l.runs l.n) e l.invariant.4;
      result_after = l.invariant.5
          ∙ ap (λ (m : ℕ). tab m (k_of (edges_of a.scratch.now a.line.edges) a.line.nonzero a.line.x a.line.y)) e;
    }
