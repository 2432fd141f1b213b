-- `coverage::cover::window_runs` meets its contract. Assumes nothing.
use mathlib.Core.Path.{◌≡◌, refl, sym, ap, ap₂, subst, ◌∙◌}
use mathlib.Core.List.{List, ◌++◌}
use Prim.Native.Nat.{ℕ, ◌+◌, ◌*◌, ◌-◌, ◌≤◌}
use native.Mathlib.Omega.{arith}
use lib.ListN.{length, take, drop}
use lib.IntN.{ℤ}
use Rattle.lists.specs.Lists.{tab}
use Rattle.lists.proofs.Laws.{tab_length}
use Rattle.runs.specs.Runs.{expand, Runs}
use Rattle.path.specs.Stored.{edge_at, edges_of}
use Rattle.coverage.specs.Winding.{coverage}
use Rattle.coverage.specs.Scanline.{at, laid, zeros, pixel_of, Marked, Tame}
use Rattle.coverage.proofs.Groups.{none_grouped}
use Rattle.coverage.proofs.Zeros.{clear_laid, filled}
use Rattle.coverage.proofs.Window.{sums_of, sums_long, sums_marked, sums_tame, window_covers, part_is, given_back}
use Rattle.coverage.proofs.cover.window_runs.Goals.{After-add_listed}
use Rattle.coverage.proofs.cover.window_runs.Goals as goal

-- the part that is lent
lent : (c : After-add_listed)
    → let a = c.args in
    let w = length c.fill.new.self in
    let n = a.line.edges in
    take (n * 4 + w * 16 - n * 4) (drop (n * 4) c.add_listed.new.scratch)
    ≡ sums_of (4 * (a.line.x + a.from)) w a.line.y (edges_of a.scratch.now n)
lent c =
    let a = c.args in
    let u = c.fill in
    let w = length u.new.self in
    let n = a.line.edges in
    let es = edges_of a.scratch.now n in
    let x = a.line.x + a.from in
    part_is (n * 4) (w * 16) a.scratch.now (sums_of (4 * x) w a.line.y es) c.add_listed.new.scratch (omega (arith, u.auto.self, c.requires.y_bound.2))
    (sums_long (4 * x) w a.line.y es) c.add_listed.ensures.scratch_after

pub add_listed-requires : goal.add_listed-requires
add_listed-requires c =
    let a = c.args in
    let u = c.fill in
    let p = c.requires.outlined.0 in
    let n = a.line.edges in
    let r : n * 4 + length u.new.self * 16 ≤ length a.scratch.now = omega (arith, u.auto.self, c.requires.y_bound.2) in
    record {
      y_bound = (
        c.requires.y_bound.0,
        omega (arith, u.auto.self, c.requires.y_bound.1),
        none_grouped u.new.self (length a.marks.now) (u.ensures.after (λ y e. e) ∙ filled (length a.marks.now) 0) u.auto.self
            (omega (arith, c.requires.y_bound.1)) refl,
      );
      edges = record { few = p.few; room = r; small = p.small };
      scratch_value = clear_laid a.scratch.now n (length u.new.self * 16) r p.clear;
      needed = c.requires.outlined.1;
    }

pub take_runs-requires : goal.take_runs-requires
take_runs-requires c =
    let a = c.args in
    let g = c.add_listed in
    let u = c.fill in
    let w = length u.new.self in
    let es = edges_of a.scratch.now a.line.edges in
    let x = a.line.x + a.from in
    let d = g.new.cover in
    let k : length d ≡ w = g.auto.cover in
    let few : length es ≤ 1000000 = omega (arith, tab_length a.line.edges (edge_at a.scratch.now), c.requires.outlined.0.few) in
    record {
      sums_len = subst (λ (t : List ℤ). (length t ≡ length d * 16) × Marked d (at t)
          × Tame t (length d * 4)) (sym (lent (goal.at.take_runs-requires c).After-add_listed)) (
            sums_long (4 * x) w a.line.y es ∙ ap (λ (n : ℕ). n * 16) (sym k),
            sums_marked (4 * x) w a.line.y es d k g.ensures.marked,
            subst (λ (n : ℕ). Tame (sums_of (4 * x) w a.line.y es) (n * 4)) (sym k) (sums_tame (4 * x) w a.line.y es few),
          );
      grouped = g.ensures.grouped;
      runs = (c.requires.runs.0, omega (arith, k, u.auto.self, c.requires.runs.1), omega (arith, k, u.auto.self, c.requires.y_bound.1));
    }

pub returns : goal.returns
returns c =
    let a = c.args in
    let u = c.fill in
    let g = c.add_listed in
    let t = c.take_runs in
    let w = length u.new.self in
    let n = a.line.edges in
    let es = edges_of a.scratch.now n in
    let x = a.line.x + a.from in
    let long = sums_long (4 * x) w a.line.y es in
    let r : n * 4 + w * 16 ≤ length a.scratch.now = omega (arith, u.auto.self, c.requires.y_bound.2) in
    let k : length g.new.cover ≡ w = g.auto.cover in
    record {
      scratch_unchanged = given_back (n * 4) (w * 16) a.scratch.now (sums_of (4 * x) w a.line.y es) g.new.scratch r long g.ensures.scratch_after t.new.sums
          (clear_laid a.scratch.now n (w * 16) r c.requires.outlined.0.clear
          ∙ ap (laid (n * 4) (w * 16) a.scratch.now) (sym (t.ensures.sums_after ∙ ap zeros (ap length (lent (goal.at.returns c).After-add_listed) ∙ long))));
      runs_2 = (
        subst (λ (p : ℕ). Runs t.new.runs t.result (a.from + p)) (k ∙ u.auto.self) t.ensures.runs_2.0,
        t.ensures.runs_2.1,
      );
      result_after = t.ensures.result_after
          ∙ ap (λ (q : List ℕ). expand a.runs.now a.n ++ q)
          (ap₂ (λ (m : ℕ) (q : List ℤ). tab m (pixel_of a.line.nonzero q)) k (lent (goal.at.returns c).After-add_listed)
          ∙ window_covers x w a.line.y es a.line.nonzero
          ∙ ap (λ (m : ℕ). tab m (λ i. coverage es a.line.nonzero (x + i) a.line.y)) u.auto.self);
    }
