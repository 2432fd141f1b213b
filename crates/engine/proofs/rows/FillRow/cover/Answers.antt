-- `rows::FillRow::cover` meets its contract: the scissors leave of k what they do, or all of it.
use mathlib.Core.Path.{subst, ◌∙◌}
use Prim.Native.Nat.{◌≤◌}
use native.Mathlib.Omega.{arith}
use lib.ListN.{length}
use Rattle.runs.specs.Runs.{Runs}
use Rattle.path.specs.Stored.{edges_of}
use Rattle.engine.specs.Rows.{Few}
use Rattle.engine.proofs.RowLaws.{coverage_fits, cover_plain, cover_scissored}
use Rattle.engine.proofs.rows.FillRow.cover.Goals as goal

pub returns-in-None : goal.returns-in-None
returns-in-None c =
    let call = c.coverage_runs-n in
    let a = c.args in
    let s = a.self.now.strip in
    let long = c.requires.marks_len.0 in
    record {
      scratch_unchanged = call.ensures.scratch_unchanged;
      runs = subst (Runs call.new.runs call.result) long call.ensures.runs;
      result_after = cover_plain a.self.now.brush.style
          (edges_of a.scratch.now a.self.now.brush.style.edges) a.self.now.brush.scissors.now s.x s.y s.length _ c.in-None.is
          (rw long at call.ensures.result_after);
    }

pub scissor_runs-requires : goal.scissor_runs-requires
scissor_runs-requires c =
    let call = c.coverage_runs-n in
    let a = c.args in
    let long = c.requires.marks_len.0 in
    let few : c.in-Some.count ≤ 4 = subst Few c.in-Some.is c.args.self.now.brush.cut.0 in
    record {
      count_bound = (few, omega (arith, few, c.args.self.now.brush.cut.1));
      marks_len = (call.auto.marks ∙ long, call.auto.runs ∙ c.requires.marks_len.1);
      runs = (
        subst (Runs call.new.runs call.result) long call.ensures.runs,
        coverage_fits (edges_of a.scratch.now a.self.now.brush.style.edges) a.self.now.brush.style.nonzero a.self.now.strip.x a.self.now.strip.y
            (length a.marks.now) _
            call.ensures.result_after,
      );
    }

pub returns-in-Some : goal.returns-in-Some
returns-in-Some c =
    let cut = c.scissor_runs in
    let call = c.coverage_runs-n in
    let a = c.args in
    let s = a.self.now.strip in
    record {
      scratch_unchanged = call.ensures.scratch_unchanged;
      runs = cut.ensures.runs_2;
      result_after = cover_scissored a.self.now.brush.style
          (edges_of a.scratch.now a.self.now.brush.style.edges) a.self.now.brush.scissors.now s.x s.y s.length c.in-Some.count _ _
          c.in-Some.is (rw c.requires.marks_len.0 at call.ensures.result_after) cut.ensures.result_after;
    }
