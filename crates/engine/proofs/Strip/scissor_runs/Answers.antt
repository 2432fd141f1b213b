-- `Strip::scissor_runs` meets its contract: k of each pixel, cut by the scissors, and collected again.
use mathlib.Core.Path.{◌≡◌, sym, subst, ◌∙◌}
use native.Mathlib.Omega.{arith}
use lib.ListN.{length}
use Rattle.runs.specs.Runs.{Runs}
use Rattle.runs.proofs.Expand.{runs_few}
use Rattle.blend.specs.Rows.{Coverage}
use Rattle.engine.proofs.RowLaws.{cut_small, cut_row}
use Rattle.engine.proofs.Strip.scissor_runs.Goals as goal
use Rattle.engine.proofs.Strip.scissor_runs.Tie as tie
use Rattle.engine.proofs.Strip.scissor_runs.Lts as lts
use Rattle.engine.proofs.Strip.scissor_runs.Reads as reads

cut-length : (c : lts.After-scissor_row tie.the-claims reads.Pre reads.Post tie.handed_clauses) → length c.scissor_row.new.cover ≡ c.args.self.length
cut-length c = c.scissor_row.auto.cover ∙ c.expand_row.auto.row ∙ c.requires.marks_len.0

pub expand_row-requires : goal.expand_row-requires
expand_row-requires c =
    let a = c.args in (
      subst (Runs a.runs.now a.n) (sym c.requires.marks_len.0) c.requires.runs.0,
      omega
          (arith, runs_few a.runs.now a.n a.self.length c.requires.runs.0, c.requires.marks_len.1),
    )

pub collect-requires : goal.collect-requires
collect-requires c =
    let a = c.args in
    let cut = c.scissor_row in
    let laid = c.expand_row in
    let long = cut-length c.before.before.before.before in
    record {
      row_in_bounds = (omega (arith, long, c.requires.marks_len.1), omega (arith, long, c.args.self.on_surface));
      by_index = cut_small a.scissors.now a.count a.self.x a.self.y cut.new.cover laid.new.row cut.ensures
          (subst Coverage (sym laid.ensures) c.requires.runs.1);
    }

pub returns : goal.returns
returns c =
    let a = c.args in
    let made = c.collect in
    let cut = c.scissor_row in
    let laid = c.expand_row in
    record {
      runs_2 = subst (Runs made.new.runs made.result) (cut-length c.before.before.before.before.before.before.before) made.ensures.runs.0;
      result_after = made.ensures.result_after
          ∙ cut_row a.scissors.now a.count a.self.x a.self.y cut.new.cover laid.new.row cut.ensures
          a.self.length _
          laid.ensures (laid.auto.row ∙ c.requires.marks_len.0);
    }
