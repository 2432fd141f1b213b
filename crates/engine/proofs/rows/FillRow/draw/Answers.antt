-- `rows::FillRow::draw` meets its contract: coverage and paint together are the step.
use mathlib.Core.Path.{◌∙◌}
use Prim.Native.Nat.{◌≤◌}
use native.Mathlib.Omega.{arith}
use lib.ListN.{length}
use Rattle.lists.proofs.Laws.{part_length}
use Rattle.runs.proofs.Expand.{runs_few}
use Rattle.path.specs.Stored.{edges_of}
use Rattle.engine.proofs.RowLaws.{cover_fits, row_steps, first_given}
use Rattle.engine.proofs.Taken.{taken_covered, taken_row}
use Rattle.engine.proofs.rows.FillRow.draw.Goals as goal

pub cover-count-requires : goal.cover-count-requires
cover-count-requires c =
    let a = c.args in
    let o = c.requires.row_len in
    let n = a.self.now.strip.length in
    record {
      outlined = c.requires.outlined;
      marks_len = (part_length a.buffer.now 0 n (omega arith) (omega (arith, o.1.0)) ∙ omega arith, o.1.1);
    }

pub slice_bounds-covered-end : goal.slice_bounds-covered-end
slice_bounds-covered-end c =
    let r = c.cover-count in
    omega (arith, runs_few r.new.runs r.result c.args.self.now.strip.length r.ensures.runs, r.auto.runs, c.requires.row_len.1.1)

pub invariant_of-covered : goal.invariant_of-covered
invariant_of-covered c =
    let a = c.args in
    let s = a.self.now.strip in
    let r = c.cover-count in
    let few : r.result ≤ length r.new.runs = omega (arith, runs_few r.new.runs r.result s.length r.ensures.runs, r.auto.runs, c.requires.row_len.1.1) in
    record {
      masked = a.self.now.masked;
      covered = taken_covered r.new.runs r.result few s.length r.ensures.runs
          (cover_fits a.self.now.brush.style
          (edges_of a.scratch.now a.self.now.brush.style.edges) a.self.now.brush.scissors.now s.x s.y s.length _ r.ensures.result_after);
    }

pub blend-requires : goal.blend-requires
blend-requires c =
    let a = c.args in
    let n = a.self.now.strip.length in
    let o = c.requires.row_len in
    let r = c.cover-count in
    let marks = r.auto.marks ∙ part_length a.buffer.now 0 n (omega arith) (omega (arith, o.1.0)) ∙ omega arith in
    record { row_len = (o.0, first_given a.buffer.now r.new.marks n marks (omega (arith, o.1.0)) ∙ o.1.0) }

pub shape_of-buffer : goal.shape_of-buffer
shape_of-buffer c =
    let a = c.args in
    let n = a.self.now.strip.length in
    let o = c.requires.row_len in
    let r = c.cover-count in
    let marks = r.auto.marks ∙ part_length a.buffer.now 0 n (omega arith) (omega (arith, o.1.0)) ∙ omega arith in
    c.blend.auto.buffer ∙ first_given a.buffer.now r.new.marks n marks (omega (arith, o.1.0))

pub returns : goal.returns
returns c =
    let r = c.cover-count in
    let a = c.args in
    let s = a.self.now.strip in
    let few : r.result ≤ length r.new.runs = omega (arith, runs_few r.new.runs r.result s.length r.ensures.runs, r.auto.runs, c.requires.row_len.1.1) in
    record {
      scratch_unchanged = r.ensures.scratch_unchanged;
      row_after = row_steps a.self.now.brush.style
          (edges_of a.scratch.now a.self.now.brush.style.edges) a.self.now.brush.scissors.now s.x s.y s.length _ a.row.now
          a.self.now.brush.ramp.now a.self.now.brush.mask.now c.blend.new.row r.ensures.result_after
          (taken_row r.new.runs r.result few a.self.now.brush.style.mode _ _ a.row.now c.blend.new.row c.blend.ensures);
    }
