-- `rows::ShadedRow::blend_masked` meets its contract: the paint's row, blended through the mask by all of the row's runs.
use mathlib.Core.Path.{◌≡◌, sym, ap, ◌∙◌}
use Prim.Native.Nat.{ℕ, ◌-◌, ◌*◌}
use native.Mathlib.Omega.{arith}
use lib.ListN.{length, get_or}
use Rattle.runs.specs.Runs.{start_of}
use Rattle.runs.proofs.Expand.{runs_length}
use Rattle.engine.specs.Rows.{levels}
use Rattle.engine.proofs.RowLaws.{painted_row}
use Rattle.engine.proofs.rows.ShadedRow.blend_masked.Goals as goal

pub composite_masked_runs-requires : goal.composite_masked_runs-requires
composite_masked_runs-requires c =
    let s = c.args.self.now in
    let runs = s.covered.0 in
    let width : start_of s.runs.now (length s.runs.now) - 0 ≡ s.strip.length = omega (arith, runs.last) in
    let times = ap (λ (k : ℕ). k * 4) (sym width) in
    record {
      runs = (runs, omega arith, omega arith, omega arith);
      src_len = (c.row.auto.paints ∙ c.requires.row_len.1 ∙ times, c.requires.row_len.0 ∙ times);
      coverage = (s.covered.1, c.requires.mask_len ∙ sym width);
    }

pub returns : goal.returns
returns c =
    let a = c.args in
    let s = a.self.now in
    let call = c.composite_masked_runs in
    let width : start_of s.runs.now (length s.runs.now) - 0 ≡ s.strip.length = omega (arith, s.covered.0.last) in
    painted_row s.brush.style.mode s.strip.x s.strip.y (λ i. get_or s.brush.mask.now i 0)
    (levels s.runs.now) a.row.now s.brush.ramp.now call.new.row s.brush.style.shade
    s.strip.length _ c.row.new.paints (runs_length s.runs.now (length s.runs.now) s.strip.length s.covered.0) width c.row.ensures call.ensures
