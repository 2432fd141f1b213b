-- `coverage::samples::cell_of` meets its contract. Assumes nothing.
use mathlib.Core.Path.{◌∙◌}
use native.Mathlib.Omega.{arith}
use mir.Syntax.{w32}
use Rattle.fixed.proofs.Signed.{back}
use Rattle.coverage.specs.Scanline.{inside_of, taken_of, full_of, cell_of}
use Rattle.coverage.proofs.Tally.{turned_counts}
use borrow.Author.Rules.{rules}
use Rattle.coverage.proofs.samples.cell_of.Goals as goal

pub overflow_cast-result : goal.overflow_cast-result
overflow_cast-result c =
    omega (arith, c.full_of.ensures.1)

pub overflow_cast-result-2 : goal.overflow_cast-result-2
overflow_cast-result-2 c =
    omega (arith, c.count_samples.ensures.1)

pub returns : goal.returns
unfolding inside_of taken_of full_of cell_of
returns c =
    let a = c.args in
    let p = back w32 a.w.a (search rules) in
    let q = back w32 a.w.b (search rules) in
    let r = back w32 a.w.c (search rules) in
    let s = back w32 a.w.d (search rules) in
    λ i. record {
      a = p i;
      b = q i;
      c = r i;
      d = s i;
      full = c.full_of.ensures.0 i;
      count = (c.count_samples.ensures.0 ∙ turned_counts a.nonzero a.t a.u a.v a.w) i;
    }
