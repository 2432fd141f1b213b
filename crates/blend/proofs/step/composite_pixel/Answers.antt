-- `blend::composite_pixel` meets its contract: it stays at k = 0, and is read clamped elsewhere. Assumes nothing.
use mathlib.Core.Path.{sym, ◌∙◌}
use Rattle.blend.proofs.Shortcuts.{uncovered_keeps, covered_reads}
use Rattle.blend.proofs.step.composite_pixel.Goals as goal

pub returns-then-coverage-eq0 : goal.returns-then-coverage-eq0
returns-then-coverage-eq0 c =
    rw c.if-coverage-eq0.true (sym (uncovered_keeps c.args.mode c.args.mask c.args.src c.args.dst))

pub returns : goal.returns
returns c =
    let a = c.args in
    c.composite_on.ensures
    ∙ rw c.clamp-read.ensures (covered_reads a.mode a.coverage a.mask a.src a.dst c.if-coverage-eq0.false)
