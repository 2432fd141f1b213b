-- `coverage::band::needed` meets its contract. Assumes nothing.
use mir.Facts.{to_z-of_z}
use mathlib.Core.Path.{◌≡◌}
use mathlib.Core.Bool.{Bool}
use Prim.Native.Nat.{◌+◌, ◌-◌, ◌*◌}
use native.Mathlib.Omega.{arith}
use lib.IntN.{ℤ}
use lib.Signed.{le_z, lt_z}
use mir.Syntax.{w32}
use mir.Val.{to_z, of_z, SFits}
use Rattle.coverage.specs.Winding.{sample}
use Rattle.coverage.proofs.Locals.{first_held, last_held}
use Rattle.coverage.proofs.band.needed.Goals.{Start}
use Rattle.coverage.proofs.band.needed.Goals as goal

-- the first and the last row of samples, as the locals hold them
first : (s : Start) → to_z w32 (256 * s.args.from + 32) ≡ sample (4 * s.args.from)
first s = first_held s.args.from (omega arith)

last : (s : Start) → to_z w32 (256 * s.args.end - 32) ≡ sample (4 * s.args.end - 1)
last s = last_held s.args.end (omega arith) (omega arith)

low : (s : Start) (z : ℤ) {t : Bool} → SFits w32 z
    → le_z (to_z w32 (of_z w32 z)) (to_z w32 (256 * s.args.from + 32)) ≡ t → le_z z (sample (4 * s.args.from)) ≡ t
low s z f e = rw (to_z-of_z f, first s) at e

high : (s : Start) (z : ℤ) {t : Bool} → SFits w32 z
    → lt_z (to_z w32 (256 * s.args.end - 32)) (to_z w32 (of_z w32 z)) ≡ t → lt_z (sample (4 * s.args.end - 1)) z ≡ t
high s z f e = rw (to_z-of_z f, last s) at e

pub returns-then-y1-first : goal.returns-then-y1-first
returns-then-y1-first c =
    (rw (low c.before.before c.args.y0 c.ranges.y0 c.if-y0-first.true, low c.before.before c.args.y1 c.ranges.y1 c.if-y1-first.true), omega arith)

pub returns-then-y0-first : goal.returns-then-y0-first
returns-then-y0-first c =
    (rw (low c.before.before c.args.y0 c.ranges.y0 c.if-y0-first.true, low c.before.before c.args.y1 c.ranges.y1 c.if-y1-first.false), omega arith)

pub returns-then-last-y1 : goal.returns-then-last-y1
returns-then-last-y1 c =
    let p = low c.before.before.before c.args.y0 c.ranges.y0 c.if-y0-first.false in
    let q = high c.before.before.before c.args.y0 c.ranges.y0 c.if-last-y0.true in
    (rw (p, q, high c.before.before.before c.args.y1 c.ranges.y1 c.if-last-y1.true), omega arith)

pub returns-else-last-y1 : goal.returns-else-last-y1
returns-else-last-y1 c =
    let p = low c.before.before.before c.args.y0 c.ranges.y0 c.if-y0-first.false in
    let q = high c.before.before.before c.args.y0 c.ranges.y0 c.if-last-y0.true in
    (rw (p, q, high c.before.before.before c.args.y1 c.ranges.y1 c.if-last-y1.false), omega arith)

pub returns-else-last-y0 : goal.returns-else-last-y0
returns-else-last-y0 c =
    (rw (low c.before.before c.args.y0 c.ranges.y0 c.if-y0-first.false, high c.before.before c.args.y0 c.ranges.y0 c.if-last-y0.false), omega arith)
