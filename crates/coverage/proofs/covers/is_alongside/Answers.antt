-- `coverage::covers::is_alongside` meets its contract. Assumes nothing.
use mathlib.Core.Path.{◌≡◌, sym, ap₂, ◌∙◌}
use mathlib.Core.Bool.{Bool}
use Prim.Native.Nat.{◌+◌, ◌*◌}
use lib.IntN.{ℤ}
use lib.Signed.{le_z}
use mir.Syntax.{w32}
use mir.Val.{to_z, of_z, SFits}
use mir.Facts.{to_z-of_z}
use Rattle.coverage.specs.Winding.{sample}
use Rattle.coverage.specs.Covers.{across}
use Rattle.coverage.proofs.Locals.{first_held}
use Rattle.coverage.proofs.covers.is_alongside.Goals.{Start}
use Rattle.coverage.proofs.covers.is_alongside.Goals as goal
use Rattle.coverage.proofs.covers.is_alongside.Tie as tie
use Rattle.coverage.proofs.covers.is_alongside.Lts as lts
use Rattle.coverage.proofs.covers.is_alongside.Reads as reads

-- the first column of samples, as the local holds it, and whether an end lies left of it
column : (s : Start) → to_z w32 (256 * s.args.a.x0 + 32) ≡ sample (4 * s.args.a.x0)
column s = first_held s.args.a.x0 s.requires.0

told : (s : Start) (z : ℤ) {t : Bool} → SFits w32 z
    → le_z (to_z w32 (of_z w32 z)) (to_z w32 (256 * s.args.a.x0 + 32)) ≡ t → le_z z (sample (4 * s.args.a.x0)) ≡ t
told s z f e = rw (to_z-of_z f, column s) at e

-- what the first call tells
first : (c : lts.After-is_across tie.the-claims reads.Pre reads.Post)
    → let a = c.args in
    c.is_across.result ≡ across a.y0 a.y1 a.a.y0 a.a.y1
first c =
    c.is_across.ensures ∙ ap₂ (λ (a b : ℤ). across a b c.args.a.y0 c.args.a.y1) (to_z-of_z c.ranges.y0) (to_z-of_z c.ranges.y1)

pub returns-then-is_across : goal.returns-then-is_across
returns-then-is_across c =
    rw (
      told (goal.at.returns-then-is_across c).Start c.args.x0 c.ranges.x0 c.if-x0-first.true,
      told (goal.at.returns-then-is_across c).Start c.args.x1 c.ranges.x1 c.if-x1-first.true,
      sym (first c.before) ∙ c.if-is_across.true,
    )

pub returns-then-x1-first : goal.returns-then-x1-first
returns-then-x1-first c =
    rw (
      told (goal.at.returns-then-x1-first c).Start c.args.x0 c.ranges.x0 c.if-x0-first.true,
      told (goal.at.returns-then-x1-first c).Start c.args.x1 c.ranges.x1 c.if-x1-first.true,
      sym (first c.before.before) ∙ c.if-is_across.false,
    )
    (c.is_across-then-x1-first.ensures ∙ ap₂ (λ (a b : ℤ). across a b c.args.a.y0 c.args.a.y1) (to_z-of_z c.ranges.y1) (to_z-of_z c.ranges.y0))

pub returns-else-x1-first : goal.returns-else-x1-first
returns-else-x1-first c =
    rw (
      told (goal.at.returns-else-x1-first c).Start c.args.x0 c.ranges.x0 c.if-x0-first.true,
      told (goal.at.returns-else-x1-first c).Start c.args.x1
          c.ranges.x1 c.if-x1-first.false,
    )

pub returns-else-x0-first : goal.returns-else-x0-first
returns-else-x0-first c =
    rw (told (goal.at.returns-else-x0-first c).Start c.args.x0 c.ranges.x0 c.if-x0-first.false)
