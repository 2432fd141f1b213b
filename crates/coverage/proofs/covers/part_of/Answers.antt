-- `coverage::covers::part_of` meets its contract. Assumes nothing.
use mathlib.Core.Path.{◌≡◌, refl, sym, ap₂, ◌∙◌}
use mathlib.Core.Bool.{Bool, true, false, cond}
use Prim.Native.Nat.{ℕ, ◌*◌}
use native.Mathlib.Omega.{arith}
use lib.IntN.{ℤ}
use mir.Facts.{to_z-of_z}
use Rattle.coverage.specs.Scanline.{edge, beyond}
use Rattle.coverage.specs.Band.{apart}
use Rattle.coverage.specs.Covers.{alongside, part_of}
use Rattle.coverage.proofs.covers.part_of.Goals as goal
use Rattle.coverage.proofs.covers.part_of.Tie as tie
use Rattle.coverage.proofs.covers.part_of.Lts as lts
use Rattle.coverage.proofs.covers.part_of.Reads as reads

-- an edge that is needed is not apart
not-needed : (t : Bool) → ◌≡◌ {A = ℕ} (cond t 0 1) 0 → t ≡ true
not-needed true e = refl
not-needed false e = absurd (omega arith)

some-needed : (t : Bool) → (◌≡◌ {A = ℕ} (cond t 0 1) 0 → ⊥) → t ≡ false
some-needed true e = absurd (e refl)
some-needed false e = refl

-- what the tests of the calls tell
abbrev missing : (c : lts.After-needed tie.the-claims reads.Pre reads.Post) → Bool
missing c = apart c.args.y0 c.args.y1 c.args.a.y0 c.args.a.y1

rows : (c : lts.After-needed tie.the-claims reads.Pre reads.Post) → c.needed.result ≡ cond (missing c) 0 1
rows c =
    c.needed.ensures.0 ∙ ap₂ (λ (a b : ℤ). cond (apart a b c.args.a.y0 c.args.a.y1) 0 1) (to_z-of_z c.ranges.y0) (to_z-of_z c.ranges.y1)

present : (c : lts.After-is_right tie.the-claims reads.Pre reads.Post) → missing c.before.before ≡ false
present c = some-needed (missing c.before.before) (λ e. c.if-needed-eq0.false (rows c.before.before ∙ e))

right : (c : lts.After-is_right tie.the-claims reads.Pre reads.Post) → c.is_right.result ≡ beyond c.args.x0 c.args.x1 (4 * c.args.a.x1)
right c = c.is_right.ensures ∙ ap₂ (λ (a b : ℤ). beyond a b (4 * c.args.a.x1)) (to_z-of_z c.ranges.x0) (to_z-of_z c.ranges.x1)

along : (c : lts.After-is_alongside tie.the-claims reads.Pre reads.Post) {t : Bool} → c.is_alongside.result ≡ t
    → alongside (edge c.args.x0 c.args.y0 c.args.x1 c.args.y1)
    c.args.a ≡ t
along c e =
    let f = c.ranges in
    rw (to_z-of_z f.x0, to_z-of_z f.y0, to_z-of_z f.x1, to_z-of_z f.y1) at (sym c.is_alongside.ensures ∙ e)

pub returns-then-needed-eq0 : goal.returns-then-needed-eq0
unfolding part_of
returns-then-needed-eq0 c =
    (rw (not-needed (missing c.before) (sym (rows c.before) ∙ c.if-needed-eq0.true)), omega arith)

pub returns-then-is_right : goal.returns-then-is_right
unfolding part_of
returns-then-is_right c =
    (rw (present c.before, sym (right c.before) ∙ c.if-is_right.true), omega arith)

pub returns-then-is_alongside : goal.returns-then-is_alongside
unfolding part_of
returns-then-is_alongside c =
    (rw (present c.before.before.before, sym (right c.before.before.before) ∙ c.if-is_right.false, along c.before c.if-is_alongside.true), omega arith)

pub returns-else-is_alongside : goal.returns-else-is_alongside
unfolding part_of
returns-else-is_alongside c =
    (rw (present c.before.before.before, sym (right c.before.before.before) ∙ c.if-is_right.false, along c.before c.if-is_alongside.false), omega arith)
