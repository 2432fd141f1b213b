-- `coverage::column::column_at` meets its contract. Assumes nothing.
use mathlib.Core.Path.{◌≡◌, sym, ap₂, subst, ◌∙◌}
use mathlib.Core.Bool.{Bool}
use Prim.Native.Nat.{◌+◌, ◌-◌, ◌/◌, ◌<◌}
use native.Mathlib.Omega.{arith}
use lib.Dec.{T}
use lib.IntN.{ℤ, pos, nat_abs, ◌-ℤ◌, ◌*ℤ◌}
use lib.Signed.{le_z, lt_z, non_neg}
use mir.Syntax.{w64}
use mir.Val.{Fits}
use Rattle.fixed.proofs.Means.{Num, need, keep, param, small, lit, add, sub, mul}
use Rattle.fixed.proofs.Sign.{is_positive, above_zero}
use Rattle.coverage.proofs.Crossing.{column_left, column_right, column_past, column_inside, top_is}
use Rattle.coverage.proofs.column.column_at.Goals as goal
use Rattle.coverage.proofs.column.column_at.Tie as tie
use Rattle.coverage.proofs.column.column_at.Lts as lts
use Rattle.coverage.proofs.column.column_at.Reads as reads

abbrev n : lts.Start reads.Pre reads.Post tie.handed_clauses → Num
n c = small w64 562949953421312 c.args.n c.ranges.n (record { size = c.requires.pos_bound.2 })

abbrev d : goal.Else-high-n → Num
d c = small w64 16777216 c.args.d c.ranges.d (record { size = c.requires.pos_bound.1 })

abbrev w : goal.Else-high-n → Num
w c = mul (lit 64) (d c)

abbrev low : lts.Start reads.Pre reads.Post tie.handed_clauses → Num
low c = param w64 c.args.low c.ranges.low

abbrev high : lts.Start reads.Pre reads.Post tie.handed_clauses → Num
high c = param w64 c.args.high c.ranges.high

abbrev more : goal.Else-high-n → Num
more c = add (n c.before.before) (keep w64 (w c) tt)

abbrev top : goal.Else-high-n → Num
top c = sub (keep w64 (more c) tt) (lit 1)

-- what the two tests tell
left : (s : lts.Start reads.Pre reads.Post tie.handed_clauses) {t : Bool} → le_z (n s).read (low s).read ≡ t
    → le_z s.args.n (pos s.args.c *ℤ (pos 64 *ℤ s.args.d)) ≡ t
left s e = sym (ap₂ le_z (n s).same ((low s).same ∙ s.requires.low_value.0)) ∙ e

right : (s : lts.Start reads.Pre reads.Post tie.handed_clauses) {t : Bool} → lt_z (high s).read (n s).read ≡ t
    → lt_z ((pos (s.args.c + s.args.k) -ℤ pos 1) *ℤ (pos 64 *ℤ s.args.d)) s.args.n ≡ t
right s e = sym (ap₂ lt_z ((high s).same ∙ s.requires.low_value.1) (n s).same) ∙ e

pub returns-then-n-low : goal.returns-then-n-low
returns-then-n-low c =
    let a = c.args in
    column_left a.n a.d a.c a.k c.requires.pos_bound.0 (left c.before c.if-n-low.true)

pub returns-then-high-n : goal.returns-then-high-n
returns-then-high-n c =
    let a = c.args in
    column_right a.n a.d a.c a.k c.requires.pos_bound.0 (left c.before.before c.if-n-low.false) (right c.before.before c.if-high-n.true)

pub overflow_mul-result : goal.overflow_mul-result
overflow_mul-result c =
    need (w c) tt

pub overflow_add-result : goal.overflow_add-result
overflow_add-result c =
    need (more c) tt

pub overflow_sub-result : goal.overflow_sub-result
overflow_sub-result c =
    need (top c) tt

pub overflow_cast-result : goal.overflow_cast-result
overflow_cast-result c =
    let a = c.args in
    let e = top_is a.n a.d a.c a.k c.requires.pos_bound.0 (left c.before.before c.if-n-low.false) in
    subst (λ (z : ℤ). (T (non_neg z)) × Fits w64 (nat_abs z)) (sym (keep w64 (top c) tt).same)
    (subst (λ (z : ℤ). T (non_neg z)) (sym e) tt, omega (arith, (top c).size.size))

pub overflow_cast-result-2 : goal.overflow_cast-result-2
overflow_cast-result-2 c =
    subst (λ (z : ℤ). (T (non_neg z)) × Fits w64 (nat_abs z)) (sym (d c).same)
    (subst (λ (z : ℤ). T (non_neg z)) (sym (is_positive c.requires.pos_bound.0)) tt, omega (arith, c.requires.pos_bound.1))

pub nonzero_div-result-2 : goal.nonzero_div-result-2
nonzero_div-result-2 c =
    subst (λ (z : ℤ). 0 < nat_abs z) (sym (d c).same) (above_zero c.requires.pos_bound.0)

pub overflow_sub-result-2 : goal.overflow_sub-result-2
overflow_sub-result-2 c =
    let a = c.args in
    rw ((keep w64 (top c) tt).same, (d c).same) (column_past a.n a.d a.c a.k c.requires.pos_bound.0 (left c.before.before c.if-n-low.false))

pub returns : goal.returns
returns c =
    let a = c.args in
    ap₂ (λ (y z : ℤ). nat_abs y / 64 / nat_abs z - a.c) (keep w64 (top c) tt).same (d c).same
    ∙ column_inside a.n a.d a.c a.k c.requires.pos_bound.0 (left c.before.before c.if-n-low.false) (right c.before.before c.if-high-n.false)
