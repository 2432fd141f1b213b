-- `outline::curve::weigh` meets its contract: no step overflows.
use Prim.Native.Nat.{ℕ, ◌≤◌}
use lib.IntN.{ℤ}
use mir.Syntax.{w32, w64}
use mir.Val.{SFits}
use Rattle.fixed.proofs.Means.{Num, need, keep, param, of_nat, add, mul}
use Rattle.outline.proofs.curve.weigh.Goals.{Start}
use Rattle.outline.proofs.curve.weigh.Goals as goal

abbrev product : (z : ℤ) → SFits w32 z → (n : ℕ) → n ≤ 4096 → Num
product z f n h = mul (keep w64 (param w32 z f) tt) (of_nat w64 n 4096 h tt)

abbrev first : Start → Num
first s = product s.args.a s.ranges.a s.args.w.w0 s.requires.0

abbrev second : Start → Num
second s = product s.args.b s.ranges.b s.args.w.w1 s.requires.1

abbrev third : Start → Num
third s = product s.args.c s.ranges.c s.args.w.w2 s.requires.2

abbrev fourth : Start → Num
fourth s = product s.args.d s.ranges.d s.args.w.w3 s.requires.3

abbrev two : Start → Num
two s = add (keep w64 (first s) tt) (keep w64 (second s) tt)

abbrev three : Start → Num
three s = add (keep w64 (two s) tt) (keep w64 (third s) tt)

abbrev four : Start → Num
four s = add (keep w64 (three s) tt) (keep w64 (fourth s) tt)

pub overflow_add-result : goal.overflow_add-result
overflow_add-result c =
    need (two c.before.before.before.before) tt

pub overflow_mul-result-3 : goal.overflow_mul-result-3
overflow_mul-result-3 c =
    need (third c.before.before.before.before) tt

pub overflow_add-result-2 : goal.overflow_add-result-2
overflow_add-result-2 c =
    need (three c.before.before.before.before) tt

pub overflow_mul-result-4 : goal.overflow_mul-result-4
overflow_mul-result-4 c =
    need (fourth c.before.before.before.before) tt

pub overflow_add-result-3 : goal.overflow_add-result-3
overflow_add-result-3 c =
    need (four c.before.before.before.before) tt

pub returns : goal.returns
returns c =
    (keep w64 (four c.before.before.before.before) tt).same
