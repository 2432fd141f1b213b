-- `judge::judge_lent` meets its contract.
use native.Mathlib.Nat.{mul-le-mul}
use native.Mathlib.Omega.{arith}
use Prim.Native.Nat.{ℕ, ◌*◌, ◌≤◌, ◌<◌}
use Rattle.reason.proofs.judge.judge_lent.Goals as goal

product : (w h : ℕ) → w < 65536 → h < 65536 → w * h ≤ 65535 * 65535
product w h a b =
    let c : w ≤ 65535 = omega arith in
    let d : h ≤ 65535 = omega arith in
    mul-le-mul c d

pub overflow_mul-width : goal.overflow_mul-width
overflow_mul-width c =
    omega (arith, product c.args.width c.args.height c.requires.0 c.requires.1)
