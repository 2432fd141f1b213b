use native.Mathlib.Omega.{arith}
use borrow.Author.Tests.{le-leb, lt-leb}
use Prim.Native.Nat.{ℕ, ◌*◌, ◌≤◌, ◌<◌}
use native.Mathlib.Nat.{mul-le-mul}
use Rattle.planner.proofs.planning.surface_for.Goals as goal

product : (w h : ℕ) → w < 65536 → h < 65536 → w * h ≤ 65535 * 65535
product w h a b =
    let c : w ≤ 65535 = omega arith in
    let d : h ≤ 65535 = omega arith in
    mul-le-mul c d

pub returns-then-new-lt-BLOCK_BYTES : goal.returns-then-new-lt-BLOCK_BYTES
returns-then-new-lt-BLOCK_BYTES c =
    rw (lt-leb 512 _ c.if-new-lt-BLOCK_BYTES.true)

pub overflow_mul-result : goal.overflow_mul-result
overflow_mul-result c =
    omega (arith, product _ _ c.width.ensures.1 c.height.ensures.1)

pub overflow_mul-result-2 : goal.overflow_mul-result-2
overflow_mul-result-2 c =
    omega (arith, product _ _ c.width.ensures.1 c.height.ensures.1)

pub returns : goal.returns
returns c =
    rw (le-leb 512 _ c.if-new-lt-BLOCK_BYTES.false, c.width.ensures.0, c.height.ensures.0)
