use mathlib.Core.Path.{ap₂}
use Prim.Native.Nat.{ℕ, ◌+◌, ◌*◌}
use native.Mathlib.Omega.{arith}
use Rattle.lists.proofs.Laws.{tab_turn, tab_all}
use Rattle.compare.specs.Texts.{byte_read, row_bytes}
use Rattle.compare.proofs.texts.decode.Goals as goal

pub loop-j-preserved : goal.loop-j-preserved
loop-j-preserved c =
    let l = c.loop-j in
    let a = c.args in
    tab_turn (byte_read a.text.now) l.out a.out.now l.j (c.value.result * 16 + c.value-in-loop-j.result)
    (ap₂ (λ (x y : ℕ). x * 16 + y) c.value.ensures.0 c.value-in-loop-j.ensures.0) l.invariant c.loop-j-test.true

pub returns : goal.returns
unfolding row_bytes
returns c =
    let l = c.loop-j in
    let a = c.args in
    tab_all (byte_read a.text.now) l.out a.out.now l.j (a.n * 4) l.invariant (omega arith) (omega arith)
