-- `blend::copy_row` meets its contract: the bytes before i are copied, and the others are as they were.
use mathlib.Core.Path.{refl, sym, ◌∙◌}
use Prim.Native.Nat.{ℕ}
use native.Mathlib.Omega.{arith}
use lib.ListN.{length, get_or}
use Rattle.lists.proofs.Laws.{tab_turn, tab_all, tab_ext}
use Rattle.blend.proofs.bytewise.copy_row.Goals as goal

pub loop-i-preserved : goal.loop-i-preserved
loop-i-preserved c =
    let a = c.args in
    let l = c.loop-i in
    tab_turn (λ j. get_or a.src.now j 0) l.row a.row.now l.i _ refl l.invariant c.loop-i-test.true

pub returns : goal.returns
returns c =
    let a = c.args in
    let f : ℕ → ℕ = λ j. get_or a.src.now j 0 in
    let n = length a.src.now in
    tab_all f c.loop-i.row a.row.now c.loop-i.i n c.loop-i.invariant (omega arith) (omega arith)
    ∙ sym (tab_ext 0 a.src.now n f refl (λ k h. refl))
