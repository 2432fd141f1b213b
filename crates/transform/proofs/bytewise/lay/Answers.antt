-- `transform::bytewise::lay` meets its contract: the numbers of i pixels are laid out.
use mathlib.Core.Path.{refl}
use Prim.Native.Nat.{◌+◌, ◌*◌}
use native.Mathlib.Omega.{arith}
use lib.ListN.{length-set}
use Rattle.transform.proofs.bytewise.lay.Invariants.{four}
use Rattle.lists.proofs.Laws.{emit_four, emit_all}
use Rattle.transform.specs.Bytewise.{laid}
use Rattle.transform.proofs.bytewise.lay.Goals as goal

pub loop-i-preserved : goal.loop-i-preserved
loop-i-preserved g c =
    let a = c.args in
    let l = c.loop-i in (
      simp length-set (omega arith),
      emit_four (four a.r a.g a.b a.a) l.s a.s.now l.i (l.i * 4) (l.i + 1) _ _ _ _ (λ n. refl) refl l.invariant.1 refl refl
          (omega (arith, c.requires)),
    )

pub returns : goal.returns
unfolding laid
returns g c =
    let a = c.args in
    let l = c.loop-i in
    emit_all 4 (four a.r a.g a.b a.a) l.s a.s.now l.i 16 (λ k. refl) l.invariant.1 (omega arith) (omega (arith, c.requires))
