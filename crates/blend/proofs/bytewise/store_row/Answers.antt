-- `blend::store_row` meets its contract: the bytes before i are stored, and the others are as they were. Assumes nothing.
use mathlib.Core.Path.{ap, ◌∙◌}
use Prim.Native.Nat.{ℕ, ◌*◌}
use native.Mathlib.Omega.{arith}
use lib.ListN.{get_or, length-set}
use Rattle.lists.proofs.Laws.{tab_turn, tab_all, tab_read}
use Rattle.blend.specs.PorterDuff.{stored_unmasked}
use Rattle.blend.proofs.Bytes.{stored_at, stored_bytes}
use Rattle.blend.proofs.bytewise.store_row.Goals as goal

pub loop-i-preserved : goal.loop-i-preserved
loop-i-preserved c =
    let a = c.args in
    let l = c.loop-i in
    let f : ℕ → ℕ = stored_at a.coverage a.src.now a.row.now in (
      simp length-set (omega arith),
      tab_turn f l.row a.row.now l.i c.stored_byte.result
          (c.stored_byte.ensures
          ∙ ap (λ (d : ℕ). stored_unmasked a.coverage (get_or a.src.now l.i 0) d) (tab_read f l.row a.row.now l.i 0 l.invariant.1))
          l.invariant.1 (omega (arith, c.requires)),
    )

pub returns : goal.returns
returns c =
    let a = c.args in
    let l = c.loop-i in
    tab_all (stored_at a.coverage a.src.now a.row.now) l.row a.row.now l.i (a.n * 4) l.invariant.1 (omega arith) (omega (arith, c.requires))
    ∙ stored_bytes a.n a.coverage a.src.now a.row.now
