use mathlib.Core.Path.{sym, ◌∙◌}
use Prim.Native.Nat.{◌+◌, ◌-◌, ◌*◌}
use native.Mathlib.Omega.{arith}
use Rattle.scene.specs.Layout.{block_bytes}
use Rattle.scene.specs.Blocks.{block_of}
use Rattle.rescue.specs.Salvaged.{draw_span}
use Rattle.rescue.proofs.Parts.{kept_blocks, empty_blocks, kept_told, refused_told}
use Rattle.rescue.proofs.write.write_draw.Goals as goal

pub returns-then-is_ok : goal.returns-then-is_ok
returns-then-is_ok c =
    let a = c.args in
    let at = block_bytes * block_of a.i in
    c.copy_row.ensures
    ∙ kept_blocks a.s.now a.i (at + draw_span - at) (kept_told a.s.now a.i _ c.draw_fault.ensures (sym c.is_ok.ensures.value ∙ c.if-is_ok.true)) (omega arith)

pub returns-else-is_ok : goal.returns-else-is_ok
returns-else-is_ok c =
    let a = c.args in
    c.put_empty.ensures ∙ empty_blocks a.s.now a.i (refused_told a.s.now a.i _ c.draw_fault.ensures (sym c.is_ok.ensures.value ∙ c.if-is_ok.false))
