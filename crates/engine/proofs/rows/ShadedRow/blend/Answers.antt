-- `rows::ShadedRow::blend` meets its contract, with the mask or without.
use mathlib.Core.Bool.{true, false}
use Prim.Native.Nat.{◌+◌}
use lib.ListN.{get_or}
use Rattle.engine.specs.Rows.{levels, shade_at}
use Rattle.engine.proofs.Masks.{mask_chosen}
use Rattle.engine.proofs.rows.ShadedRow.blend.Goals as goal

pub returns-then-self : goal.returns-then-self
returns-then-self c =
    let a = c.args in
    let s = a.self.now in
    mask_chosen s.brush.style.mode (levels s.runs.now) (λ i. get_or s.brush.mask.now i 0)
    (λ i. shade_at s.brush.style.shade s.brush.ramp.now (s.strip.x + i) s.strip.y) a.row.now _
    s.brush.style.masked true c.if-self.true c.blend_masked.ensures

pub returns-else-self : goal.returns-else-self
returns-else-self c =
    let a = c.args in
    let s = a.self.now in
    mask_chosen s.brush.style.mode (levels s.runs.now) (λ i. get_or s.brush.mask.now i 0)
    (λ i. shade_at s.brush.style.shade s.brush.ramp.now (s.strip.x + i) s.strip.y) a.row.now _
    s.brush.style.masked false c.if-self.false c.blend_plain.ensures
