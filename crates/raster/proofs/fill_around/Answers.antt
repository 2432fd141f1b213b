-- `raster::fill_around` meets its contract: the hole is cut to the rectangle.
use mathlib.Core.Path.{sym, ap, subst, ◌∙◌}
use Rattle.rect.specs.declared.Rect.{Rect}
use Rattle.rect.specs.Rects.{empty_of}
use Rattle.raster.specs.Rows.{Framed, filled_around}
use Rattle.raster.proofs.Around.{around_none, around_meet, meet_framed}
use Rattle.raster.proofs.fill_around.Goals as goal

pub fill_frame-requires : goal.fill_frame-requires
fill_frame-requires c =
    let met = c.meet-inner.ensures in
    let a = c.args in
    let some = sym (ap empty_of met) ∙ sym c.is_empty.ensures ∙ c.if-is_empty.false in
    (c.requires, subst (Framed a.t.area) (sym met) (meet_framed a.t.area a.hole some))

pub returns-then-is_empty : goal.returns-then-is_empty
returns-then-is_empty c =
    let call = c.fill_rect in
    let met = c.meet-inner.ensures in
    let a = c.args in
    let none = sym (ap empty_of met) ∙ sym c.is_empty.ensures ∙ c.if-is_empty.true in
    call.ensures ∙ around_none a.t a.hole a.p a.s.now none

pub returns-else-is_empty : goal.returns-else-is_empty
returns-else-is_empty c =
    let call = c.fill_frame in
    let a = c.args in
    call.ensures ∙ ap (λ (b : Rect). filled_around a.t b a.p a.s.now) c.meet-inner.ensures
    ∙ around_meet a.t a.hole a.p a.s.now
