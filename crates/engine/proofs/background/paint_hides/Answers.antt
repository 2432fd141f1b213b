-- `background::paint_hides` meets its contract: the draw's shade is its paint.
use Rattle.engine.specs.Picture.{draw_paint}
use Rattle.engine.specs.Rows.{shade_at}
use Rattle.scene.specs.Fields.{blend_of}
use Rattle.engine.proofs.Hiding.{same_hides}
use Rattle.engine.proofs.background.paint_hides.Goals as goal

pub returns : goal.returns
returns c =
    λ t. let d = c.args.d.now in
    let s = c.shade-shade in
    same_hides c.blend_mode-mode.result (blend_of d) (shade_at s.result s.new.ramp) (draw_paint d) c.blend_mode-mode.ensures
    s.ensures.paint (c.hides.ensures t)
