-- `plain::draws::draw_scene` meets its contract. Assumes nothing.
use mathlib.Core.Path.{refl, ap, ◌∙◌}
use native.Mathlib.Omega.{arith}
use Rattle.color.specs.Channels.{premultiplied}
use Rattle.engine.specs.Picture.{mask_at}
use Rattle.plain.proofs.Pixelwise.{few_pixels, background_then}
use Rattle.plain.proofs.draws.draw_scene.Goals as goal

pub overflow_mul-height : goal.overflow_mul-height
overflow_mul-height c =
    let p = c.requires.surface_len in
    record { fits = omega (arith, few_pixels c.args.width c.args.height p.1 p.2) }

pub background-requires : goal.background-requires
background-requires c =
    omega (arith, c.requires.accepted_scene.0.bytes)

pub fill_row-requires : goal.fill_row-requires
fill_row-requires c =
    c.requires.surface_len.0

pub draw_first-requires : goal.draw_first-requires
draw_first-requires c =
    let p = c.requires in
    let size = p.surface_len in
    record {
      accepted_scene = (p.accepted_scene.0, (p.accepted_scene.1, refl));
      blank = p.blank;
      surface_len = (c.fill_row.auto.s ∙ size.0, size.1, size.2);
      mask_for_scene = p.mask_for_scene;
    }

pub returns : goal.returns
returns c =
    let draws = c.draw_first in
    let filled = c.fill_row in
    let p = c.premultiplied in
    let a = c.args in
    record {
      scratch_unchanged = draws.ensures.scratch_unchanged;
      surface_after = background_then a.width a.height a.scene.now (mask_at a.width a.mask.now) a.n p.result filled.new.s draws.new.surface
          c.requires.accepted_scene.1 (p.ensures ∙ ap premultiplied c.background.ensures) filled.ensures draws.ensures.surface_after;
    }
