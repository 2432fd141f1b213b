-- P2: a scene lays its premultiplied background first and meets no stray byte, so the clamp changes no picture.
use mathlib.Core.Path.{◌≡◌, refl, ap, ◌∙◌, subst}
use mathlib.Core.List.{List, [], ◌∷◌}
use mathlib.Core.Bool.{Bool, true, false, cond}
use Prim.Native.Nat.{ℕ, ◌+◌, ◌<◌}
use lib.ListN.{get_or}
use Rattle.color.specs.declared.Pixel.{Pixel}
use Rattle.color.specs.Channels.{premultiplied, UnderAlpha}
use Rattle.color.proofs.Alpha.{premultiplied_under}
use Rattle.raster.specs.Surface.{raster}
use Rattle.blend.proofs.Under.{stored_under, sound_as_stands}
use Rattle.paint.specs.Paints.{paint_at}
use Rattle.paint.proofs.Under.{paint_under}
use Rattle.path.specs.declared.Edge.{Edge}
use Rattle.transform.specs.Transforms.{fixed_transform, transformed}
use Rattle.transform.proofs.Promises.{transformed_under}
use Rattle.scene.specs.Layout.{background_at}
use Rattle.scene.specs.Header.{width_of, height_of, count_of, edition_of, background_of}
use Rattle.scene.specs.Fields.{paint_of, spread_of, ramp_premultiplied, transforms, transform_of, stops_of, stop_count, blend_of}
use Rattle.engine.specs.Picture.{draw_edges, coverage_of, draw_transform, draw_paint, draw_mask, step_of, draw_step, draw_all}
use Rattle.engine.specs.Picture.{first_draws, pixel_at, mask_at, picture}
use Rattle.engine.specs.Unclamped.{unclamped_of, unclamped_step, unclamped_all, unclamped_picture}

-- ---- a draw keeps to it, and is the same without the clamp
transform_under : (d : List ℕ) (p : Pixel) → UnderAlpha p → UnderAlpha (draw_transform d p)
unfolding draw_transform
transform_under d p h = by (transforms d)
  where
    by : (t : Bool) → UnderAlpha (cond t (transformed (fixed_transform (transform_of d)) p) p)
    by true = transformed_under (fixed_transform (transform_of d)) p
    by false = h

pub drawn_under : (d : List ℕ) (x y : ℕ) → UnderAlpha (draw_paint d x y)
unfolding draw_paint
drawn_under d x y =
    transform_under d (paint_at (paint_of d) (spread_of d) (ramp_premultiplied d) (stops_of d) (stop_count d) x y)
    (paint_under (paint_of d) (spread_of d) (ramp_premultiplied d) (stops_of d) (stop_count d) x y)

module _ (es : List Edge) (d : List ℕ) (mask : ℕ → ℕ → ℕ) (x y : ℕ) (p : Pixel) (h : UnderAlpha p) where
  draw_under : UnderAlpha (unclamped_of es d mask x y p)
  unfolding unclamped_of
  draw_under = stored_under (blend_of d) (coverage_of es d x y) (draw_mask d mask x y) (draw_paint d x y) p (drawn_under d x y) h

  draw_same : unclamped_of es d mask x y p ≡ step_of es d mask x y p
  unfolding unclamped_of step_of
  draw_same = sound_as_stands (blend_of d) (coverage_of es d x y) (draw_mask d mask x y) (draw_paint d x y) p h

-- ---- and so are all draws, in order
module _ (edition : ℕ) where
  pub all_same : (ds : List (List ℕ)) (mask : ℕ → ℕ → ℕ) (x y : ℕ) (p : Pixel) → UnderAlpha p
      → unclamped_all edition ds mask x y p ≡ draw_all edition ds mask x y p
  all_same [] mask x y p h = refl
  all_same (d ∷ ds) mask x y p h =
      let es = draw_edges edition d in
      all_same ds mask x y (unclamped_step edition d mask x y p) (draw_under es d mask x y p h)
      ∙ ap (draw_all edition ds mask x y) (draw_same es d mask x y p h)

  all_under : (ds : List (List ℕ)) (mask : ℕ → ℕ → ℕ) (x y : ℕ) (p : Pixel) → UnderAlpha p → UnderAlpha (draw_all edition ds mask x y p)
  all_under [] mask x y p h = h
  all_under (d ∷ ds) mask x y p h =
      let es = draw_edges edition d in
      all_under ds mask x y (draw_step edition d mask x y p) (subst UnderAlpha (draw_same es d mask x y p h) (draw_under es d mask x y p h))

-- ---- of any bytes, an accepted scene's among them
module _ (s : List ℕ) (bytes : (i : ℕ) → get_or s i 0 < 256) where
  pub background_under : UnderAlpha (premultiplied (background_of s))
  background_under = premultiplied_under (background_of s) (bytes background_at) (bytes (background_at + 1)) (bytes (background_at + 2))

  -- no draw meets a stray byte
  pub no_stray_byte : (mask : ℕ → ℕ → ℕ) (n x y : ℕ) → UnderAlpha (draw_all (edition_of s) (first_draws s n) mask x y (premultiplied (background_of s)))
  no_stray_byte mask n x y = all_under (edition_of s) (first_draws s n) mask x y (premultiplied (background_of s)) background_under

  pub no_picture_changes : (mask : List ℕ) → unclamped_picture s mask ≡ picture s mask
  unfolding unclamped_picture picture pixel_at
  no_picture_changes mask =
      λ i.
      raster (width_of s) (height_of s)
      (λ x y. all_same (edition_of s) (first_draws s (count_of s)) (mask_at (width_of s) mask) x y (premultiplied (background_of s)) background_under i)
