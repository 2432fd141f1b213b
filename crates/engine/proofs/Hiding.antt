-- A draw that hides what is under it: its paint, what it stores, and that all draws make the picture then, whatever stood in the pixels that it hides.
use mathlib.Core.Path.{◌≡◌, sym, ap, subst, ◌∙◌}
use mathlib.Core.Bool.{true, false, cond}
use mathlib.Core.List.{List, [], ◌∷◌, foldl-append}
use Prim.Native.Nat.{ℕ, zero, suc, ◌<◌}
use native.Mathlib.Omega.{arith}
use Rattle.color.specs.declared.Pixel.{Pixel}
use Rattle.color.specs.Channels.{premultiplied, UnderAlpha}
use Rattle.rect.specs.declared.Rect.{Rect}
use Rattle.rect.specs.Rects.{inside, empty_of}
use Rattle.rect.proofs.Laws.{in_or_out, inside_yes, inside_no, empty_out}
use Rattle.raster.specs.declared.Target.{Target}
use Rattle.raster.specs.Surface.{overlay, pixel_of}
use Rattle.raster.specs.Rows.{stepped, filled_around}
use Rattle.raster.proofs.Overlay.{overlay_then, overlay_same}
use Rattle.blend.specs.PorterDuff.{composite_on}
use Rattle.blend.specs.Spans.{hides}
use Rattle.blend.proofs.Masks.{whole_mask_step}
use Rattle.blend.proofs.Shortcuts.{hiding_replaces}
use Rattle.paint.specs.Opaque.{OpaqueGradient}
use Rattle.path.specs.declared.Edge.{Edge}
use Rattle.coverage.specs.Winding.{coverage}
use Rattle.coverage.specs.Covers.{Covered}
use Rattle.coverage.specs.Scissors.{scissored}
use Rattle.scene.specs.Blocks.{draw_of}
use Rattle.scene.specs.Header.{count_of, edition_of, background_of}
use Rattle.scene.specs.Fields.{scissoring, uses_mask, blend_of, non_zero_rule}
use Rattle.engine.specs.declared.Shade.{Shade}
use Rattle.engine.specs.declared.Shade.TheVariants.{Solid}
use Rattle.std.specs.Prelude.{None}
use Rattle.engine.specs.declared.TintedGradient.{TintedGradient}
use Rattle.engine.specs.Picture.{draw_edges, coverage_of, draw_paint, draw_mask, first_draws, pixel_at}
use Rattle.engine.specs.Unclamped.{unclamped_of, unclamped_step, unclamped_all}
use Rattle.engine.specs.Rows.{tinted_by, gradient_tinted, shade_at}
use Rattle.engine.specs.Background.{HidingPaint, HidesCovered, Hides}
use Rattle.engine.proofs.Unclamped.{drawn_under}
use Rattle.engine.proofs.Steps.{pixel_is}

-- ---- paints
-- a plain colour
pub solid_hides : (mode : ℕ) (s : Shade) (p : Pixel) (ramp : List ℕ) → s ≡ Solid p → p.a < 256 → hides mode p.a ≡ true
    → HidingPaint mode (shade_at s ramp)
unfolding shade_at
solid_hides mode s p ramp e l h = rw e (λ x y. (h, l))

-- an opaque gradient as it is
pub plain_hides : (mode : ℕ) (g : TintedGradient) (ramp : List ℕ) → g.tint ≡ None → hides mode 255 ≡ true → OpaqueGradient g.gradient ramp
    → HidingPaint mode (gradient_tinted g ramp)
unfolding tinted_by
plain_hides mode g ramp e h o = rw e (λ x y. rw (o x y) (h, omega arith))

-- a paint of the same pixels
pub same_hides : (mode k : ℕ) (f g : ℕ → ℕ → Pixel) → mode ≡ k → ((x y : ℕ) → f x y ≡ g x y) → HidingPaint mode f → HidingPaint k g
same_hides mode k f g e o h x y =
    subst (λ (p : Pixel). (hides k p.a ≡ true) × (p.a < 256)) (o x y)
    (subst (λ (z : ℕ). (hides z (f x y).a ≡ true) × ((f x y).a < 256)) e (h x y))

-- ---- a pixel that is covered whole, without scissors and without a mask
pixel_hides : (mode : ℕ) (s p : Pixel) → UnderAlpha s → s.a < 256 → hides mode s.a ≡ true → composite_on mode 16 255 s p ≡ s
pixel_hides mode s p u l h =
    sym (whole_mask_step mode 16 s p (omega arith))
    ∙ hiding_replaces mode s p (omega (arith, u.r)) (omega (arith, u.g)) (omega (arith, u.b)) l h

module _ (d : List ℕ) (whole : scissoring d ≡ false) (unmasked : uses_mask d ≡ false) (paint : HidingPaint (blend_of d) (draw_paint d)) where
  stores_paint : (es : List Edge) (mask : ℕ → ℕ → ℕ) (x y : ℕ) (p : Pixel) → coverage es (non_zero_rule d) x y ≡ 16
      → unclamped_of es d mask x y p ≡ draw_paint d x y
  unfolding unclamped_of coverage_of scissored draw_mask
  stores_paint es mask x y p k =
      rw (whole, unmasked, k) (pixel_hides (blend_of d) (draw_paint d x y) p (drawn_under d x y) (paint x y).1 (paint x y).0)

  pub draw_hides : HidesCovered d
  draw_hides es mask x y p q k = stores_paint es mask x y p k ∙ sym (stores_paint es mask x y q k)

-- ---- a path that covers every pixel of a rectangle
pub covering_hides : (edition : ℕ) (a : Rect) (d : List ℕ) (es : List Edge) → HidesCovered d → es ≡ draw_edges edition d → Covered es a
    → Hides a (unclamped_step edition d)
covering_hides edition a d es o e k mask x y p q i =
    o (draw_edges edition d) mask x y p q (subst (λ (z : List Edge). coverage z (non_zero_rule d) x y ≡ 16) e (k (non_zero_rule d) x y i))

-- nothing is asked of a rectangle without a pixel
pub empty_covered : (es : List Edge) (a : Rect) → empty_of a ≡ true → Covered es a
empty_covered es a e non_zero x y i = absurd (empty_out a x y e i)

pub empty_hides : (a : Rect) (step : (ℕ → ℕ → ℕ) → ℕ → ℕ → Pixel → Pixel) → empty_of a ≡ true → Hides a step
empty_hides a step e mask x y p q i = absurd (empty_out a x y e i)

-- ---- the draws behind the first
first_hides : (s : List ℕ) (n : ℕ) (a : Rect) → 0 < n → Hides a (unclamped_step (edition_of s) (draw_of s 0))
    → Hides a (unclamped_all (edition_of s) (first_draws s n))
first_hides s zero a l o mask x y p q i = absurd (omega arith)
first_hides s (suc zero) a l o mask x y p q i = o mask x y p q i
first_hides s (suc (suc n)) a l o mask x y p q i =
    let last : Pixel → Pixel = unclamped_step (edition_of s) (draw_of s (suc n)) mask x y in
    foldl-append _ p (first_draws s (suc n)) (draw_of s (suc n) ∷ [])
    ∙ ap last (first_hides s (suc n) a (omega arith) o mask x y p q i)
    ∙ sym (foldl-append _ q (first_draws s (suc n)) (draw_of s (suc n) ∷ []))

pub draws_hide : (s d : List ℕ) (edition n : ℕ) (a : Rect) → 0 < n → edition ≡ edition_of s → d ≡ draw_of s 0 → Hides a (unclamped_step edition d)
    → Hides a (unclamped_all (edition_of s) (first_draws s n))
draws_hide s d edition n a l e f o =
    first_hides s n a l
    (subst (λ (z : List ℕ). Hides a (unclamped_step (edition_of s) z)) f (subst (λ (z : ℕ). Hides a (unclamped_step z d)) e o))

-- ---- a surface before the draws: the background is laid but for a hole, in which the draws hide what stood there; so they make the picture
module _ (scene : List ℕ) (t : Target) (n : ℕ) (hole : Rect) (mask : ℕ → ℕ → ℕ) (s d u : List ℕ) where
  pub around_then : (p : Pixel) → n ≡ count_of scene → p ≡ premultiplied (background_of scene) → UnderAlpha (premultiplied (background_of scene))
      → Hides hole (unclamped_all (edition_of scene) (first_draws scene n))
      → s ≡ filled_around t hole p d → u ≡ stepped t (unclamped_all (edition_of scene) (first_draws scene n) mask) s
      → u ≡ overlay t.width t.height t.area (pixel_at scene mask) d
  around_then p e c under hides f o =
      let step : ℕ → ℕ → Pixel → Pixel = unclamped_all (edition_of scene) (first_draws scene n) mask in
      let laid : ℕ → ℕ → Pixel = λ x y. cond (inside hole x y) (pixel_of t.width d x y) p in
      overlay_then t.width t.height t.area step laid s u d f o
      ∙ overlay_same t.width t.height t.area _ (pixel_at scene mask) d
      (λ x y k l i.
      in_or_out hole x y
      (λ j. rw (inside_yes hole x y j) (hides mask x y (pixel_of t.width d x y) (premultiplied (background_of scene)) j) ∙ pixel_is scene mask n x y e under)
      (λ j. rw (inside_no hole x y j) (ap (step x y) c) ∙ pixel_is scene mask n x y e under))
