-- Pixel i of a surface w pixels wide is the pixel (i % w, i / w): a step at every pixel, one step after another, and the whole picture.
use mathlib.Core.Path.{◌≡◌, refl, sym, ap, ap₂, ◌∙◌}
use mathlib.Core.List.{List, foldl-append}
use mathlib.Core.Bool.{Bool, cond}
use Prim.Native.Nat.{ℕ, zero, suc, ◌+◌, ◌*◌, ◌/◌, ◌%◌, ◌<◌, ◌≤◌}
use native.Mathlib.Nat.{mul-le-mul, mod-lt, div-add-mod', div-lt_iff_lt-mul, mul-add-mod_self_right, mod-eq_of_lt, mul-add-div_right, div-eq_of_lt}
use native.Mathlib.Numerals.{add-one}
use native.Mathlib.Omega.{arith}
use lib.ListN.{length, get_or}
use Rattle.lists.proofs.Laws.{run_fits}
use Rattle.color.specs.declared.Pixel.{Pixel}
use Rattle.color.specs.Channels.{premultiplied}
use Rattle.raster.specs.Surface.{run, raster, pixel_in, pixel_of}
use Rattle.raster.proofs.Pixels.{run_length, run_at, raster_length, raster_at, surface_same}
use Rattle.raster.proofs.Runs.{run_same, run_is}
use Rattle.path.specs.Stored.{edges_of}
use Rattle.scene.specs.Blocks.{draw_of}
use Rattle.scene.specs.Header.{count_of, edition_of, background_of}
use Rattle.coverage.specs.Winding.{coverage}
use Rattle.scene.specs.Fields.{scissoring, scissors_of, scissor_count, non_zero_rule}
use Rattle.engine.specs.declared.Style.{Style}
use Rattle.engine.specs.declared.Shade.{Shade}
use Rattle.engine.specs.Picture.{coverage_of, draw_paint, draw_mask, step_of, draw_step, draw_all, first_draws, pixel_at, mask_at}
use Rattle.engine.specs.Rows.{coverage_with, mask_with, shade_at, style_of}
use Rattle.engine.proofs.Paints.{cut_chosen}
use Rattle.plain.specs.Asked.{step_at, pixelwise}
use lib.IntN.{ℤ}

pub few_pixels : (w h : ℕ) → w ≤ 1024 → h ≤ 1024 → h * w ≤ 1048576
few_pixels w h a b = mul-le-mul {n₁ = h} {m₁ = w} {n₂ = 1024} {m₂ = 1024} b a

positive : (w h i : ℕ) → i < h * w → 0 < w
positive zero h i l = omega arith
positive (suc w) h i l = omega arith

module _ (w h i : ℕ) (l : i < h * w) where
  pub some_width : 0 < w
  some_width = positive w h i l

  pub column_in_lem : i % w < w
  column_in_lem = mod-lt i some_width

  pub row_in : i / w < h
  row_in = (div-lt_iff_lt-mul some_width).1 l

-- the mask's byte of that pixel is byte i
pub own_byte : (masked : Bool) (mask : List ℕ) (w i : ℕ) → cond masked (get_or mask i 0) 255 ≡ cond masked (mask_at w mask (i % w) (i / w)) 255
own_byte masked mask w i = let e : i / w * w + i % w ≡ i = div-add-mod' i w in rw e

-- ---- steps
module _ (w h : ℕ) where
  pub pixelwise_same : (f g : ℕ → ℕ → Pixel → Pixel) (s : List ℕ) → ((x y : ℕ) (p : Pixel) → f x y p ≡ g x y p) → pixelwise w h f s ≡ pixelwise w h g s
  pixelwise_same f g s e = run_same (h * w) _ _ (λ i l. e (i % w) (i / w) (pixel_in s i))

  pixelwise_then : (f g : ℕ → ℕ → Pixel → Pixel) (r s d : List ℕ) → s ≡ pixelwise w h f d → r ≡ pixelwise w h g s
      → r ≡ pixelwise w h (λ x y p. g x y (f x y p)) d
  pixelwise_then f g r s d o u =
      u ∙ run_same (h * w) _ _
      (λ i l. ap (g (i % w) (i / w)) (ap (λ (z : List ℕ). pixel_in z i) o ∙ run_at (h * w) (λ j. f (j % w) (j / w) (pixel_in d j)) i l))

  -- the style's step is the draw's own
  pub own_steps : (l : List ℤ) (d sc ramp : List ℕ) (mask : ℕ → ℕ → ℕ) (s : Style) (n : ℕ) (shade : Shade) (p r : List ℕ) → s ≡ style_of d n shade
      → sc ≡ scissors_of d → ((x y : ℕ) → shade_at shade ramp x y ≡ draw_paint d x y)
      → r ≡ pixelwise w h (λ x y. step_at s (edges_of l s.edges) sc ramp (mask_with s (mask x y)) x y) p → r ≡ pixelwise w h (step_of (edges_of l n) d mask) p
  unfolding step_at step_of coverage_with coverage_of draw_mask
  own_steps l d sc ramp mask s n shade p r e f g o =
      o
      ∙ pixelwise_same (λ x y. step_at s (edges_of l s.edges) sc ramp (mask_with s (mask x y)) x y) (step_of (edges_of l n) d mask) p
      (λ x y q. rw (e, f, g x y, cut_chosen (scissoring d) (scissor_count d) (scissors_of d) x y (coverage (edges_of l n) (non_zero_rule d) x y)))

  -- no draw, and one draw more
  pub draws_none : (edition : ℕ) (scene : List ℕ) (mask : ℕ → ℕ → ℕ) (s : List ℕ) → length s ≡ h * w * 4
      → s ≡ pixelwise w h (draw_all edition (first_draws scene 0) mask) s
  draws_none edition scene mask s e = run_is (h * w) _ s e (λ i l. refl)

  draws_more : (edition : ℕ) (s : List ℕ) (mask : ℕ → ℕ → ℕ) (n x y : ℕ) (p : Pixel)
      → draw_step edition (draw_of s n) mask x y (draw_all edition (first_draws s n) mask x y p) ≡ draw_all edition (first_draws s (n + 1)) mask x y p
  draws_more edition s mask n x y p = rw (add-one, foldl-append)

  pub draws_turn : (edition : ℕ) (scene : List ℕ) (mask : ℕ → ℕ → ℕ) (s r e d : List ℕ) (i : ℕ) → e ≡ draw_of scene i
      → s ≡ pixelwise w h (draw_all edition (first_draws scene i) mask) d → r ≡ pixelwise w h (draw_step edition e mask) s
      → r ≡ pixelwise w h (draw_all edition (first_draws scene (i + 1)) mask) d
  draws_turn edition scene mask s r e d i q o u =
      pixelwise_then (draw_all edition (first_draws scene i) mask) (draw_step edition (draw_of scene i) mask) r s d o
      (u ∙ ap (λ (z : List ℕ). pixelwise w h (draw_step edition z mask) s) q)
      ∙ pixelwise_same (λ x y p. draw_step edition (draw_of scene i) mask x y (draw_all edition (first_draws scene i) mask x y p))
      (draw_all edition (first_draws scene (i + 1)) mask) d (draws_more edition scene mask i)

  -- the draws on the background are the picture
  module _ (x y : ℕ) (k : x < w) (l : y < h) where
    column_of_lem : (y * w + x) % w ≡ x
    column_of_lem = mul-add-mod_self_right y w x ∙ mod-eq_of_lt k

    row_of : (y * w + x) / w ≡ y
    row_of = let z : 0 < w = omega arith in mul-add-div_right z y x ∙ rw (div-eq_of_lt k) (omega arith)

    pixelwise_at : (f : ℕ → ℕ → Pixel → Pixel) (p : Pixel) (s t : List ℕ) → s ≡ run (h * w) (λ i. p) → t ≡ pixelwise w h f s → pixel_of w t x y ≡ f x y p
    pixelwise_at f p s t o u =
        let b : y * w + x < h * w = omega (arith, run_fits w y h l) in
        ap (λ (z : List ℕ). pixel_in z (y * w + x)) u
        ∙ run_at (h * w) (λ i. f (i % w) (i / w) (pixel_in s i)) (y * w + x) b
        ∙ ap (f ((y * w + x) % w) ((y * w + x) / w)) (ap (λ (z : List ℕ). pixel_in z (y * w + x)) o ∙ run_at (h * w) (λ i. p) (y * w + x) b)
        ∙ ap₂ (λ (u v : ℕ). f u v p) column_of_lem row_of

  pub background_then : (scene : List ℕ) (mask : ℕ → ℕ → ℕ) (n : ℕ) (p : Pixel) (s t : List ℕ) → n ≡ count_of scene → p ≡ premultiplied (background_of scene)
      → s ≡ run (h * w) (λ i. p) → t ≡ pixelwise w h (draw_all (edition_of scene) (first_draws scene n) mask) s → t ≡ raster w h (pixel_at scene mask)
  unfolding pixel_at
  background_then scene mask n p s t e f o u =
      surface_same w h t (raster w h (pixel_at scene mask)) (ap length u ∙ run_length (h * w) _ ∙ omega arith) (raster_length w h _)
      (λ x y k l.
      pixelwise_at x y k l (draw_all (edition_of scene) (first_draws scene n) mask) p s t o u
      ∙ ap₂ (λ (c : ℕ) (q : Pixel). draw_all (edition_of scene) (first_draws scene c) mask x y q) e f
      ∙ sym (raster_at w h (pixel_at scene mask) x y k l))
