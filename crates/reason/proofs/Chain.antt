-- The lines are the steps of the reference: each begins where the one before it ends, and the last ends at the pixel that a full drawing stores.
use mathlib.Core.Path.{◌≡◌, refl, sym, ap, ◌∙◌}
use mathlib.Core.List.{List, foldl-append}
use mathlib.Core.Bool.{Bool, true, false, cond}
use Prim.Native.Nat.{ℕ, zero, suc, ◌+◌, ◌≤◌, ◌<◌}
use native.Mathlib.Omega.{arith}
use native.Mathlib.Numerals.{add-one}
use lib.Dec.{eqb}
use Rattle.std.specs.Prelude.{Ok}
use Rattle.color.specs.declared.Pixel.{Pixel}
use Rattle.color.specs.Channels.{premultiplied}
use Rattle.raster.specs.Surface.{pixel_of}
use Rattle.raster.proofs.Pixels.{raster_at}
use Rattle.scene.specs.Blocks.{draw_of}
use Rattle.scene.specs.Header.{width_of, height_of, count_of, edition_of, background_of}
use Rattle.engine.specs.Picture.{draw_coverage, draw_step, draw_all, first_draws, pixel_at, mask_at, picture}
use Rattle.render.specs.Answers.{Mask, mask_bytes, Accepted, Lent, draw_surface}
use Rattle.render.proofs.Demands.{full_drawing_leaves_picture}
use Rattle.reason.specs.declared.Line.{Line}
use Rattle.reason.specs.declared.Start.{Start}
use Rattle.reason.specs.Explanations.{outside, uncovered, bare_line, outside_scissors, covered_line, line_of, pixel_before, pixel_fault, followed}
use Rattle.reason.proofs.Refusals.{start_accepted, line_there}

-- ---- one line
module _ (edition : ℕ) (d : List ℕ) (f : ℕ → ℕ → ℕ) (x y : ℕ) (p : Pixel) where
  by_kind : (t u : Bool) (get : Line → Pixel) (q : Pixel)
      → get (bare_line outside p (draw_step edition d f x y p)) ≡ q
      → get (bare_line uncovered p (draw_step edition d f x y p)) ≡ q
      → get (covered_line edition d f x y p) ≡ q
      → get
      (cond t (bare_line outside p (draw_step edition d f x y p))
      (cond u (bare_line uncovered p (draw_step edition d f x y p)) (covered_line edition d f x y p)))
      ≡ q
  by_kind true u get q a b c = a
  by_kind false true get q a b c = b
  by_kind false false get q a b c = c

  pub line_before : (line_of edition d f x y p).before ≡ p
  unfolding line_of covered_line
  line_before = by_kind (outside_scissors d x y) (eqb (draw_coverage edition d x y) 0) (λ l. l.before) p refl refl refl

  -- the pixel after a line is the reference's step
  pub line_after : (line_of edition d f x y p).after ≡ draw_step edition d f x y p
  unfolding line_of covered_line
  line_after = by_kind (outside_scissors d x y) (eqb (draw_coverage edition d x y) 0) (λ l. l.after) (draw_step edition d f x y p) refl refl refl

-- ---- all of them
module _ (s : List ℕ) (f : ℕ → ℕ → ℕ) (x y : ℕ) where
  pub begins_at_background : pixel_before s f x y 0 ≡ premultiplied (background_of s)
  unfolding pixel_before
  begins_at_background = refl

  draws_more : (edition i : ℕ) (p : Pixel)
      → draw_all edition (first_draws s (i + 1)) f x y p ≡ draw_step edition (draw_of s i) f x y (draw_all edition (first_draws s i) f x y p)
  draws_more edition i p = rw (add-one, foldl-append)

  step_more : (i : ℕ) → draw_step (edition_of s) (draw_of s i) f x y (pixel_before s f x y i) ≡ pixel_before s f x y (i + 1)
  unfolding pixel_before
  step_more i = sym (draws_more (edition_of s) i (premultiplied (background_of s)))

  pub line_goes_on : (i : ℕ) → (line_of (edition_of s) (draw_of s i) f x y (pixel_before s f x y i)).after ≡ pixel_before s f x y (i + 1)
  line_goes_on i = line_after (edition_of s) (draw_of s i) f x y (pixel_before s f x y i) ∙ step_more i

  pub ends_at_picture : pixel_before s f x y (count_of s) ≡ pixel_at s f x y
  unfolding pixel_before pixel_at
  ends_at_picture = refl

-- the pixel after the last line is the one that a full drawing stores
pub last_is_drawn : (s : List ℕ) (m : Mask) (surface : List ℕ) (scratch x y : ℕ) → Accepted m s → Lent s m surface scratch → x < width_of s → y < height_of s
    → pixel_before s (mask_at (width_of s) (mask_bytes m)) x y (count_of s) ≡ pixel_of (width_of s) (draw_surface s m surface scratch) x y
unfolding picture
last_is_drawn s m surface scratch x y a l k h =
    let mask = mask_at (width_of s) (mask_bytes m) in
    ends_at_picture s mask x y
    ∙ sym (raster_at (width_of s) (height_of s) (pixel_at s mask) x y k h)
    ∙ sym (ap (λ (z : List ℕ). pixel_of (width_of s) z x y) (full_drawing_leaves_picture s m surface scratch a l))

-- ---- the answers of the calls, one after the other, where nothing is refused
module _ (s : List ℕ) (m : Mask) (x y : ℕ) (fine : pixel_fault s m x y ≡ Ok tt) where
  abbrev mask : ℕ → ℕ → ℕ
  mask = mask_at (width_of s) (mask_bytes m)

  -- each line's pixel before the draw is the reference's
  pub lines_follow : (n : ℕ) → n ≤ count_of s → followed s m x y n ≡ pixel_before s mask x y n
  lines_follow zero l =
      ap (λ (b : Start). b.pixel) (sym (start_accepted s m x y (sym fine))) ∙ sym (begins_at_background s mask x y)
  lines_follow (suc n) l =
      let p = followed s m x y n in
      ap (λ (k : Line). k.after) (sym (line_there s m x y (sym fine) n p l))
      ∙ ap (λ (q : Pixel). (line_of (edition_of s) (draw_of s n) mask x y q).after) (lines_follow n (omega arith))
      ∙ line_goes_on s mask x y n
      ∙ ap (pixel_before s mask x y) (add-one n)

  -- and the pixel after the last is the picture's
  pub lines_end_at_picture : followed s m x y (count_of s) ≡ pixel_at s mask x y
  lines_end_at_picture = lines_follow (count_of s) (omega arith) ∙ ends_at_picture s mask x y
