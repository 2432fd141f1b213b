-- Demand 3: outside the area the pictures of both scenes are the same; so painting the new scene inside the area turns the picture of the
-- old scene into that of the new one.
use mathlib.Core.Path.{◌≡◌, refl, sym, ap, ◌∙◌}
use mathlib.Core.List.{List, foldl-append}
use mathlib.Core.Bool.{true, false, cond, true≢false}
use mathlib.Core.Logic.{⊎_elim}
use Prim.Native.Nat.{ℕ, zero, suc, ◌+◌, ◌*◌, ◌≤◌, ◌<◌, max}
use native.Mathlib.Nat.{eq-or-lt_of_le, le_of_suc-le-suc}
use native.Mathlib.Omega.{arith}
use lib.ListN.{length}
use borrow.Author.Tests.{le-ltb, lt-ltb}
use Rattle.rect.specs.Rects.{Inside}
use Rattle.rect.proofs.Laws.{either, in_or_out}
use Rattle.color.specs.declared.Pixel.{Pixel}
use Rattle.color.specs.Channels.{premultiplied}
use Rattle.raster.specs.Surface.{raster, overlay}
use Rattle.raster.proofs.Pixels.{raster_at, raster_length, surface_same}
use Rattle.raster.proofs.Overlay.{less_or, overlay_in, overlay_out, overlay_length}
use Rattle.scene.specs.Blocks.{draw_of}
use Rattle.scene.specs.Header.{count_of, edition_of, background_of}
use Rattle.engine.proofs.Steps.{draw_closed, step_out}
use Rattle.engine.specs.Picture.{draw_edges, draw_step, draw_all, first_draws, pixel_at}
use Rattle.damage.specs.Damage.{has, changed_at, draw_box, box_at, same_background, damage_of}
use Rattle.damage.proofs.Changes.{same_equal, draw_length, changed_past, changed_gone, unchanged, box_there, same_background_lem, damage_whole}
use Rattle.damage.proofs.Smallest.{damage_holds}

-- what draw i does to a pixel: nothing where the scene has no such draw
abbrev step_at : (ℕ → ℕ → ℕ) → List ℕ → ℕ → ℕ → ℕ → Pixel → Pixel
step_at mask s i x y p = cond (has s i) (draw_step (edition_of s) (draw_of s i) mask x y p) p

-- the first n draws, as far as there are any
abbrev run_to : (ℕ → ℕ → ℕ) → List ℕ → ℕ → ℕ → ℕ → Pixel → Pixel
run_to mask s zero x y p = p
run_to mask s (suc n) x y p = step_at mask s n x y (run_to mask s n x y p)

module _ (mask : ℕ → ℕ → ℕ) (s : List ℕ) (x y : ℕ) (p : Pixel) where
  run_is : (n : ℕ) → n ≤ count_of s → run_to mask s n x y p ≡ draw_all (edition_of s) (first_draws s n) mask x y p
  run_is zero l = refl
  run_is (suc n) l = rw (lt-ltb n (count_of s) l, run_is n (omega arith), foldl-append)

  run_all : (n : ℕ) → count_of s ≤ n → run_to mask s n x y p ≡ draw_all (edition_of s) (first_draws s (count_of s)) mask x y p
  run_all zero l =
      let e : count_of s ≡ 0 = omega arith in
      rw e
  run_all (suc n) l =
      ⊎_elim (λ e. run_is (suc n) (omega arith) ∙ rw e)
      (λ k. rw (le-ltb n (count_of s) (le_of_suc-le-suc k)) (run_all n (le_of_suc-le-suc k)))
      (eq-or-lt_of_le l)

module _
    (mask : ℕ → ℕ → ℕ) (old new : List ℕ) (w h : ℕ)
    (bo : length old ≡ 512 * (1 + 4 * count_of old)) (bn : length new ≡ 512 * (1 + 4 * count_of new))
  where
    -- outside its box, draw i does nothing
    step_none : (s : List ℕ) (i x y : ℕ) (p : Pixel) → x < w → y < h → (Inside (box_at w h s i) x y → ⊥) → step_at mask s i x y p ≡ p
    unfolding draw_box
    step_none s i x y p k l o =
        less_or i (count_of s)
        (λ m.
        let d = draw_of s i in
        rw (lt-ltb i (count_of s) m)
        (step_out (draw_edges (edition_of s) d) d mask w h x y p (draw_closed (edition_of s) d) k l (rw (box_there w h s i m) at o)))
        (λ m. rw (le-ltb i (count_of s) m))

    -- a draw that is not changed does the same in both scenes
    step_kept : (i x y : ℕ) (p : Pixel) → changed_at old new i ≡ false → step_at mask old i x y p ≡ step_at mask new i x y p
    step_kept i x y p c =
        less_or i (count_of old)
        (λ a.
        less_or i (count_of new)
        (λ b.
        let e = unchanged old new i a b c in
        let d = same_equal (draw_of old i) (draw_of new i) (draw_length old (count_of old) i bo a) (draw_length new (count_of new) i bn b) e.1 in
        rw (lt-ltb i (count_of old) a, lt-ltb i (count_of new) b, d)
        (ap (λ (n : ℕ). draw_step n (draw_of new i) mask x y p) e.0))
        (λ b. absurd (true≢false (sym (changed_gone old new i a b) ∙ c))))
        (λ a. rw (le-ltb i (count_of old) a, sym (changed_past old new i a) ∙ c))

    -- the pixel (x, y) is in no box, old or new, of a changed draw
    abbrev pub Untouched : ℕ → ℕ → Type 0
    Untouched x y =
        (i : ℕ) → i < max (count_of old) (count_of new) → changed_at old new i ≡ true → (Inside (box_at w h old i) x y → ⊥) ×
        (Inside (box_at w h new i) x y → ⊥)

    -- there each draw does the same in both scenes
    step_same : (i x y : ℕ) (p : Pixel) → i < max (count_of old) (count_of new) → x < w → y < h → Untouched x y
        → step_at mask old i x y p ≡ step_at mask new i x y p
    step_same i x y p b k l away =
        either (changed_at old new i)
        (λ c. step_none old i x y p k l (away i b c).0 ∙ sym (step_none new i x y p k l (away i b c).1))
        (λ c. step_kept i x y p c)

    runs_same : (x y : ℕ) (p : Pixel) → x < w → y < h → Untouched x y → (i : ℕ) → i ≤ max (count_of old) (count_of new)
        → run_to mask old i x y p ≡ run_to mask new i x y p
    runs_same x y p k l away zero b = refl
    runs_same x y p k l away (suc i) b =
        step_same i x y (run_to mask old i x y p) b k l away ∙ ap (step_at mask new i x y) (runs_same x y p k l away i (omega arith))

    -- so with one background both scenes have the same pixel there
    pub untouched_same : same_background old new ≡ true → (x y : ℕ) → x < w → y < h → Untouched x y → pixel_at old mask x y ≡ pixel_at new mask x y
    unfolding pixel_at
    untouched_same b x y k l away =
        let all = max (count_of old) (count_of new) in
        let p = premultiplied (background_of old) in
        sym (run_all mask old x y p all (omega arith))
        ∙ runs_same x y p k l away all (omega arith)
        ∙ run_all mask new x y p all (omega arith)
        ∙ ap (λ (c : Pixel). draw_all (edition_of new) (first_draws new (count_of new)) mask x y (premultiplied c)) (same_background_lem old new b)

    -- outside the area both scenes have the same pixels
    pub outside_same : (x y : ℕ) → x < w → y < h → (Inside (damage_of w h old new) x y → ⊥) → pixel_at old mask x y ≡ pixel_at new mask x y
    outside_same x y k l out =
        either (same_background old new)
        (λ e.
        untouched_same e x y k l
        (λ i m c. let held = damage_holds w h old new e i m c in (λ j. out (held.0 x y j), λ j. out (held.1 x y j))))
        (λ e. absurd (out (rw (damage_whole w h old new e) (record { left = omega arith; right = k; below = omega arith; above = l }))))

    -- on a surface that holds the old scene's pixels, the new scene's inside the area make the new scene's picture
    pub redraw_right : overlay w h (damage_of w h old new) (pixel_at new mask) (raster w h (pixel_at old mask)) ≡ raster w h (pixel_at new mask)
    redraw_right =
        surface_same w h _ (raster w h (pixel_at new mask)) (overlay_length w h (damage_of w h old new) (pixel_at new mask) (raster w h (pixel_at old mask)))
        (raster_length w h (pixel_at new mask))
        (λ x y k l.
        in_or_out (damage_of w h old new) x y
        (λ i. overlay_in w h (damage_of w h old new) (pixel_at new mask) (raster w h (pixel_at old mask)) x y k l i
        ∙ sym (raster_at w h (pixel_at new mask) x y k l))
        (λ i. overlay_out w h (damage_of w h old new) (pixel_at new mask) (raster w h (pixel_at old mask)) x y k l i
        ∙ raster_at w h (pixel_at old mask) x y k l ∙ outside_same x y k l i ∙ sym (raster_at w h (pixel_at new mask) x y k l)))
