-- The draws of a scene at a pixel, and the pictures of two scenes with the same draws in another order.
use mathlib.Core.Path.{◌≡◌, refl, sym, ap, ap₂, ◌∙◌}
use mathlib.Core.List.{List, foldl-append}
use Prim.Native.Nat.{ℕ, zero, suc, ◌<◌}
use native.Mathlib.Omega.{arith}
use lib.ListN.{take}
use Rattle.lists.proofs.Laws.{upto_same}
use Rattle.color.specs.declared.Pixel.{Pixel}
use Rattle.color.specs.Channels.{premultiplied}
use Rattle.rect.specs.Rects.{Inside}
use Rattle.rect.proofs.Laws.{in_or_out}
use Rattle.raster.specs.Surface.{bytes_of, run, raster}
use Rattle.scene.specs.Layout.{block_bytes}
use Rattle.scene.specs.Blocks.{draw_of}
use Rattle.scene.specs.Header.{width_of, height_of, count_of, edition_of, background_of}
use Rattle.engine.specs.Picture.{draw_edges, draw_step, draw_all, first_draws, pixel_at, mask_at, picture}
use Rattle.engine.proofs.Steps.{draw_closed, step_out}
use Rattle.damage.specs.Damage.{draw_box}
use Rattle.rescue.proofs.Assembled.{byte_same, word_same, count_same, edition_same}
use Rattle.order.specs.Orders.{box_in, Apart, Rearrangement, KeepsOrder, swapped, Rearranges}
use Rattle.order.proofs.Turns.{turns, Commute, exchange_same, rearranged_same}

-- ---- what block 0 says, where it is the same
module _ (s t : List ℕ) (e : take block_bytes t ≡ take block_bytes s) where
  pub width_same : width_of t ≡ width_of s
  width_same = word_same s t e 0 (omega arith)

  pub height_same : height_of t ≡ height_of s
  height_same = word_same s t e 2 (omega arith)

  background_same : background_of t ≡ background_of s
  background_same =
      rw (byte_same s t e 8 (omega arith), byte_same s t e 9 (omega arith), byte_same s t e 10 (omega arith), byte_same s t e 11 (omega arith))

-- ---- a pixel
module _ (s : List ℕ) (mask : ℕ → ℕ → ℕ) (x y : ℕ) where
  abbrev step_at : ℕ → Pixel → Pixel
  step_at i p = draw_step (edition_of s) (draw_of s i) mask x y p

  -- the draws of a scene that has those of s at other places
  draws_turn : (t : List ℕ) (from : ℕ → ℕ) (n : ℕ) (p : Pixel) → ((j : ℕ) → j < n → draw_of t j ≡ draw_of s (from j))
      → draw_all (edition_of s) (first_draws t n) mask x y p ≡ turns step_at from n p
  draws_turn t from zero p e = refl
  draws_turn t from (suc n) p e = rw (foldl-append, draws_turn t from n p (λ j l. e j (omega arith)), e n (omega arith))

  module _ (k : x < width_of s) (l : y < height_of s) where
    outside_keeps : (i : ℕ) (p : Pixel) → (Inside (box_in s i) x y → ⊥) → step_at i p ≡ p
    unfolding draw_box
    outside_keeps i p o =
        let d = draw_of s i in
        step_out (draw_edges (edition_of s) d) d mask (width_of s) (height_of s) x y p (draw_closed (edition_of s) d) k l o

    -- two draws of which one at most has the pixel in its box
    not_both : (i j : ℕ) → (Inside (box_in s i) x y → Inside (box_in s j) x y → ⊥) → Commute step_at i j
    not_both i j n p =
        in_or_out (box_in s i) x y
        (λ a. ap (step_at i) (outside_keeps j p (n a)) ∙ sym (outside_keeps j (step_at i p) (n a)))
        (λ a. outside_keeps i (step_at j p) a ∙ ap (step_at j) (sym (outside_keeps i p a)))

-- ---- pictures
module _ (s t : List ℕ) (from : ℕ → ℕ) (r : Rearranges s t from) where
  pixel_turns : (mask : ℕ → ℕ → ℕ) (x y : ℕ) → pixel_at t mask x y ≡ turns (step_at s mask x y) from (count_of s) (premultiplied (background_of s))
  unfolding pixel_at
  pixel_turns mask x y =
      ap₂ (λ (e n : ℕ). draw_all e (first_draws t n) mask x y (premultiplied (background_of t))) (edition_same s t r.header) (count_same s t r.header)
      ∙ ap (λ (b : Pixel). draw_all (edition_of s) (first_draws t (count_of s)) mask x y (premultiplied b)) (background_same s t r.header)
      ∙ draws_turn s mask x y t from (count_of s) (premultiplied (background_of s)) r.draws

module _ (s t : List ℕ) (from : ℕ → ℕ) (r : Rearranges s t from) where
  -- where the steps in both orders do the same at every pixel, the pictures are the same
  turns_picture : ((mask : ℕ → ℕ → ℕ) (x y : ℕ) (p : Pixel) → x < width_of s → y < height_of s
      → turns (step_at s mask x y) from (count_of s) p ≡ turns (step_at s mask x y) (λ i. i) (count_of s) p)
      → (mask : List ℕ) → picture t mask ≡ picture s mask
  unfolding picture
  turns_picture h mask =
      let w = width_of s in
      let m : ℕ → ℕ → ℕ = mask_at w mask in
      ap₂ (λ (a b : ℕ). raster a b (pixel_at t (mask_at a mask))) (width_same s t r.header) (height_same s t r.header)
      ∙ upto_same (height_of s) (λ y. run w (λ x. pixel_at t m x y)) (λ y. run w (λ x. pixel_at s m x y))
      (λ y l.
      upto_same w (λ x. bytes_of (pixel_at t m x y)) (λ x. bytes_of (pixel_at s m x y))
      (λ x k.
      ap bytes_of
      (pixel_turns s t from r m x y
      ∙ h m x y (premultiplied (background_of s)) k l
      ∙ sym (pixel_turns s s (λ i. i) (record { header = refl; draws = λ j l. refl }) m x y))))

-- two neighbours that lie apart, exchanged
pub neighbours_picture : (s t : List ℕ) (i : ℕ) → Rearranges s t (swapped i) → suc i < count_of s → Apart s i (suc i)
    → (mask : List ℕ) → picture t mask ≡ picture s mask
neighbours_picture s t i r l a =
    turns_picture s t (swapped i) r
    (λ m x y p h v. exchange_same (step_at s m x y) (λ j. j) i (count_of s) p l (not_both s m x y h v i (suc i) (a x y)))

-- any rearrangement that keeps the order of draws whose boxes share a pixel
pub order_picture : (s t : List ℕ) (to from : ℕ → ℕ) → Rearranges s t from → Rearrangement (count_of s) to from → KeepsOrder s to
    → (mask : List ℕ) → picture t mask ≡ picture s mask
order_picture s t to from r e o =
    turns_picture s t from r
    (λ m x y p h v.
    rearranged_same (step_at s m x y) (count_of s) to from p e
    (λ i j l n u.
    not_both s m x y h v i j
    (λ a b.
    let q = o i j x y l n a b in
    omega arith)))
