-- The order of far-apart draws (paper 02, P12): a scene with two neighbours exchanged whose boxes share no pixel, and with its draws rearranged
-- so that every two whose boxes share a pixel keep their order, is accepted as before and drawn to the same bytes.
use mathlib.Core.Path.{◌≡◌, sym, ap, ap₂, ◌∙◌}
use mathlib.Core.List.{List}
use mathlib.Core.Logic.{⊎_elim}
use Prim.Native.Nat.{ℕ, suc, ◌*◌, ◌<◌}
use native.Mathlib.Nat.{eq-or-lt_of_le}
use native.Mathlib.Omega.{arith}
use lib.ListN.{length}
use Rattle.raster.proofs.Overlay.{less_or}
use Rattle.scene.specs.Layout.{draw_bytes}
use Rattle.scene.specs.Blocks.{draw_of}
use Rattle.scene.specs.Header.{width_of, height_of, count_of}
use Rattle.scene.proofs.Accepted.{draws_passed}
use Rattle.engine.specs.Picture.{picture}
use Rattle.damage.proofs.Changes.{draw_length}
use Rattle.render.specs.Answers.{Mask, mask_bytes, Accepted, Lent, draw_surface}
use Rattle.render.proofs.Demands.{full_drawing_leaves_picture}
use Rattle.rescue.proofs.Parts.{Front}
use Rattle.rescue.proofs.Assembled.{front_accepted, assembled_first, assembled_draw, assembled_passes}
use Rattle.order.specs.Orders.{Apart, Rearrangement, KeepsOrder, swapped, Rearranges, rearranged, exchanged}
use Rattle.order.proofs.Turns.{swapped_first, swapped_second, swapped_below, swapped_above}
use Rattle.order.proofs.Pixels.{width_same, height_same, neighbours_picture, order_picture}

-- ---- a scene of some of the draws of an accepted one, with fresh checks
module _ (m : Mask) (s : List ℕ) (a : Accepted m s) (from : ℕ → ℕ) (below : (j : ℕ) → j < count_of s → from j < count_of s) where
  front : Front s
  front = front_accepted m.lent s a

  wide : (j : ℕ) → j < count_of s → length (draw_of s (from j)) ≡ draw_bytes
  wide j l = draw_length s (count_of s) (from j) front.bytes (below j l)

  made_rearranges : Rearranges s (rearranged s from) from
  made_rearranges = record {
    header = assembled_first s front (λ j. draw_of s (from j)) wide;
    draws = assembled_draw s front (λ j. draw_of s (from j)) wide;
  }

  made_accepted : Accepted m (rearranged s from)
  made_accepted = assembled_passes s front (λ j. draw_of s (from j)) wide m.lent (λ j l. draws_passed s m.lent a (from j) (below j l))

-- two accepted scenes with the same block 0 and the same picture leave the same bytes, whatever stood on the surfaces
drawn_same : (m : Mask) (s t : List ℕ) (from : ℕ → ℕ) (first second : List ℕ) (scratch1 scratch2 : ℕ) → Accepted m s → Accepted m t → Rearranges s t from
    → picture t (mask_bytes m) ≡ picture s (mask_bytes m) → Lent s m first scratch1 → Lent s m second scratch2
    → draw_surface t m second scratch2 ≡ draw_surface s m first scratch1
drawn_same m s t from first second scratch1 scratch2 a b r e f g =
    let size : width_of s * height_of s ≡ width_of t * height_of t = sym (ap₂ ◌*◌ (width_same s t r.header) (height_same s t r.header)) in
    full_drawing_leaves_picture t m second scratch2 b (record { size = g.size ∙ ap (◌*◌ 4) size; mask = λ l. g.mask l ∙ size; space = g.space })
    ∙ e
    ∙ sym (full_drawing_leaves_picture s m first scratch1 a f)

-- ---- THE EXCHANGE of the neighbours i and i + 1
swapped_fits : (i n j : ℕ) → suc i < n → j < n → swapped i j < n
swapped_fits i n j l k =
    less_or j i
    (λ o. rw (swapped_below i j o) k)
    (λ o.
    ⊎_elim
    (λ e. rw (← e, swapped_first i) l)
    (λ p.
    ⊎_elim
    (λ e. rw (← e, swapped_second i) (omega arith))
    (λ q. rw (swapped_above i j q) k)
    (eq-or-lt_of_le p))
    (eq-or-lt_of_le o))

module _ (m : Mask) (s : List ℕ) (i : ℕ) (a : Accepted m s) (there : suc i < count_of s) where
  fits : (j : ℕ) → j < count_of s → swapped i j < count_of s
  fits j l = swapped_fits i (count_of s) j there l

  -- block 0 is the same in each byte, and each place has its draw
  pub exchanged_draws : Rearranges s (exchanged s i) (swapped i)
  exchanged_draws = made_rearranges m s a (swapped i) fits

  pub exchanged_accepted : Accepted m (exchanged s i)
  exchanged_accepted = made_accepted m s a (swapped i) fits

  -- the full drawing is the same in every byte, under whatever mask
  pub exchanged_same_picture : Apart s i (suc i) → (mask : List ℕ) → picture (exchanged s i) mask ≡ picture s mask
  exchanged_same_picture apart = neighbours_picture s (exchanged s i) i exchanged_draws there apart

  -- so of the calls, with one mask lent for both or none
  pub exchanged_drawn_same : (first second : List ℕ) (scratch1 scratch2 : ℕ) → Apart s i (suc i) → Lent s m first scratch1 → Lent s m second scratch2
      → draw_surface (exchanged s i) m second scratch2 ≡ draw_surface s m first scratch1
  exchanged_drawn_same first second scratch1 scratch2 apart =
      drawn_same m s (exchanged s i) (swapped i) first second scratch1 scratch2 a exchanged_accepted exchanged_draws
      (exchanged_same_picture apart (mask_bytes m))

-- ---- ANY REARRANGEMENT
module _ (m : Mask) (s : List ℕ) (to from : ℕ → ℕ) (a : Accepted m s) (r : Rearrangement (count_of s) to from) where
  pub rearranged_draws : Rearranges s (rearranged s from) from
  rearranged_draws = made_rearranges m s a from r.draws

  pub rearranged_accepted : Accepted m (rearranged s from)
  rearranged_accepted = made_accepted m s a from r.draws

  -- it keeps the order of every two draws whose boxes share a pixel: the full drawing is the same in every byte, under whatever mask
  pub rearranged_same_picture : KeepsOrder s to → (mask : List ℕ) → picture (rearranged s from) mask ≡ picture s mask
  rearranged_same_picture keeps = order_picture s (rearranged s from) to from rearranged_draws r keeps

  pub rearranged_drawn_same : (first second : List ℕ) (scratch1 scratch2 : ℕ) → KeepsOrder s to → Lent s m first scratch1 → Lent s m second scratch2
      → draw_surface (rearranged s from) m second scratch2 ≡ draw_surface s m first scratch1
  rearranged_drawn_same first second scratch1 scratch2 keeps =
      drawn_same m s (rearranged s from) from first second scratch1 scratch2 a rearranged_accepted rearranged_draws
      (rearranged_same_picture keeps (mask_bytes m))

  -- and of any accepted scene that has the draws of s so: two files
  pub files_drawn_same : (t first second : List ℕ) (scratch1 scratch2 : ℕ) → Accepted m t → Rearranges s t from → KeepsOrder s to
      → Lent s m first scratch1 → Lent s m second scratch2 → draw_surface t m second scratch2 ≡ draw_surface s m first scratch1
  files_drawn_same t first second scratch1 scratch2 b d keeps =
      drawn_same m s t from first second scratch1 scratch2 a b d (order_picture s t to from d r keeps (mask_bytes m))
