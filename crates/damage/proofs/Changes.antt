-- What the tests of the definitions tell of changed draws, of their boxes and of the background.
use mathlib.Core.Path.{◌≡◌, sym, ◌∙◌}
use mathlib.Core.List.{List, [], ◌++◌}
use mathlib.Core.Bool.{true, false, not, ◌&&◌}
use mathlib.Core.Logic.{⊎_elim}
use Prim.Native.Nat.{ℕ, zero, suc, ◌+◌, ◌*◌, ◌≤◌, ◌<◌}
use native.Mathlib.Nat.{eq-or-lt_of_le, le_of_suc-le-suc, not-suc-le-zero}
use native.Mathlib.Omega.{arith}
use lib.ListN.{length, get_or, take, drop, length-append, length-take, length-drop}
use lib.Seq.{ext_get_or}
use borrow.Author.Tests.{eqb-true, eq-eqb, le-ltb, lt-ltb, not-false}
use Rattle.color.specs.declared.Pixel.{Pixel}
use Rattle.rect.specs.Rects.{none, whole, smallest}
use Rattle.rect.proofs.Laws.{both}
use Rattle.scene.specs.Blocks.{draw_of, same_to, same_draw}
use Rattle.scene.specs.Header.{count_of, edition_of, background_of}
use Rattle.damage.specs.Damage.{has, same_edition, changed_at, draw_box, box_at, changed_boxes, same_bytes, same_background, damage_of}

-- ---- bytes
same_at : (s t : List ℕ) (n k : ℕ) → same_to s t n ≡ true → k < n → get_or s k 0 ≡ get_or t k 0
same_at s t zero k h l = absurd (not-suc-le-zero l)
same_at s t (suc n) k h l =
    let p = both _ _ h in
    ⊎_elim (λ e. rw e (eqb-true _ _ p.1)) (λ m. same_at s t n k p.0 m) (eq-or-lt_of_le (le_of_suc-le-suc l))

pub same_equal : (s t : List ℕ) → length s ≡ 2032 → length t ≡ 2032 → same_draw s t ≡ true → s ≡ t
unfolding same_draw
same_equal s t a b h = ext_get_or 0 s t (a ∙ sym b) (λ k l. same_at s t 2032 k h (omega arith))

-- a draw of a scene of the right length has 2,032 bytes
payload_length : (s : List ℕ) (at : ℕ) → at + 508 ≤ length s → length (take 508 (drop at s)) ≡ 508
payload_length s at h = length-take 508 (drop at s) ∙ rw (length-drop at s) (omega arith)

four_lengths : (a b c d : List ℕ) → length a ≡ 508 → length b ≡ 508 → length c ≡ 508 → length d ≡ 508 → length ([] ++ a ++ b ++ c ++ d) ≡ 2032
four_lengths a b c d e f g h = simp length-append (omega arith)

pub draw_length : (s : List ℕ) (n i : ℕ) → length s ≡ 512 * (1 + 4 * n) → i < n → length (draw_of s i) ≡ 2032
unfolding draw_of
draw_length s n i e l =
    let part : ℕ → List ℕ = λ j. take 508 (drop (512 * (1 + 4 * i + j)) s) in
    let full : (j : ℕ) → j < 4 → length (part j) ≡ 508 = λ j k. payload_length s (512 * (1 + 4 * i + j)) (omega arith) in
    four_lengths (part 0) (part 1) (part 2) (part 3) (full 0 (omega arith)) (full 1 (omega arith)) (full 2 (omega arith)) (full 3 (omega arith))

-- ---- draws
module _ (old new : List ℕ) (i : ℕ) where
  pub changed_past : count_of old ≤ i → changed_at old new i ≡ has new i
  unfolding changed_at
  changed_past h = rw (le-ltb i (count_of old) h)

  pub changed_gone : i < count_of old → count_of new ≤ i → changed_at old new i ≡ true
  unfolding changed_at
  changed_gone h k = rw (lt-ltb i (count_of old) h, le-ltb i (count_of new) k)

  -- both scenes have it
  module _ (h : i < count_of old) (k : i < count_of new) where
    changed_both : changed_at old new i ≡ not (same_edition old new && same_draw (draw_of old i) (draw_of new i))
    unfolding changed_at
    changed_both = rw (lt-ltb i (count_of old) h, lt-ltb i (count_of new) k)

    pub unchanged : changed_at old new i ≡ false → (edition_of old ≡ edition_of new) × (same_draw (draw_of old i) (draw_of new i) ≡ true)
    unchanged c =
        let p = both (same_edition old new) (same_draw (draw_of old i) (draw_of new i)) (not-false _ (sym changed_both ∙ c)) in
        (eqb-true (edition_of old) (edition_of new) p.0, p.1)

module _ (w h : ℕ) (s : List ℕ) (i : ℕ) where
  pub box_past : count_of s ≤ i → box_at w h s i ≡ none
  unfolding box_at
  box_past l = rw (le-ltb i (count_of s) l)

  pub box_there : i < count_of s → box_at w h s i ≡ draw_box w h (edition_of s) (draw_of s i)
  unfolding box_at
  box_there l = rw (lt-ltb i (count_of s) l)

-- ---- the background and the area
same_pixel_lem : (p q : Pixel) → same_bytes p q ≡ true → p ≡ q
same_pixel_lem p q h =
    let a = both _ _ h in
    let b = both _ _ a.1 in
    let c = both _ _ b.1 in
    let er = eqb-true _ _ a.0 in
    let eg = eqb-true _ _ b.0 in
    let eb = eqb-true _ _ c.0 in
    let ea = eqb-true _ _ c.1 in
    λ i. record { r = er i; g = eg i; b = eb i; a = ea i }

pub same_background_lem : (old new : List ℕ) → same_background old new ≡ true → background_of old ≡ background_of new
unfolding same_background
same_background_lem old new h = same_pixel_lem (background_of old) (background_of new) h

pub damage_whole : (w h : ℕ) (old new : List ℕ) → same_background old new ≡ false → damage_of w h old new ≡ whole w h
unfolding damage_of
damage_whole w h old new e = rw e

pub damage_boxes : (w h : ℕ) (old new : List ℕ) → same_background old new ≡ true → damage_of w h old new ≡ smallest (changed_boxes w h old new)
unfolding damage_of
damage_boxes w h old new e = rw e
