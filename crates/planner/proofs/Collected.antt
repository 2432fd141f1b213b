-- Boxes put into a run, one behind another.
use mathlib.Core.Path.{◌≡◌, ap, ◌∙◌}
use mathlib.Core.List.{List, [], ◌∷◌, ◌++◌, append_assoc, append-nil}
use mathlib.Core.Bool.{true, false}
use Prim.Native.Nat.{ℕ, ◌+◌, ◌<◌}
use native.Mathlib.Omega.{arith}
use lib.ListN.{length, set, take, length-set}
use lib.Seq.{get_or-set_same, get_or-set_other, get_or-take}
use Rattle.lists.specs.Lists.{tab}
use Rattle.lists.proofs.Laws.{upto_more, upto_same}
use Rattle.rect.specs.declared.Rect.{Rect}
use Rattle.rect.specs.Rects.{none, whole}
use Rattle.damage.specs.Damage.{changed_at, box_at, boxes_at, changed_boxes, same_background}
use Rattle.regions.specs.Proposals.{to_cover}
use Rattle.planner.specs.Runs.{rect_at, four_of, numbers_of, Sized}

-- one more
pub one_put : (l t : List Rect) (m : ℕ) (a : Rect) → m < length l → t ≡ set l m a → tab (m + 1) (rect_at t) ≡ tab m (rect_at l) ++ (a ∷ [])
one_put l t m a h e =
    rw (
      e,
      upto_more m (λ k. rect_at (set l m a) k ∷ []),
      get_or-set_same l m a none h,
      upto_same m (λ k. rect_at (set l m a) k ∷ []) (λ k. rect_at l k ∷ [])
          (λ k o. ap (λ (b : Rect). b ∷ []) (get_or-set_other l m k a none (λ q. omega (arith, q, o)))),
    )

module _ (w h : ℕ) (old new : List ℕ) (i : ℕ) where
  -- both boxes of a changed draw
  pub both_put : (l s t : List Rect) (m : ℕ) (a b : Rect) → m + 1 < length l → changed_at old new i ≡ true → a ≡ box_at w h old i → b ≡ box_at w h new i
      → s ≡ set l m a → t ≡ set s (m + 1) b → tab (m + 2) (rect_at t) ≡ tab m (rect_at l) ++ boxes_at w h old new i
  both_put l s t m a b q c e f g k =
      let two : m + 2 ≡ m + 1 + 1 = omega arith in
      let fits : m + 1 < length s = rw g (simp length-set (omega arith)) in
      rw (two, one_put s t (m + 1) b fits k, one_put l s m a (omega arith) g, append_assoc, c, e, f)

  -- none of another
  pub none_put : (l : List Rect) (m : ℕ) → changed_at old new i ≡ false → tab m (rect_at l) ≡ tab m (rect_at l) ++ boxes_at w h old new i
  none_put l m c = rw (c, append-nil)

-- what is to be covered
module _ (w h : ℕ) (old new : List ℕ) where
  pub cover_boxes : (bs : List Rect) → same_background old new ≡ true → bs ≡ changed_boxes w h old new → bs ≡ to_cover w h old new
  unfolding to_cover
  cover_boxes bs b e = e ∙ rw b

  pub cover_surface : (l t : List Rect) (a : Rect) → 0 < length l → same_background old new ≡ false → t ≡ set l 0 a → a ≡ whole w h
      → tab 1 (rect_at t) ≡ to_cover w h old new
  unfolding to_cover
  cover_surface l t a q b e f = one_put l t 0 a q e ∙ rw (b, f)

-- ---- the first m of them
module _ (l : List Rect) (n k m : ℕ) (e : n ≡ m) (f : k ≡ m) where
  pub first_tab : tab n (rect_at (take k l)) ≡ tab m (rect_at l)
  first_tab =
      rw (e, f) (upto_same m (λ j. rect_at (take m l) j ∷ []) (λ j. rect_at l j ∷ []) (λ j o. ap (λ (b : Rect). b ∷ []) (get_or-take m l j none o)))

  pub first_numbers : numbers_of n (rect_at (take k l)) ≡ numbers_of m (rect_at l)
  unfolding numbers_of
  first_numbers =
      rw (e, f) (upto_same m (λ j. four_of (rect_at (take m l) j)) (λ j. four_of (rect_at l j)) (λ j o. ap four_of (get_or-take m l j none o)))

  pub first_sized : Sized m (rect_at l) → Sized n (rect_at (take k l))
  first_sized s j o = let i : j < m = omega arith in rw (f, get_or-take m l j none i) (s j i)
