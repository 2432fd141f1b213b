-- The area is the smallest rectangle that holds the boxes, old and new, of the changed draws.
use mathlib.Core.Path.{◌≡◌, refl, sym, subst, ◌∙◌}
use mathlib.Core.List.{List, [], ◌∷◌, foldl, Memᴰ}
use mathlib.Core.Bool.{true}
use mathlib.Core.Logic.{⊎_elim}
use Prim.Native.Nat.{ℕ, ◌≤◌, ◌<◌, max}
use native.Mathlib.Omega.{arith}
use Rattle.rect.specs.declared.Rect.{Rect}
use Rattle.rect.specs.Rects.{Holds, On, none, empty_of, smallest, join_of}
use Rattle.rect.proofs.Laws.{either, join_on, smallest_holds, smallest_least}
use Rattle.scene.specs.Header.{count_of}
use Rattle.damage.specs.Damage.{changed_at, box_at, boxes_at, changed_boxes, same_background, damage_of}
use Rattle.damage.proofs.Boxes.{box_on}
use Rattle.damage.proofs.Changes.{damage_boxes, damage_whole}
use Rattle.damage.proofs.Members.{upto_has, upto_cases}

-- ---- joins of a list
empty_joins : (bs : List Rect) → ((b : Rect) → Memᴰ b bs → empty_of b ≡ true) → (a : Rect) → foldl join_of a bs ≡ a
empty_joins [] k a = refl
empty_joins (b ∷ bs) k a =
    let e : join_of a b ≡ a = rw (k b (mathlib.Core.List.Memᴰ.head refl)) in
    rw e (empty_joins bs (λ c m. k c (mathlib.Core.List.Memᴰ.tail m)) a)

smallest_none : (bs : List Rect) → ((b : Rect) → Memᴰ b bs → empty_of b ≡ true) → smallest bs ≡ none
smallest_none bs k = empty_joins bs k none

joined_on : (w h : ℕ) (bs : List Rect) (a : Rect) → On w h a → ((b : Rect) → Memᴰ b bs → (b.x1 ≤ w) × (b.y1 ≤ h)) → On w h (foldl join_of a bs)
joined_on w h [] a o k = o
joined_on w h (b ∷ bs) a o k =
    let m = k b (mathlib.Core.List.Memᴰ.head refl) in
    joined_on w h bs (join_of a b) (join_on w h a b o m.0 m.1) (λ c n. k c (mathlib.Core.List.Memᴰ.tail n))

module _ (w h : ℕ) (old new : List ℕ) where
  old_in : (i : ℕ) → changed_at old new i ≡ true → Memᴰ (box_at w h old i) (boxes_at w h old new i)
  old_in i c = rw c (mathlib.Core.List.Memᴰ.head refl)

  new_in : (i : ℕ) → changed_at old new i ≡ true → Memᴰ (box_at w h new i) (boxes_at w h old new i)
  new_in i c = rw c (mathlib.Core.List.Memᴰ.tail (mathlib.Core.List.Memᴰ.head refl))

  -- it holds them all
  pub boxes_held : (i : ℕ) → i < max (count_of old) (count_of new) → changed_at old new i ≡ true
      → Holds (smallest (changed_boxes w h old new)) (box_at w h old i) × Holds (smallest (changed_boxes w h old new)) (box_at w h new i)
  boxes_held i l c = (
    smallest_holds (changed_boxes w h old new) (box_at w h old i) (upto_has _ (boxes_at w h old new) (box_at w h old i) i l (old_in i c)),
    smallest_holds (changed_boxes w h old new) (box_at w h new i) (upto_has _ (boxes_at w h old new) (box_at w h new i) i l (new_in i c)),
  )

  pub damage_holds : same_background old new ≡ true → (i : ℕ) → i < max (count_of old) (count_of new) → changed_at old new i ≡ true
      → Holds (damage_of w h old new) (box_at w h old i) × Holds (damage_of w h old new) (box_at w h new i)
  damage_holds e i l c = rw (damage_boxes w h old new e) (boxes_held i l c)

  -- what holds of the boxes of every changed draw holds of all boxes
  of_draw : (P : Rect → Type 0) (b : Rect) (i : ℕ) → (changed_at old new i ≡ true → P (box_at w h old i) × P (box_at w h new i))
      → Memᴰ b (boxes_at w h old new i) → P b
  of_draw P b i k m =
      either (changed_at old new i)
      (λ c.
      let n : Memᴰ b (box_at w h old i ∷ box_at w h new i ∷ []) = rw c at m in
      ⊎_elim (λ e. subst P (sym e) (k c).0)
      (λ n2. ⊎_elim (λ e. subst P (sym e) (k c).1) (λ n3. absurd (mathlib.Core.List.Memᴰ.not-nil n3)) (mathlib.Core.List.Memᴰ.cases_cons n2))
      (mathlib.Core.List.Memᴰ.cases_cons n))
      (λ c. absurd (mathlib.Core.List.Memᴰ.not-nil (rw c at m)))

  of_changes : (P : Rect → Type 0) → ((i : ℕ) → i < max (count_of old) (count_of new) → changed_at old new i ≡ true → P (box_at w h old i) × P
      (box_at w h new i))
      → (b : Rect) → Memᴰ b (changed_boxes w h old new) → P b
  of_changes P k b m = upto_cases _ (boxes_at w h old new) b (λ i l n. of_draw P b i (k i l) n) m

  -- and every other rectangle that holds them all holds it
  pub damage_least : same_background old new ≡ true → (r : Rect)
      → ((i : ℕ) → i < max (count_of old) (count_of new) → changed_at old new i ≡ true → Holds r (box_at w h old i) × Holds r (box_at w h new i))
      → Holds r (damage_of w h old new)
  damage_least e r k = rw (damage_boxes w h old new e) (smallest_least (changed_boxes w h old new) r (of_changes (Holds r) k))

  -- where no changed draw has a box with a pixel, it is 0, 0, 0, 0
  pub damage_none : same_background old new ≡ true
      → ((i : ℕ) → i < max (count_of old) (count_of new) → changed_at old new i ≡ true → (empty_of (box_at w h old i) ≡ true) ×
      (empty_of (box_at w h new i) ≡ true))
      → damage_of w h old new ≡ none
  damage_none e k = damage_boxes w h old new e ∙ smallest_none (changed_boxes w h old new) (of_changes (λ b. empty_of b ≡ true) k)

  -- it lies on the surface
  pub damage_on : On w h (damage_of w h old new)
  damage_on =
      either (same_background old new)
      (λ e. rw (damage_boxes w h old new e)
      (joined_on w h (changed_boxes w h old new) none none_on (of_changes (λ b. (b.x1 ≤ w) × (b.y1 ≤ h)) (λ i l c. (box_on w h old i, box_on w h new i)))))
      (λ e. rw (damage_whole w h old new e) (record { across = omega arith; wide = omega arith; up = omega arith; high = omega arith }))
    where
      none_on : On w h none
      none_on = record { across = omega arith; wide = omega arith; up = omega arith; high = omega arith }
