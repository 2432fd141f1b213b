-- The smallest rectangle that holds some pixels, one pixel more.
use mathlib.Core.Path.{◌≡◌, refl, ap, ◌∙◌}
use mathlib.Core.Bool.{false}
use mathlib.Core.List.Memᴰ
use mathlib.Core.List.{List, [], ◌∷◌, map, foldl, Memᴰ}
use mathlib.Core.Logic.{⊎_elim}
use Prim.Native.Nat.{ℕ, zero, suc, ◌+◌, ◌*◌, ◌/◌, ◌%◌, ◌<◌, min, max}
use native.Mathlib.Nat.{mul-add-mod_self_right, mul-add-div_right, mod-eq_of_lt, div-eq_of_lt, mod-lt, div-lt_iff_lt-mul, mul_comm}
use native.Mathlib.Omega.{arith}
use borrow.Author.Tests.{lt-leb}
use Rattle.rect.specs.declared.Rect.{Rect}
use Rattle.rect.specs.Rects.{On, Holds, empty_of, round_both, join_of, none}
use Rattle.rect.proofs.Laws.{either, Wide, not_empty, empty_out, join_left, join_right, join_least, join_on}
use Rattle.difference.specs.Compare.{pixel_rect, pixels_rect}

corners : (a b : Rect) → a.x0 ≡ b.x0 → a.y0 ≡ b.y0 → a.x1 ≡ b.x1 → a.y1 ≡ b.y1 → a ≡ b
corners a b e f g h = rw (e, f, g, h)

-- ---- the order of joins does not matter
round_wide : (a b : Rect) → Wide a → empty_of (round_both a b) ≡ false
round_wide a b w =
    rw (
      lt-leb (max a.x1 b.x1) (min a.x0 b.x0) (omega arith),
      lt-leb (max a.y1 b.y1) (min a.y0 b.y0) (omega arith),
    )

round_turned : (a b : Rect) → round_both a b ≡ round_both b a
round_turned a b = corners _ _ (omega arith) (omega arith) (omega arith) (omega arith)

round_swap : (a p q : Rect) → round_both (round_both a p) q ≡ round_both (round_both a q) p
round_swap a p q = corners _ _ (omega arith) (omega arith) (omega arith) (omega arith)

join_swap : (a p q : Rect) → join_of (join_of a p) q ≡ join_of (join_of a q) p
join_swap a p q =
    either (empty_of p) (λ e. rw e)
    (λ e.
    either (empty_of q) (λ f. rw f)
    (λ f.
    either (empty_of a)
    (λ g. rw (e, f, g) (rw (e, f) (round_turned p q)))
    (λ g. rw (e, f, g) (rw (round_wide a p (not_empty a g), round_wide a q (not_empty a g)) (round_swap a p q)))))

fold_swap : (ps : List Rect) (a p : Rect) → foldl join_of (join_of a p) ps ≡ join_of (foldl join_of a ps) p
fold_swap [] a p = refl
fold_swap (q ∷ ps) a p = ap (λ r. foldl join_of r ps) (join_swap a p q) ∙ fold_swap ps (join_of a q) p

pub rect_more : (w i : ℕ) (is : List ℕ) → pixels_rect w (i ∷ is) ≡ join_of (pixels_rect w is) (pixel_rect w i)
unfolding pixels_rect
rect_more w i is = fold_swap (map (pixel_rect w) is) none (pixel_rect w i)

-- ---- pixel (x, y) has number y·width + x
pub column_of_lem : (w x y : ℕ) → x < w → (y * w + x) % w ≡ x
column_of_lem w x y l = mul-add-mod_self_right y w x ∙ mod-eq_of_lt l

pub row_of : (w x y : ℕ) → x < w → (y * w + x) / w ≡ y
row_of w x y l = let z : 0 < w = omega arith in mul-add-div_right z y x ∙ rw (div-eq_of_lt l) (omega arith)

-- ---- it holds each pixel, every rectangle that does holds it, and it lies on the surface
pub rect_holds : (w : ℕ) (is : List ℕ) (i : ℕ) → Memᴰ i is → Holds (pixels_rect w is) (pixel_rect w i)
rect_holds w [] i m x y h = absurd (Memᴰ.not-nil m)
rect_holds w (k ∷ is) i m x y h =
    rw (rect_more w k is)
    (⊎_elim
    (λ e. join_right (pixels_rect w is) (pixel_rect w k) x y (rw e at h))
    (λ o. join_left (pixels_rect w is) (pixel_rect w k) x y (rect_holds w is i o x y h))
    (Memᴰ.cases_cons m))

pub rect_least : (w : ℕ) (is : List ℕ) (r : Rect) → ((i : ℕ) → Memᴰ i is → Holds r (pixel_rect w i)) → Holds r (pixels_rect w is)
unfolding pixels_rect
rect_least w [] r h = λ x y k. absurd (empty_out none x y refl k)
rect_least w (i ∷ is) r h =
    rw (rect_more w i is)
    (join_least r (pixels_rect w is) (pixel_rect w i) (rect_least w is r (λ k m. h k (Memᴰ.tail m))) (h i (Memᴰ.head refl)))

pub rect_on : (w h : ℕ) (is : List ℕ) → ((i : ℕ) → Memᴰ i is → i < w * h) → On w h (pixels_rect w is)
unfolding pixels_rect
rect_on w h [] l = record { across = omega arith; wide = omega arith; up = omega arith; high = omega arith }
rect_on w h (i ∷ is) l =
    let b = l i (Memᴰ.head refl) in
    let z : 0 < w = some_wide w h i b in
    rw (rect_more w i is)
    (join_on w h (pixels_rect w is) (pixel_rect w i) (rect_on w h is (λ k m. l k (Memᴰ.tail m)))
    (omega (arith, mod-lt i z)) (omega (arith, (div-lt_iff_lt-mul z).1 (rw (mul_comm w h) at b))))
  where
    some_wide : (w h i : ℕ) → i < w * h → 0 < w
    some_wide zero h i l = omega arith
    some_wide (suc w) h i l = omega arith
