-- What is found, one pixel and one row more.
use mathlib.Core.Path.{◌≡◌, refl, sym, ap, ap₂, ◌∙◌}
use mathlib.Core.Bool.{Bool, true, false, not}
use mathlib.Core.List.{List, ◌∷◌, ◌++◌}
use Prim.Native.Nat.{ℕ, zero, suc, ◌+◌, ◌-◌, ◌*◌, ◌≤◌, ◌<◌, max}
use native.Mathlib.Nat.{mul-le-mul_left, mul-le-mul_right}
use native.Mathlib.Numerals.{add-one}
use native.Mathlib.Omega.{arith}
use lib.ListN.{length, get_or, take, drop}
use lib.Seq.{get_or-take, get_or-drop}
use Rattle.rect.specs.Rects.{On}
use Rattle.rect.proofs.Laws.{either, join_on}
use Rattle.color.specs.declared.Pixel.{Pixel}
use Rattle.raster.specs.Surface.{pixel_in}
use Rattle.raster.proofs.Pixels.{pixel_take, pixel_drop}
use Rattle.difference.specs.declared.Found.{Found}
use Rattle.difference.specs.Compare.{same_pixel, differs, picked, differing, pixels_rect, gap_at, greatest, largest_gap}
use Rattle.difference.specs.Rows.{found_of, all_found, nothing_found, with_pixel, with_pixels, with_largest, with_row, Noted, Small}
use Rattle.difference.proofs.Picked.{picked_more, picked_none}
use Rattle.difference.proofs.Greatest.{greatest_more, greatest_same, no_gap_same}
use Rattle.difference.proofs.Boxes.{rect_more, column_of_lem, row_of}

-- ---- one pixel more of a row
pub differs_is : (a b : List ℕ) (x : ℕ) (p q : Pixel) (t : Bool) → t ≡ not (same_pixel p q) → p ≡ pixel_in a x → q ≡ pixel_in b x → differs a b x ≡ t
differs_is a b x p q t e f g = sym (e ∙ ap₂ (λ s r. not (same_pixel s r)) f g)

module _ (w y : ℕ) (a b : List ℕ) (f : Found) where
  pub pixel_same : (x z m n : ℕ) → suc x ≡ z → suc n ≡ m → differs a b x ≡ false → with_pixels w y a b x m f ≡ with_pixels w y a b z n f
  unfolding with_pixels
  pixel_same x z m n e g q = rw (← g, ← e, q)

  pub pixel_noted : (x z m n : ℕ) → suc x ≡ z → suc n ≡ m → differs a b x ≡ true → with_pixels w y a b x m f ≡ with_pixel w y x (with_pixels w y a b z n f)
  unfolding with_pixels
  pixel_noted x z m n e g q = rw (← g, ← e, q)

  pub no_pixels : (x n : ℕ) → n ≡ 0 → f ≡ with_pixels w y a b x n f
  unfolding with_pixels
  no_pixels x n e = rw e

  -- ---- sizes, for a row y of a picture that is w wide, below the rows of f
  record Near (n : ℕ) (r : Found) : Type 0 where
    few : r.count ≤ f.count + n
    on : On w 1024 r.area
    small : r.least ≤ 1048576

  near_more : Noted w (y + 1) f → (x n : ℕ) → x < w → (r : Found) → Near n r → Near (suc n) (with_pixel w y x r)
  near_more t x n l r s =
      record {
        few = omega (arith, s.few);
        on = join_on w 1024 r.area (record { x0 = x; y0 = y; x1 = x + 1; y1 = y + 1 }) s.on (omega arith) (omega (arith, t.low));
        small = omega (arith, t.low, t.narrow, mul-le-mul_left w t.low, mul-le-mul_left 1024 t.narrow);
      }

  near : Noted w (y + 1) f → (n x : ℕ) → x + n ≡ w → Near n (with_pixels w y a b x n f)
  near t zero x e = rw (← no_pixels x 0 refl) (record { few = omega arith; on = t.on; small = t.small })
  near t (suc n) x e =
      let s = near t n (suc x) (omega arith) in
      either (differs a b x)
      (λ q. rw (pixel_noted x (suc x) (suc n) n refl refl q) (near_more t x n (omega arith) (with_pixels w y a b (suc x) n f) s))
      (λ q. rw (pixel_same x (suc x) (suc n) n refl refl q) (record { few = omega (arith, s.few); on = s.on; small = s.small }))

  pub count_small : Noted w (y + 1) f → (n x : ℕ) → x + n ≡ w → 0 < x → (with_pixels w y a b x n f).count < 1048576
  count_small t n x e l = let s = near t n x e in omega (arith, s.few, t.few, mul-le-mul_left 1024 t.narrow)

  pub pixels_noted : Noted w (y + 1) f → Noted w y (with_pixels w y a b 0 w f)
  pixels_noted t =
      let s = near t w 0 (omega arith) in
      record { narrow = t.narrow; low = omega (arith, t.low); few = omega (arith, s.few, t.few); on = s.on; small = s.small }

-- ---- a row without a difference
module _ (w y : ℕ) (a b : List ℕ) (f : Found) where
  pub row_same : greatest (w * 4) (gap_at a b) ≡ 0 → f ≡ with_row w y a b f
  unfolding with_row with_pixels
  row_same e = rw (picked_none (differs a b) 0 w (λ k l m. no_gap_same w a b e k (omega arith)), e, max_none f.largest)
    where
      max_none : (n : ℕ) → max n 0 ≡ n
      max_none n = omega arith

  pub row_pixels : (g : ℕ) (r : Found) → g ≡ greatest (w * 4) (gap_at a b) → r ≡ with_pixels w y a b 0 w (with_largest g f) → r ≡ with_row w y a b f
  unfolding with_row
  row_pixels g r e h = h ∙ ap (λ (k : ℕ). with_pixels w y a b 0 w (with_largest k f)) e

pub noted_below : (w y : ℕ) (f : Found) → Noted w (y + 1) f → Noted w y f
noted_below w y f t = record { narrow = t.narrow; low = omega (arith, t.low); few = omega (arith, t.few); on = t.on; small = t.small }

pub noted_largest : (w y : ℕ) (f r : Found) (g : ℕ) → r ≡ with_largest g f → Noted w y f → Noted w y r
noted_largest w y f r g e t = rw e (record { narrow = t.narrow; low = t.low; few = t.few; on = t.on; small = t.small })

-- ---- the rows from y on, n of them
abbrev pub found_from : ℕ → List ℕ → List ℕ → ℕ → ℕ → Found
found_from w a b y n = found_of w (picked (differs a b) (y * w) (n * w)) (greatest (n * (w * 4)) (λ j. gap_at a b (y * (w * 4) + j)))

found_pixel : (w x y : ℕ) (is : List ℕ) (g : ℕ) → x < w → with_pixel w y x (found_of w is g) ≡ found_of w ((y * w + x) ∷ is) g
found_pixel w x y is g l = rw (rect_more w (y * w + x) is, column_of_lem w x y l, row_of w x y l, add-one (length is))

module _ (w y : ℕ) (p q a b : List ℕ) (same : (x : ℕ) → x < w → differs p q x ≡ differs a b (y * w + x)) (is : List ℕ) (g : ℕ) where
  found_pixels : (n x : ℕ) → x + n ≡ w → with_pixels w y p q x n (found_of w is g) ≡ found_of w (picked (differs a b) (y * w + x) n ++ is) g
  found_pixels zero x e = sym (no_pixels w y p q (found_of w is g) x 0 refl)
  found_pixels (suc n) x e =
      let h = found_pixels n (suc x) (omega arith) in
      let o : y * w + suc x ≡ suc (y * w + x) = omega arith in
      let l : x < w = omega arith in
      either (differs a b (y * w + x))
      (λ t.
      pixel_noted w y p q (found_of w is g) x (suc x) (suc n) n refl refl (same x l ∙ t)
      ∙ rw (t, ← o, h) (found_pixel w x y (picked (differs a b) (y * w + suc x) n ++ is) g l))
      (λ t. pixel_same w y p q (found_of w is g) x (suc x) (suc n) n refl refl (same x l ∙ t) ∙ rw (t, ← o) h)

-- ---- row y of a picture stands in its bytes from y·4·width on
module _ (w y : ℕ) where
  at_pixel : y * (w * 4) ≡ y * w * 4
  at_pixel = omega arith

  row_pixel : (s p : List ℕ) → p ≡ take (w * 4) (drop (y * (w * 4)) s) → (x : ℕ) → x < w → pixel_in p x ≡ pixel_in s (y * w + x)
  row_pixel s p e x l =
      ap (λ t. pixel_in t x) (e ∙ ap (λ k. take (w * 4) (drop k s)) at_pixel)
      ∙ pixel_take (drop (y * w * 4) s) w x l
      ∙ pixel_drop s (y * w) x (y * w + x) refl

  row_byte : (s p : List ℕ) → p ≡ take (w * 4) (drop (y * (w * 4)) s) → (j : ℕ) → j < w * 4 → get_or p j 0 ≡ get_or s (y * (w * 4) + j) 0
  row_byte s p e j l = rw (e, get_or-take (w * 4) (drop (y * (w * 4)) s) j 0 l, get_or-drop (y * (w * 4)) s j 0)

  module _ (a b p q : List ℕ) (e : p ≡ take (w * 4) (drop (y * (w * 4)) a)) (f : q ≡ take (w * 4) (drop (y * (w * 4)) b)) where
    row_differs : (x : ℕ) → x < w → differs p q x ≡ differs a b (y * w + x)
    row_differs x l = ap₂ (λ s t. not (same_pixel s t)) (row_pixel a p e x l) (row_pixel b q f x l)

    row_gap : (j : ℕ) → j < w * 4 → gap_at p q j ≡ gap_at a b (y * (w * 4) + j)
    row_gap j l = rw (row_byte a p e j l, row_byte b q f j l)

    rows_gap : (n : ℕ) → max (greatest (n * (w * 4)) (λ j. gap_at a b ((y + 1) * (w * 4) + j))) (greatest (w * 4) (gap_at p q))
        ≡ greatest ((n + 1) * (w * 4)) (λ j. gap_at a b (y * (w * 4) + j))
    rows_gap n =
        let g : ℕ → ℕ = λ j. gap_at a b (y * (w * 4) + j) in
        let o : (n + 1) * (w * 4) ≡ w * 4 + n * (w * 4) = omega arith in
        let first : greatest (w * 4) (gap_at p q) ≡ greatest (w * 4) g = greatest_same (w * 4) (gap_at p q) g row_gap in
        let rest : greatest (n * (w * 4)) (λ j. gap_at a b ((y + 1) * (w * 4) + j)) ≡ greatest (n * (w * 4)) (λ j. g (w * 4 + j))
        = greatest_same (n * (w * 4)) _ _ (λ k l. ap (gap_at a b) (omega arith)) in
        rw (o, greatest_more (w * 4) (n * (w * 4)) g) (turned _ _ _ _ first rest)
      where
        turned : (m m' n n' : ℕ) → m ≡ m' → n ≡ n' → max n m ≡ max m' n'
        turned m m' n n' e f = omega arith

    -- one row more
    pub row_turn : (n : ℕ) → with_row w y p q (found_from w a b (y + 1) n) ≡ found_from w a b y (n + 1)
    unfolding with_row
    row_turn n =
        let is = picked (differs a b) ((y + 1) * w) (n * w) in
        let z : y * w + 0 ≡ y * w = omega arith in
        let o : (n + 1) * w ≡ w + n * w = omega arith in
        let k : picked (differs a b) (y * w + 0) w ++ is ≡ picked (differs a b) (y * w) ((n + 1) * w)
        = rw (z, o) (sym (picked_more (differs a b) w (y * w) ((y + 1) * w) (n * w) (omega arith))) in
        found_pixels w y p q a b row_differs is _ w 0 (omega arith) ∙ ap₂ (found_of w) k (rows_gap n)

-- ---- all rows
module _ (w h : ℕ) (a b : List ℕ) where
  pub no_rows : (y n : ℕ) → n ≡ 0 → nothing_found ≡ found_from w a b y n
  unfolding pixels_rect
  no_rows y n e =
      let z : n * w ≡ 0 = rw e (omega arith) in
      let t : n * (w * 4) ≡ 0 = rw e (omega arith) in
      rw (z, t)

  -- a turn of the loop from the top row down; a part lent has e - i of a list's elements from i on
  pub rows_turn : (y : ℕ) (f r : Found) (e : ℕ) → 0 < y → y ≤ h → (y - 1) * (w * 4) + w * 4 ≡ e → f ≡ found_from w a b y (h - y)
      → r ≡ with_row w (y - 1) (take (e - (y - 1) * (w * 4)) (drop ((y - 1) * (w * 4)) a)) (take (e - (y - 1) * (w * 4)) (drop ((y - 1) * (w * 4)) b)) f
      → r ≡ found_from w a b (y - 1) (h - (y - 1))
  rows_turn y f r e l m o g k =
      let at = (y - 1) * (w * 4) in
      let z : y - 1 + 1 ≡ y = omega arith in
      let n : h - y + 1 ≡ h - (y - 1) = omega arith in
      let d : e - at ≡ w * 4 = omega arith in
      let p = take (e - at) (drop at a) in
      let q = take (e - at) (drop at b) in
      let part : (s : List ℕ) → take (e - at) (drop at s) ≡ take (w * 4) (drop at s) = λ s. ap (λ i. take i (drop at s)) d in
      k
      ∙ ap (with_row w (y - 1) p q) (g ∙ ap (λ i. found_from w a b i (h - y)) (sym z))
      ∙ row_turn w (y - 1) a b p q (part a) (part b) (h - y)
      ∙ ap (found_from w a b (y - 1)) n

  pub all_rows : (y n : ℕ) → y ≡ 0 → n ≡ h → found_from w a b y n ≡ all_found w h a b
  unfolding differing largest_gap
  all_rows y n e f =
      let z : y * w ≡ 0 = rw e (omega arith) in
      let o : n * w ≡ w * h = rw f (omega arith) in
      let t : n * (w * 4) ≡ 4 * (w * h) = rw f (omega arith) in
      let u : y * (w * 4) ≡ 0 = rw e (omega arith) in
      ap₂ (found_of w) (rw (z, o)) (rw (t, u) (greatest_same (4 * (w * h)) _ _ (λ k l. ap (gap_at a b) (omega arith))))

pub none_noted : (w y : ℕ) → w ≤ 1024 → y ≤ 1024 → Noted w y nothing_found
none_noted w y l m =
    record {
      narrow = l;
      low = m;
      few = omega (arith, mul-le-mul_right w m);
      on = record { across = omega arith; wide = omega arith; up = omega arith; high = omega arith };
      small = omega arith;
    }
