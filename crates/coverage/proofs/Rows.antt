-- What begins in the sample rows of a row of pixels, added one after the other.
use mathlib.Core.Path.{◌≡◌, refl, sym, ap, ap₂, subst, ◌∙◌}
use mathlib.Core.List.{List}
use mathlib.Core.Bool.{Bool, true, false, cond}
use Prim.Native.Nat.{ℕ, ◌+◌, ◌*◌, ◌/◌, ◌<◌}
use native.Mathlib.Omega.{arith}
use lib.Dec.{ltb}
use lib.IntN.{ℤ, pos, ◌+ℤ◌}
use lib.ListN.{length, get_or, set, length-set}
use lib.Seq.{get_or-set_other}
use Rattle.coverage.specs.declared.Start.{Start}
use Rattle.coverage.specs.Marks.{mark_rows}
use Rattle.coverage.specs.Scanline.{start_with, bumped, bumped_four, put_row, put_rows, Low, LowFour, Fits, FitRows}
use Rattle.coverage.proofs.Laid.{set_again}

-- ---- one
module _ (b w r : ℕ) (s : Start) (l : List ℤ) where
  pub put_long : length (put_row b w r s l) ≡ length l
  unfolding put_row
  put_long = by (ltb (s.at / 4) w)
    where
      by : (t : Bool) → length (cond t (bumped l (b + (s.at * 4 + r)) s.by) l) ≡ length l
      by true = length-set l (b + (s.at * 4 + r)) (get_or l (b + (s.at * 4 + r)) (pos 0) +ℤ s.by)
      by false = refl

  put_other : (i : ℕ) → (i ≡ b + (s.at * 4 + r) → ⊥) → get_or (put_row b w r s l) i (pos 0) ≡ get_or l i (pos 0)
  unfolding put_row
  put_other i e = by (ltb (s.at / 4) w)
    where
      by : (t : Bool) → get_or (cond t (bumped l (b + (s.at * 4 + r)) s.by) l) i (pos 0) ≡ get_or l i (pos 0)
      by true = get_or-set_other l (b + (s.at * 4 + r)) i (get_or l (b + (s.at * 4 + r)) (pos 0) +ℤ s.by) (pos 0) e
      by false = refl

  -- the numbers of a later sample row stay
  fits_after : (k q : ℕ) (u : Start) (t : List ℤ) → r < q → q < 4 → k ≡ w → t ≡ put_row b w r s l → Fits l b w q u → Fits t b k q u
  fits_after k q u t h g same o f = (
    f.0,
    λ i. subst Low
        (sym (ap (λ (z : List ℤ). get_or z (b + (u.at * 4 + q)) (pos 0)) o ∙ put_other (b + (u.at * 4 + q)) (λ e. omega (arith, h, g, e))))
        (f.1 (omega (arith, same, i))),
  )

-- ---- four: what each asks for, and what they are together
module _ (b w : ℕ) (s u v t : Start) (l : List ℤ) (f : FitRows l b w s u v t) where
  module _ (w1 : ℕ) (l1 : List ℤ) (k1 : w1 ≡ w) (o1 : l1 ≡ put_row b w 0 s l) where
    pub fits_second : Fits l1 b w1 1 u
    fits_second = fits_after b w 0 s l w1 1 u l1 (omega arith) (omega arith) k1 o1 f.1

    module _ (w2 : ℕ) (l2 : List ℤ) (k2 : w2 ≡ w1) (o2 : l2 ≡ put_row b w1 1 u l1) where
      pub fits_third : Fits l2 b w2 2 v
      fits_third =
          fits_after b w1 1 u l1 w2 2 v l2 (omega arith) (omega arith) k2 o2 (fits_after b w 0 s l w1 2 v l1 (omega arith) (omega arith) k1 o1 f.2)

      module _ (w3 : ℕ) (l3 : List ℤ) (k3 : w3 ≡ w2) (o3 : l3 ≡ put_row b w2 2 v l2) where
        pub fits_fourth : Fits l3 b w3 3 t
        fits_fourth =
            fits_after b w2 2 v l2 w3 3 t l3 (omega arith) (omega arith) k3 o3
            (fits_after b w1 1 u l1 w2 3 t l2 (omega arith) (omega arith) k2 o2 (fits_after b w 0 s l w1 3 t l1 (omega arith) (omega arith) k1 o1 f.3))

        pub rows_put : (l4 : List ℤ) → l4 ≡ put_row b w3 3 t l3 → l4 ≡ put_rows b w s u v t l
        unfolding put_rows
        rows_put l4 o4 =
            o4
            ∙ ap₂ (λ (k : ℕ) (z : List ℤ). put_row b k 3 t z) (k3 ∙ k2 ∙ k1)
            (o3 ∙ ap₂ (λ (k : ℕ) (z : List ℤ). put_row b k 2 v z) (k2 ∙ k1) (o2 ∙ ap₂ (λ (k : ℕ) (z : List ℤ). put_row b k 1 u z) k1 o1))

pub rows_marked : (i j k l : ℕ) (d : List ℕ) {d1 d2 d3 d4 : List ℕ} → d1 ≡ set d i 1 → d2 ≡ set d1 j 1 → d3 ≡ set d2 k 1 → d4 ≡ set d3 l 1
    → d4 ≡ mark_rows i j k l d
unfolding mark_rows
rows_marked i j k l d o1 o2 o3 o4 =
    o4
    ∙ ap (λ (z : List ℕ). set z l 1) (o3 ∙ ap (λ (z : List ℕ). set z k 1) (o2 ∙ ap (λ (z : List ℕ). set z j 1) o1))

-- ---- four that begin in one column
module _ (b n : ℕ) (v : ℤ) where
  -- what is added in the sample row r, if the column is in the window
  abbrev more : Bool → List ℤ → ℕ → List ℤ
  more t l r = cond t (bumped l (b + (n * 4 + r)) v) l

  four_rows : (t : Bool) (l : List ℤ) → cond t (bumped_four l (b + n * 4) v) l ≡ more t (more t (more t (more t l 0) 1) 2) 3
  unfolding bumped_four
  four_rows false l = refl
  four_rows true l = rw (at_row 1, at_row 2, at_row 3, first)
    where
      at_row : (r : ℕ) → b + n * 4 + r ≡ b + (n * 4 + r)
      at_row r = omega arith

      first : b + n * 4 ≡ b + (n * 4 + 0)
      first = omega arith

  pub as_rows : (w : ℕ) (l : List ℤ)
      → cond (ltb (n / 4) w) (bumped_four l (b + n * 4) v) l ≡ put_rows b w (start_with n v) (start_with n v) (start_with n v) (start_with n v) l
  unfolding put_row put_rows
  as_rows w l = four_rows (ltb (n / 4) w) l

  pub fit_four : (w : ℕ) (l : List ℤ) → FitRows l b w (start_with n v) (start_with n v) (start_with n v) (start_with n v) → n / 4 < w → LowFour l (b + n * 4)
  fit_four w l f h = (
    row 0 (b + n * 4) (omega arith) (f.0.1 h),
    row 1 (b + n * 4 + 1) (omega arith) (f.1.1 h),
    row 2 (b + n * 4 + 2) (omega arith) (f.2.1 h),
    row 3 (b + n * 4 + 3) (omega arith) (f.3.1 h),
  )
    where
      row : (r j : ℕ) → b + (n * 4 + r) ≡ j → Low (get_or l (b + (n * 4 + r)) (pos 0)) → Low (get_or l j (pos 0))
      row r j o = subst (λ (i : ℕ). Low (get_or l i (pos 0))) o

pub as_marks : (p : ℕ) (d : List ℕ) → set d p 1 ≡ mark_rows p p p p d
unfolding mark_rows
as_marks p d = sym (set_again (set (set d p 1) p 1) p 1 ∙ set_again (set d p 1) p 1 ∙ set_again d p 1)
