-- The greatest of some numbers, and the largest difference of two runs of bytes.
use mathlib.Core.Path.{◌≡◌, refl, sym, ◌∙◌}
use mathlib.Core.Bool.{false}
use mathlib.Core.List.{List}
use mathlib.Core.Logic.{⊎_elim}
use Prim.Native.Nat.{ℕ, zero, suc, ◌+◌, ◌*◌, ◌≤◌, ◌<◌, max}
use native.Mathlib.Nat.{eq-or-lt_of_le, le_of_suc-le-suc, not-suc-le-zero}
use native.Mathlib.Omega.{arith, max_cases}
use lib.ListN.{length, get_or}
use lib.Seq.{ext_get_or}
use borrow.Author.Tests.{eq-eqb}
use Rattle.difference.specs.Compare.{same_pixel, differs, apart, gap_at, greatest}

pub greatest_bounds : (n : ℕ) (f : ℕ → ℕ) (k : ℕ) → k < n → f k ≤ greatest n f
greatest_bounds zero f k l = absurd (not-suc-le-zero l)
greatest_bounds (suc n) f k l =
    ⊎_elim (λ e. rw e (omega arith)) (λ m. omega (arith, greatest_bounds n f k m)) (eq-or-lt_of_le (le_of_suc-le-suc l))

pub greatest_reached : (n : ℕ) (f : ℕ → ℕ) → (k : ℕ) × (k ≤ n) × (f k ≡ greatest (suc n) f)
greatest_reached zero f = (0, omega arith, omega arith)
greatest_reached (suc n) f =
    let r = greatest_reached n f in
    max_cases (greatest (suc n) f) (f (suc n)) _
    (λ l e. (suc n, omega arith, sym e))
    (λ l e. (r.0, omega (arith, r.1), r.2 ∙ sym e))

pub greatest_same : (n : ℕ) (f g : ℕ → ℕ) → ((k : ℕ) → k < n → f k ≡ g k) → greatest n f ≡ greatest n g
greatest_same zero f g h = refl
greatest_same (suc n) f g h = rw (greatest_same n f g (λ k l. h k (omega arith)), h n (omega arith))

-- of two runs of numbers, one behind the other
pub greatest_more : (m n : ℕ) (f : ℕ → ℕ) → greatest (m + n) f ≡ max (greatest m f) (greatest n (λ k. f (m + k)))
greatest_more m zero f = rw (add_none m) (omega arith)
  where
    add_none : (m : ℕ) → m + 0 ≡ m
    add_none m = omega arith
greatest_more m (suc n) f = rw (one_more m n, greatest_more m n f) (omega arith)
  where
    one_more : (m n : ℕ) → m + suc n ≡ suc (m + n)
    one_more m n = omega arith

-- ---- without a difference all bytes are the same, and so is every pixel
not_apart : (m n : ℕ) → apart m n ≤ 0 → m ≡ n
not_apart m n e = omega arith

pub equal_no_gap : (n : ℕ) (a b : List ℕ) → a ≡ b → greatest n (gap_at a b) ≡ 0
equal_no_gap zero a b e = refl
equal_no_gap (suc n) a b e = rw (equal_no_gap n a b e, e) (none (get_or b n 0))
  where
    none : (m : ℕ) → max 0 (apart m m) ≡ 0
    none m = omega arith

pub no_gap_same : (n : ℕ) (a b : List ℕ) → greatest (n * 4) (gap_at a b) ≡ 0 → (x : ℕ) → x < n → differs a b x ≡ false
unfolding same_pixel
no_gap_same n a b e x l =
    rw (
      eq-eqb (get_or a (x * 4) 0) (get_or b (x * 4) 0) (byte (x * 4) (omega arith)),
      eq-eqb (get_or a (x * 4 + 1) 0) (get_or b (x * 4 + 1) 0) (byte (x * 4 + 1) (omega arith)),
      eq-eqb (get_or a (x * 4 + 2) 0) (get_or b (x * 4 + 2) 0) (byte (x * 4 + 2) (omega arith)),
      eq-eqb (get_or a (x * 4 + 3) 0) (get_or b (x * 4 + 3) 0) (byte (x * 4 + 3) (omega arith)),
    )
  where
    byte : (j : ℕ) → j < n * 4 → get_or a j 0 ≡ get_or b j 0
    byte j m = not_apart _ _ (rw e at (greatest_bounds (n * 4) (gap_at a b) j m))
