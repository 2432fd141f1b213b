-- Samples inside, four columns at a time.
use mathlib.Core.Path.{◌≡◌, refl, sym, ap, ◌∙◌}
use mathlib.Core.Bool.{Bool, true, false}
use Prim.Native.Nat.{ℕ, suc, ◌+◌, ◌*◌, ◌/◌, ◌%◌, ◌≤◌}
use native.Mathlib.Omega.{arith}
use native.Mathlib.Nat.{zero-add}
use lib.IntN.{ℤ, pos, negsuc, neg_ℤ, nat_abs, ◌+ℤ◌}
use lib.Signed.{rem_z, quot_z, mag_rem}
use mir.Syntax.{w32}
use mir.Val.{SFits, of_z}
use Rattle.fixed.proofs.Within.{abs_neg, fits}
use Rattle.fixed.proofs.Signed.{zero_yes, zero_no}
use Rattle.coverage.specs.declared.Windings.{Windings}
use Rattle.coverage.specs.Winding.{inside_by, one_if, tally}
use Rattle.coverage.specs.Scanline.{inside_of, taken_of, taken_from, cell_of, cell_in, running}

-- ---- an odd number, by its remainder
abs_rem : (w : ℤ) → nat_abs (rem_z w (pos 2)) ≡ nat_abs w % 2
abs_rem (pos a) = refl
abs_rem (negsuc a) = abs_neg (pos (suc a % 2))

pub odd_yes : (w : ℤ) → (of_z w32 (rem_z w (pos 2)) ≡ 0 → ⊥) → nat_abs w % 2 ≡ 1
odd_yes w h = core (nat_abs w) (λ e. zero_no w32 (rem_z w (pos 2)) h (abs_rem w ∙ e))
  where
    core : (n : ℕ) → (n % 2 ≡ 0 → ⊥) → n % 2 ≡ 1
    core n h = omega (arith, h)

pub odd_no : (w : ℤ) → SFits w32 w → of_z w32 (rem_z w (pos 2)) ≡ 0 → nat_abs w % 2 ≡ 0
odd_no w f e = sym (abs_rem w) ∙ zero_yes w32 (rem_z w (pos 2)) (omega (arith, mag_rem w (pos 2), f.sfits)) e

-- ---- four columns

-- counted column by column or row by row
pub turned_counts : (non_zero : Bool) (t u v w : Windings)
    → inside_of non_zero t + inside_of non_zero u + inside_of non_zero v + inside_of non_zero w ≡ (cell_in non_zero t u v w).count
unfolding inside_of taken_of cell_of
turned_counts non_zero t u v w =
    core (one t.a) (one t.b) (one t.c) (one t.d) (one u.a) (one u.b) (one u.c) (one u.d)
    (one v.a) (one v.b) (one v.c) (one v.d) (one w.a) (one w.b) (one w.c) (one w.d)
  where
    one : ℤ → ℕ
    one z = one_if (inside_by non_zero z)

    core : (a b c d e f g h i j k l m n o p : ℕ)
        → a + b + c + d + (e + f + g + h) + (i + j + k + l) + (m + n + o + p) ≡ a + e + i + m + (b + f + j + n) + (c + g + k + o) + (d + h + l + p)
    core a b c d e f g h i j k l m n o p = omega arith

step : (f : ℕ → ℤ) (n m : ℕ) → m ≡ suc n → running f n +ℤ f n ≡ running f m
step f n m e = sym (ap (running f) e)

core_four : (non_zero : Bool) (z a b c d A B C D : ℤ) → z +ℤ a ≡ A → A +ℤ b ≡ B → B +ℤ c ≡ C → C +ℤ d ≡ D
    → taken_from non_zero z a b c d
    ≡ record {
      sum = D;
      count = 0 + one_if (inside_by non_zero A) + one_if (inside_by non_zero B) + one_if (inside_by non_zero C) + one_if
          (inside_by non_zero D);
    }
unfolding taken_of
core_four non_zero z a b c d A B C D p q r s = rw (p, q, r, s, zero-add)

pub taken_law : (non_zero : Bool) (f : ℕ → ℤ) (x : ℕ)
    → taken_from non_zero (running f (x * 4)) (f (x * 4)) (f (x * 4 + 1)) (f (x * 4 + 2)) (f (x * 4 + 3))
    ≡ record { sum = running f ((x + 1) * 4); count = tally non_zero (λ j. running f (suc j)) x }
taken_law non_zero f x =
    core_four non_zero (running f (x * 4)) (f (x * 4)) (f (x * 4 + 1)) (f (x * 4 + 2)) (f (x * 4 + 3)) (W 0) (W 1) (W 2) (W 3)
    (step f (x * 4) (suc (4 * x + 0)) (omega arith))
    (ap (λ (z : ℤ). z +ℤ f (x * 4 + 1)) (next 0 (x * 4 + 1) (omega arith)) ∙ step f (x * 4 + 1) (suc (4 * x + 1)) (omega arith))
    (ap (λ (z : ℤ). z +ℤ f (x * 4 + 2)) (next 1 (x * 4 + 2) (omega arith)) ∙ step f (x * 4 + 2) (suc (4 * x + 2)) (omega arith))
    (ap (λ (z : ℤ). z +ℤ f (x * 4 + 3)) (next 2 (x * 4 + 3) (omega arith)) ∙ step f (x * 4 + 3) (suc (4 * x + 3)) (omega arith))
    ∙ ap (λ (z : ℤ). record { sum = z; count = tally non_zero (λ j. running f (suc j)) x }) (next 3 ((x + 1) * 4) (omega arith))
  where
    W : ℕ → ℤ
    W m = running f (suc (4 * x + m))

    next : (m n : ℕ) → suc (4 * x + m) ≡ n → running f (suc (4 * x + m)) ≡ running f n
    next m n e = ap (running f) e

pub tally_le : (non_zero : Bool) (w : ℕ → ℤ) (x : ℕ) → tally non_zero w x ≤ 4
tally_le non_zero w x =
    omega (
      arith,
      small (inside_by non_zero (w (4 * x + 0))),
      small (inside_by non_zero (w (4 * x + 1))),
      small (inside_by non_zero (w (4 * x + 2))),
      small (inside_by non_zero (w (4 * x + 3))),
    )
  where
    small : (b : Bool) → one_if b ≤ 1
    small true = omega arith
    small false = omega arith

-- the halved number, which the remainder's code asks for
pub half_fits : (z : ℤ) → SFits w32 z → SFits w32 (quot_z z (pos 2))
half_fits (pos a) f = record { sfits = omega (arith, f.sfits) }
half_fits (negsuc a) f =
    fits {w = w32} {n = 1073741824} {z = neg_ℤ (pos (suc a / 2))} tt (record { size = rw (abs_neg (pos (suc a / 2))) (omega (arith, f.sfits)) })
