-- Positions on a ramp: the colour at a position is the colour at t.
use Rattle.std.proofs.Common.{◌≡◌, ℕ, zero, suc, ◌+◌, ◌-◌, ◌*◌, ◌/◌, ◌<◌, ◌≤◌, min, Bool}
use Rattle.std.proofs.Common.{true, false, cond, ltb, List, [], ◌∷◌, ◌++◌, length, get_or, take, drop, ℤ}
use Rattle.std.proofs.Common.{pos, negsuc, ◌+ℤ◌, refl, ap, ◌∙◌, div-lt_iff_lt-mul, le-div_iff_mul-le, add-one, arith, take_at, ltb-false, ltb-true, le-ltb}
use Rattle.std.proofs.Common.{lt-ltb}
use Rattle.std.specs.Int.{int_max, int_min}
use Rattle.lists.specs.Lists.{tab}
use Rattle.lists.proofs.Laws.{tab_length, tab_at, part_length}
use Rattle.color.specs.declared.Pixel.{Pixel}
use Rattle.raster.specs.Surface.{run}
use Rattle.raster.proofs.Runs.{run_same}
use Rattle.paint.specs.Gradient.{ramp_unit, mapped}
use Rattle.paint.specs.Ramps.{ramp_at}
use Rattle.paint.specs.Paints.{gradient_color}
use Rattle.paint.specs.Segments.{position_of, t_at, finished, color_at_position, Positions}
use Rattle.paint.specs.declared.Stop.{Stop}

same_color : (ramp : List Stop) (u : ℤ) → ramp_at ramp (t_at (position_of u)) ≡ ramp_at ramp u
unfolding ramp_at position_of
same_color [] u = refl
same_color (i ∷ rest) (negsuc n) = refl
same_color (i ∷ rest) (pos n) = by (ltb n ramp_unit) refl
  where
    by : (t : Bool) → ltb n ramp_unit ≡ t → ramp_at (i ∷ rest) (t_at (position_of (pos n))) ≡ ramp_at (i ∷ rest) (pos n)
    by true e = rw (le-ltb n 0 (omega arith), e, add-one n, le-ltb n 0 (omega arith), e)
    by false e = rw (le-ltb n 0 (omega arith), e)

pub position_small : (u : ℤ) → position_of u ≤ 65537
unfolding position_of
position_small (negsuc n) = omega arith
position_small (pos n) = by (ltb n ramp_unit) refl
  where
    by : (t : Bool) → ltb n ramp_unit ≡ t → position_of (pos n) ≤ 65537
    by true e = rw (le-ltb n 0 (omega arith), e) (omega (arith, ltb-true n ramp_unit e))
    by false e = rw (le-ltb n 0 (omega arith), e) (omega arith)

-- t of 65,536 u / d, by how u and d lie
pub below_unit : (u d : ℕ) → u < d → 65536 * u / d < 65536
below_unit u d l = (div-lt_iff_lt-mul {k = d} {x = 65536 * u} {y = 65536} (omega arith)).1 (omega arith)

pub from_unit : (u d : ℕ) → 0 < d → d ≤ u → 65536 ≤ 65536 * u / d
from_unit u d some l = (le-div_iff_mul-le {k = d} {x = 65536} {y = 65536 * u} some).1 (omega arith)

-- the position of a t that is not negative
pub on_ramp : (t : ℕ) → t < 65536 → t + 1 ≡ position_of (pos t)
unfolding position_of
on_ramp t h = rw (le-ltb t 0 (omega arith), lt-ltb t 65536 h)

pub behind : (t : ℕ) → 65536 ≤ t → 65537 ≡ position_of (pos t)
unfolding position_of
behind t h = rw (le-ltb t 0 (omega arith), le-ltb t 65536 h)

-- one more than t cut to -1..65,536 is its position
pub cut_next : (x t : ℤ) → x ≡ int_max (negsuc 0) (int_min t (pos ramp_unit)) → x +ℤ pos 1 ≡ pos (position_of t)
unfolding position_of
cut_next x (negsuc zero) o = rw o
cut_next x (negsuc (suc n)) o = rw (o, lt-ltb 0 (suc n) (omega arith))
cut_next x (pos n) o = rw o (by (ltb ramp_unit n) refl (ltb n ramp_unit) refl)
  where
    by : (a : Bool) → ltb ramp_unit n ≡ a → (b : Bool) → ltb n ramp_unit ≡ b
        → int_max (negsuc 0) (cond (ltb ramp_unit n) (pos ramp_unit) (pos n)) +ℤ pos 1 ≡ pos (position_of (pos n))
    by true e true f = absurd (omega (arith, ltb-true ramp_unit n e, ltb-true n ramp_unit f))
    by true e false f = rw (e, f, le-ltb n 0 (omega arith))
    by false e true f = rw (e, f, le-ltb n 0 (omega arith))
    by false e false f = rw (e, f, le-ltb n 0 (omega arith)) (ap pos (omega (arith, ltb-false ramp_unit n e, ltb-false n ramp_unit f)))

-- t cut to 0..65,535 is one less than its position, cut likewise
pub cut_same : (t : ℤ) → int_max (pos 0) (int_min t (pos 65535)) ≡ pos (min (position_of t - 1) 65535)
unfolding position_of
cut_same (negsuc n) = refl
cut_same (pos n) = by (ltb 65535 n) refl (ltb n ramp_unit) refl
  where
    by : (a : Bool) → ltb 65535 n ≡ a → (b : Bool) → ltb n ramp_unit ≡ b
        → int_max (pos 0) (cond (ltb 65535 n) (pos 65535) (pos n)) ≡ pos (min (position_of (pos n) - 1) 65535)
    by true e true f = absurd (omega (arith, ltb-true 65535 n e, ltb-true n ramp_unit f))
    by true e false f = rw (e, f, le-ltb n 0 (omega arith))
    by false e true f =
        let m : n ≡ min (n + 1 - 1) 65535 = omega (arith, ltb-false 65535 n e) in
        rw (e, f, le-ltb n 0 (omega arith)) (ap pos m)
    by false e false f = absurd (omega (arith, ltb-false 65535 n e, ltb-false n ramp_unit f))

pub painted : (spread : ℕ) (premultiply : Bool) (ramp : List Stop) (t : ℤ) (p : Pixel) → p ≡ ramp_at ramp (t_at (position_of (mapped spread t)))
    → finished premultiply p ≡ gradient_color spread premultiply ramp t
unfolding gradient_color finished
painted spread premultiply ramp t p e = ap (finished premultiply) (e ∙ same_color ramp (mapped spread t))

pub at_position : (spread : ℕ) (premultiply : Bool) (ramp : List Stop) (t : ℤ)
    → color_at_position premultiply ramp (position_of (mapped spread t)) ≡ gradient_color spread premultiply ramp t
unfolding color_at_position
at_position spread premultiply ramp t = painted spread premultiply ramp t _ refl

-- positions written to the first n places, which are lent once more
pub lent_again : (s q : List ℕ) (n : ℕ) (f : ℕ → ℕ) → n ≤ length s → q ≡ tab (length (take (n - 0) (drop 0 s))) f
    → take (n - 0) (drop 0 (take 0 s ++ (q ++ drop (n - 0) (drop 0 s)))) ≡ tab n f
lent_again s q n f h e =
    let l : length (take (n - 0) (drop 0 s)) ≡ n = part_length s 0 n (omega arith) h ∙ omega arith in
    let w : q ≡ tab n f = e ∙ ap (λ (m : ℕ). tab m f) l in
    take_at q _ (n - 0) (ap length w ∙ tab_length n f ∙ omega arith) ∙ w

-- ---- the pixels of a row, whose t are f's
module _ (n spread : ℕ) (f : ℕ → ℤ) (ks : List ℕ) (e : ks ≡ tab n (λ i. position_of (mapped spread (f i)))) where
  pub positions : n ≤ 256 → Positions ks
  positions h = record {
    few = omega (arith, ap length e ∙ tab_length n _);
    below = λ i l.
        let m : i < n = omega (arith, ap length e ∙ tab_length n _) in
        rw (e, tab_at n (λ i. position_of (mapped spread (f i))) i 0 m) (position_small (mapped spread (f i)));
  }

  pub colored : (premultiply : Bool) (ramp : List Stop)
      → run n (λ i. color_at_position premultiply ramp (get_or ks i 0)) ≡ run n (λ i. gradient_color spread premultiply ramp (f i))
  colored premultiply ramp =
      run_same n _ _
      (λ i l. ap (color_at_position premultiply ramp) (rw e (tab_at n (λ i. position_of (mapped spread (f i))) i 0 l))
      ∙ at_position spread premultiply ramp (f i))
