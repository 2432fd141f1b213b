-- A search through stops in a run of numbers, from one stop to the next.
use Rattle.std.proofs.Common.{◌≡◌, ℕ, zero, suc, ◌+◌, ◌-◌, ◌*◌, ◌<◌, ◌≤◌, true, false, T, List, get_or, ℤ, pos, negsuc, nat_abs, sym, ◌∙◌, subst, zero-add}
use Rattle.std.proofs.Common.{add-one, arith, ltb→lt, le-ltb, lt-ltb}
use lib.Signed.{lt_z, non_neg}
use Rattle.paint.specs.Gradient.{ramp_unit}
use Rattle.paint.specs.Ramps.{mix, between, last_color, ramp_at}
use Rattle.paint.specs.Buffers.{stop_at, stops_from, stops_in}
use Rattle.paint.specs.declared.Stop.{Stop}

module _ (ramp : List ℕ) where
  -- the next stop's offset is above t, or it is not, and the search goes on
  module _ (i : Stop) (j count t : ℕ) (h : j < count) where
    split : count - j ≡ suc (count - (j + 1))
    split = omega arith

    pub between_here : t < get_or ramp (j * 2) 0 → between i (stops_from ramp j (count - j)) t ≡ mix i (stop_at ramp j) t
    between_here l = rw (split, lt-ltb t (get_or ramp (j * 2) 0) l)

    pub between_on : get_or ramp (j * 2) 0 ≤ t
        → between i (stops_from ramp j (count - j)) t ≡ between (stop_at ramp j) (stops_from ramp (j + 1) (count - (j + 1))) t
    between_on l = rw (split, le-ltb t (get_or ramp (j * 2) 0) l, add-one j)

  pub between_end : (i : Stop) (j count t : ℕ) → count ≤ j → between i (stops_from ramp j (count - j)) t ≡ i.color
  between_end i j count t h =
      let z : count - j ≡ 0 = omega arith in
      rw z

  pub last_is : (i n : ℕ) → last_color (stop_at ramp i) (stops_from ramp (suc i) n) ≡ (stop_at ramp (i + n)).color
  last_is i zero = rw (zero_more i)
    where
      zero_more : (i : ℕ) → i + 0 ≡ i
      zero_more i = omega arith
  last_is i (suc n) = last_is (suc i) n ∙ rw (moved i n)
    where
      moved : (i n : ℕ) → suc i + n ≡ i + suc n
      moved i n = omega arith

  -- the three cases of the ramp's colour, where there are suc n stops
  module _ (count n : ℕ) (e : count ≡ suc n) (t : ℤ) where
    pub ramp_before : lt_z t (pos 0) ≡ true → ramp_at (stops_in ramp count) t ≡ (stop_at ramp 0).color
    unfolding ramp_at
    ramp_before b = rw (e, b)

    pub ramp_within : lt_z t (pos 0) ≡ false → lt_z t (pos ramp_unit) ≡ true
        → ramp_at (stops_in ramp count) t ≡ between (stop_at ramp 0) (stops_from ramp 1 n) (nat_abs t)
    unfolding ramp_at
    ramp_within b c = rw (e, b, c)

    pub ramp_after : lt_z t (pos 0) ≡ false → lt_z t (pos ramp_unit) ≡ false → ramp_at (stops_in ramp count) t ≡ (stop_at ramp n).color
    unfolding ramp_at
    ramp_after b c = rw (e, b, c) (last_is 0 n ∙ rw (zero-add n))

-- t is from 0 to 65,535
pub in_range_lem : (t : ℤ) → lt_z t (pos 0) ≡ false → lt_z t (pos ramp_unit) ≡ true → T (non_neg t) × (nat_abs t < ramp_unit)
in_range_lem (pos n) h k = (tt, ltb→lt n ramp_unit (subst T (sym k) tt))
in_range_lem (negsuc n) h k = absurd (subst T h tt)
