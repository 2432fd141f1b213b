-- What the stops of a ramp keep to, and a run that holds one: the first stop lies at 0, none above 65,536, and colours are bytes.
use Rattle.std.proofs.Common.{◌≡◌, ℕ, zero, suc, ◌+◌, ◌-◌, ◌*◌, ◌<◌, ◌≤◌, Bool, true, false, cond, eqb, List, [], ◌∷◌, ◌++◌, map, length, get_or, nat_abs}
use Rattle.std.proofs.Common.{sym, refl, subst, ⊎_elim, eq-or-lt_of_le, arith, eqb-true}
use Rattle.paint.specs.Gradient.{ramp_unit}
use Rattle.paint.specs.Ramps.{offset_at, color_at, falls_in, kept_at, kept_stops, black, white, stop}
use Rattle.paint.specs.Ramps.{with_end, with_ends, prepared, ramp_of}
use Rattle.paint.specs.Buffers.{HeldRamp, ramp_numbers, stops_from, stops_in}
use Rattle.paint.specs.declared.Stop.{Stop}
use Rattle.lists.specs.Lists.{upto}
use Rattle.fixed.specs.Floats.{in_unit, scaled}
use Rattle.fixed.proofs.Scaled.{unit_size}
use Rattle.color.proofs.Alpha.{channel_small}

-- ---- every stop of a ramp
pub data Each (P : Stop → Type 0) : List Stop → Type 0 where
  none : Each P []
  more : {s : Stop} {l : List Stop} → P s → Each P l → Each P (s ∷ l)

module _ {P : Stop → Type 0} where
  each_append : {l m : List Stop} → Each P l → Each P m → Each P (l ++ m)
  each_append none k = k
  each_append (more p h) k = more p (each_append h k)

  each_upto : (f : ℕ → List Stop) → ((k : ℕ) → Each P (f k)) → (n : ℕ) → Each P (upto n f)
  each_upto f h zero = none
  each_upto f h (suc n) = each_append (each_upto f h n) (h n)

  pub each_map : {Q : Stop → Type 0} (f : Stop → Stop) → ((s : Stop) → P s → Q (f s)) → {l : List Stop} → Each P l → Each Q (map f l)
  each_map f k none = none
  each_map f k (more {s} p h) = more (k s p) (each_map f k h)

-- ---- as they are given: no offset lies above 65,536, and colours are bytes
pub record Given (s : Stop) : Type 0 where
  pub below : s.offset ≤ ramp_unit
  pub r : s.color.r < 256
  pub g : s.color.g < 256
  pub b : s.color.b < 256

moved : (x : ℕ) (s : Stop) → x ≤ ramp_unit → Given s → Given (stop x s.color)
moved x s h q = record { below = h; r = q.r; g = q.g; b = q.b }

each_kept : (stops : List ℕ) (i : ℕ) → Each Given (kept_at stops i)
each_kept stops i = by (in_unit (offset_at stops i)) (unit_size ramp_unit (offset_at stops i))
  where
    by : (t : Bool) → (t ≡ true → nat_abs (scaled ramp_unit (offset_at stops i)) ≤ ramp_unit)
        → Each Given (cond t (record { offset = nat_abs (scaled ramp_unit (offset_at stops i)); color = color_at stops i } ∷ []) [])
    by true h = more (record { below = h refl; r = channel_small _; g = channel_small _; b = channel_small _ }) none
    by false h = none

each_end : (a : Stop) {l : List Stop} → Given a → Each Given l → Each Given (with_end a l)
each_end a p none = more p (by (eqb a.offset ramp_unit))
  where
    by : (t : Bool) → Each Given (cond t [] (stop ramp_unit a.color ∷ []))
    by true = none
    by false = more (moved ramp_unit a (omega arith) p) none
each_end a p (more {s} q h) = more p (each_end s q h)

each_ends : {l : List Stop} → Each Given l → Each Given (with_ends l)
unfolding with_ends
each_ends none =
    more {s = stop 0 black} (record { below = omega arith; r = omega arith; g = omega arith; b = omega arith })
    (more {s = stop ramp_unit white} (record { below = omega arith; r = omega arith; g = omega arith; b = omega arith }) none)
each_ends (more {s} {l} p h) = by (eqb s.offset 0)
  where
    by : (t : Bool) → Each Given (cond t (with_end s l) (stop 0 s.color ∷ with_end s l))
    by true = each_end s p h
    by false = more (moved 0 s (omega arith) p) (each_end s p h)

pub stops_given : (stops : List ℕ) (n : ℕ) → Each Given (with_ends (kept_stops stops n))
unfolding kept_stops
stops_given stops n = each_ends (by (falls_in stops (n - 1)))
  where
    by : (t : Bool) → Each Given (cond t [] (upto n (kept_at stops)))
    by true = none
    by false = each_upto (kept_at stops) (each_kept stops) n

-- ---- the first stop lies at 0
abbrev pub Starts : List Stop → Type 0
Starts [] = ⊥
Starts (s ∷ l) = s.offset ≡ 0

end_starts : (a : Stop) (l : List Stop) → a.offset ≡ 0 → Starts (with_end a l)
end_starts a [] e = e
end_starts a (b ∷ l) e = e

ends_start : (l : List Stop) → Starts (with_ends l)
unfolding with_ends
ends_start [] = refl
ends_start (a ∷ l) = by (eqb a.offset 0) refl
  where
    by : (t : Bool) → eqb a.offset 0 ≡ t → Starts (cond t (with_end a l) (stop 0 a.color ∷ with_end a l))
    by true e = end_starts a l (eqb-true a.offset 0 e)
    by false e = refl

prepared_starts : (premultiply : Bool) (l : List Stop) → Starts l → Starts (map (prepared premultiply) l)
prepared_starts premultiply [] h = h
prepared_starts premultiply (s ∷ l) h = h

pub ramp_starts : (premultiply : Bool) (stops : List ℕ) (n : ℕ) → Starts (ramp_of premultiply stops n)
ramp_starts premultiply stops n = prepared_starts premultiply (with_ends (kept_stops stops n)) (ends_start (kept_stops stops n))

-- ---- what a run that holds a ramp keeps to
module _ (ramp : List ℕ) where
  offset_below : (i n : ℕ) → Each (λ s. s.offset ≤ ramp_unit) (stops_from ramp i n) → (k : ℕ) → i ≤ k → k < i + n → get_or ramp (k * 2) 0 ≤ ramp_unit
  offset_below i zero e k a b = absurd (omega arith)
  offset_below i (suc n) (more p e) k a b =
      ⊎_elim (λ q. subst (λ (j : ℕ). get_or ramp (j * 2) 0 ≤ ramp_unit) q p) (λ l. offset_below (suc i) n e k l (omega arith)) (eq-or-lt_of_le a)

  some_first : (count : ℕ) → Starts (stops_in ramp count) → (0 < count) × (get_or ramp 0 0 ≡ 0)
  some_first zero h = absurd h
  some_first (suc n) h = (omega arith, h)

  pub ramp_held : (premultiply : Bool) (stops : List ℕ) (n count : ℕ) → ramp_numbers ≤ length ramp → count ≤ 34
      → stops_in ramp count ≡ ramp_of premultiply stops n → HeldRamp ramp count
  ramp_held premultiply stops n count long few e =
      let f = some_first count (subst Starts (sym e) (ramp_starts premultiply stops n)) in
      let each = subst (Each (λ s. s.offset ≤ ramp_unit)) (sym e) (each_map (prepared premultiply) (λ s h. h.below) (stops_given stops n)) in
      record { some = f.0; places = omega arith; first = f.1; below = λ i l. offset_below 0 count each i (omega arith) (omega arith) }
