-- What is kept of the stops, and the ends of a ramp, stop after stop.
use Rattle.std.proofs.Common.{◌≡◌, ℕ, zero, suc, ◌+◌, ◌-◌, ◌*◌, Bool, true, false, cond, eqb, List, [], ◌∷◌, ◌++◌, map, get_or, nat_abs, sym, refl, ap, ◌∙◌}
use Rattle.std.proofs.Common.{append-nil, arith, eq-eqb, ne_eqb}
use mathlib.Core.List.{map-append}
use Rattle.lists.specs.Lists.{upto}
use Rattle.fixed.specs.Floats.{in_unit, offset_in, scaled}
use Rattle.std.specs.Prelude.{Result, Ok, is_ok}
use Rattle.fixed.specs.declared.OffsetError.{OffsetError}
use Rattle.fixed.proofs.Answers.{offset_told, no_offset}
use Rattle.paint.specs.Gradient.{ramp_unit}
use Rattle.paint.specs.Ramps.{offset_at, color_at, falls_in, kept_at, kept_stops, black, white, stop, with_end, with_ends, prepared, ramp_of}
use Rattle.paint.specs.Buffers.{stop_at, stops_from, stops_in, with_first, grown, closed}
use Rattle.paint.specs.declared.Stop.{Stop}

-- ---- a stop is kept, by what its offset becomes
pub kept_none : (stops : List ℕ) (i : ℕ) (r : Result ℕ OffsetError) → r ≡ offset_in (offset_at stops i) → is_ok r ≡ false → kept_at stops i ≡ []
kept_none stops i r e h = rw (no_offset (offset_at stops i) (ap is_ok (sym e) ∙ h))

pub kept_one : (stops : List ℕ) (i x : ℕ) (r : Result ℕ OffsetError) → r ≡ offset_in (offset_at stops i) → r ≡ Ok x
    → kept_at stops i ≡ stop x (color_at stops i) ∷ []
kept_one stops i x r e h =
    let t = offset_told (offset_at stops i) x (sym e ∙ h) in
    rw t.1 (ap (λ (y : ℕ). stop y (color_at stops i) ∷ []) (sym t.0))

-- ---- one more stop
pub grown_first : (s : List ℕ) (count : ℕ) (a : Stop) → count ≡ 0 → grown (stops_in s count) (a ∷ []) ≡ with_first (a ∷ [])
grown_first s count a e = rw e

pub grown_more : (s : List ℕ) (count n : ℕ) (a : Stop) → count ≡ suc n → grown (stops_in s count) (a ∷ []) ≡ stops_in s count ++ (a ∷ [])
grown_more s count n a e = rw e

-- the first stop's end stays where it is
grown_one : (l : List Stop) (s : Stop) → grown (with_first l) (s ∷ []) ≡ with_first (l ++ (s ∷ []))
grown_one [] s = refl
grown_one (a ∷ l) s = by (eqb a.offset 0)
  where
    by : (t : Bool) → grown (cond t (a ∷ l) (stop 0 a.color ∷ a ∷ l)) (s ∷ []) ≡ cond t (a ∷ (l ++ (s ∷ []))) (stop 0 a.color ∷ a ∷ (l ++ (s ∷ [])))
    by true = refl
    by false = refl

-- a turn: the first of all that are kept, and what is kept of stop i
pub kept_turn : (premultiply : Bool) (stops : List ℕ) (i : ℕ) (l : List Stop)
    → grown (with_first (map (prepared premultiply) l)) (map (prepared premultiply) (kept_at stops i))
    ≡ with_first (map (prepared premultiply) (l ++ kept_at stops i))
kept_turn premultiply stops i l = by (in_unit (offset_at stops i)) (record {
  offset = nat_abs (scaled ramp_unit (offset_at stops i));
  color = color_at stops i;
})
  where
    by : (t : Bool) (s : Stop)
        → grown (with_first (map (prepared premultiply) l)) (map (prepared premultiply) (cond t (s ∷ []) []))
        ≡ with_first (map (prepared premultiply) (l ++ cond t (s ∷ []) []))
    by true s = grown_one (map (prepared premultiply) l) (prepared premultiply s) ∙ ap with_first (sym (map-append (prepared premultiply) l (s ∷ [])))
    by false s = ap (λ (k : List Stop). with_first (map (prepared premultiply) k)) (sym (append-nil l))

-- ---- the end at 65,536, by the last stop
end_is : (s : List ℕ) (i n : ℕ)
    → with_end (stop_at s i) (stops_from s (suc i) n)
    ≡ cond (eqb (get_or s ((i + n) * 2) 0) ramp_unit) (stops_from s i (suc n)) (stops_from s i (suc n) ++ (stop ramp_unit (stop_at s (i + n)).color ∷ []))
end_is s i zero =
    let e : i + 0 ≡ i = omega arith in
    rw e (by (eqb (get_or s (i * 2) 0) ramp_unit))
  where
    by : (t : Bool)
        → stop_at s i ∷ cond t [] (stop ramp_unit (stop_at s i).color ∷ []) ≡ cond t (stop_at s i ∷ []) (stop_at s i ∷ stop ramp_unit (stop_at s i).color ∷ [])
    by true = refl
    by false = refl
end_is s i (suc n) =
    let e : suc i + n ≡ i + suc n = omega arith in
    ap (λ (l : List Stop). stop_at s i ∷ l) (end_is s (suc i) n) ∙ rw e (by (eqb (get_or s ((i + suc n) * 2) 0) ramp_unit))
  where
    by : (t : Bool)
        → stop_at s i ∷ cond t (stops_from s (suc i) (suc n)) (stops_from s (suc i) (suc n) ++ (stop ramp_unit (stop_at s (i + suc n)).color ∷ []))
        ≡ cond t (stops_from s i (suc (suc n))) (stops_from s i (suc (suc n)) ++ (stop ramp_unit (stop_at s (i + suc n)).color ∷ []))
    by true = refl
    by false = refl

pub closed_none : (s : List ℕ) (count : ℕ) → count ≡ 0 → closed (stops_in s count) ≡ stop 0 black ∷ stop ramp_unit white ∷ []
closed_none s count e = rw e

module _ (s : List ℕ) (count n : ℕ) (e : count ≡ suc n) where
  last_place : 0 + n ≡ n
  last_place = omega arith

  pub closed_there : get_or s (n * 2) 0 ≡ ramp_unit → closed (stops_in s count) ≡ stops_in s count
  closed_there h = rw e (end_is s 0 n ∙ rw (last_place, eq-eqb (get_or s (n * 2) 0) ramp_unit h))

  pub closed_more : (get_or s (n * 2) 0 ≡ ramp_unit → ⊥) → closed (stops_in s count) ≡ stops_in s count ++ (stop ramp_unit (stop_at s n).color ∷ [])
  closed_more h = rw e (end_is s 0 n ∙ rw (last_place, ne_eqb (get_or s (n * 2) 0) ramp_unit h))

-- ---- the ramp is what is kept, with its first end, then closed
end_prepared : (premultiply : Bool) (a : Stop) (l : List Stop) → map (prepared premultiply) (with_end a l)
    ≡ with_end (prepared premultiply a) (map (prepared premultiply) l)
end_prepared premultiply a [] = by (eqb a.offset ramp_unit)
  where
    by : (t : Bool)
        → map (prepared premultiply) (a ∷ cond t [] (stop ramp_unit a.color ∷ []))
        ≡ prepared premultiply a ∷ cond t [] (stop ramp_unit (prepared premultiply a).color ∷ [])
    by true = refl
    by false = refl
end_prepared premultiply a (b ∷ l) = ap (λ (r : List Stop). prepared premultiply a ∷ r) (end_prepared premultiply b l)

ends_built : (premultiply : Bool) (l : List Stop) → map (prepared premultiply) (with_ends l) ≡ closed (with_first (map (prepared premultiply) l))
unfolding with_ends
ends_built true [] = refl
ends_built false [] = refl
ends_built premultiply (a ∷ l) = by (eqb a.offset 0)
  where
    by : (t : Bool)
        → map (prepared premultiply) (cond t (with_end a l) (stop 0 a.color ∷ with_end a l))
        ≡ closed (cond t (prepared premultiply a ∷ map (prepared premultiply) l)
        (stop 0 (prepared premultiply a).color ∷ prepared premultiply a ∷ map (prepared premultiply) l))
    by true = end_prepared premultiply a l
    by false = ap (λ (r : List Stop). stop 0 (prepared premultiply a).color ∷ r) (end_prepared premultiply a l)

-- the ramp of stops that fall, and of others
module _ (premultiply : Bool) (stops : List ℕ) (n : ℕ) where
  built : (l : List Stop) → kept_stops stops n ≡ l → ramp_of premultiply stops n ≡ closed (with_first (map (prepared premultiply) l))
  built l e = ends_built premultiply (kept_stops stops n) ∙ ap (λ (k : List Stop). closed (with_first (map (prepared premultiply) k))) e

  pub ramp_fallen : falls_in stops (n - 1) ≡ true → ramp_of premultiply stops n ≡ closed []
  unfolding kept_stops
  ramp_fallen h = built [] (rw h)

  pub ramp_kept : falls_in stops (n - 1) ≡ false → ramp_of premultiply stops n ≡ closed (with_first (map (prepared premultiply) (upto n (kept_at stops))))
  unfolding kept_stops
  ramp_kept h = built (upto n (kept_at stops)) (rw h)
