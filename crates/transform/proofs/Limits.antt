-- A float that is cut to a limit is within it.
use mathlib.Core.Path.{◌≡◌, refl, sym, subst}
use mathlib.Core.Bool.{Bool, true, false, cond}
use Prim.Native.Nat.{ℕ, ◌*◌}
use native.Mathlib.Omega.{arith}
use borrow.Author.Tests.{le-leb, ltb-true}
use lib.Dec.{T}
use lib.IntN.{pos}
use lib.Ieee.{Float, nan, inf, fin, up, down, lt, neg}
use Rattle.fixed.specs.Floats.{at_most}
use Rattle.transform.specs.Transforms.{cut}

-- n and -n
abbrev above : ℕ → Float
above n = fin false n (pos 0)

abbrev below : ℕ → Float
below n = fin true n (pos 0)

ends : (n : ℕ) → at_most n (above n) ≡ true
ends n = le-leb (n * 1) (n * 1) (omega arith)

between : (n : ℕ) (v : Float) → lt (below n) v ≡ true → lt v (above n) ≡ true → at_most n v ≡ true
unfolding lt
between n nan h k = absurd (subst T (sym k) tt)
between n (inf true) h k = absurd (subst T (sym h) tt)
between n (inf false) h k = absurd (subst T (sym k) tt)
between n (fin true m e) h k = le-leb (m * up e) (n * down e) (omega (arith, ltb-true (m * up e * 1) (n * 1 * down e) h))
between n (fin false m e) h k = le-leb (m * up e) (n * down e) (omega (arith, ltb-true (m * up e * 1) (n * 1 * down e) k))

pub cut_within : (n : ℕ) (v : Float) → at_most n (cut (above n) v) ≡ true
unfolding neg
cut_within n v = by (lt (below n) v) (lt v (above n)) refl refl
  where
    by : (s t : Bool) → lt (below n) v ≡ s → lt v (above n) ≡ t → at_most n (cond s (cond t v (above n)) (below n)) ≡ true
    by true true h k = between n v h k
    by true false h k = ends n
    by false t h k = ends n
