-- The first fault of several: a turn of a loop that meets none, and one that meets it.
use mathlib.Core.Path.{◌≡◌, refl}
use mathlib.Core.Bool.{Bool, true, false, ◌&&◌}
use mathlib.Core.List.{List}
use Prim.Native.Nat.{ℕ, ◌+◌, ◌-◌, ◌≤◌, ◌<◌}
use native.Mathlib.Numerals.{add-one}
use native.Mathlib.Omega.{arith}
use lib.ListN.{get_or}
use lib.Dec.{eqb}
use Rattle.std.specs.Prelude.{Result, Ok, Err, is_ok}
use Rattle.std.specs.Result.{IsErrAnd, MatchResult}
use Rattle.codes.specs.First.{first_of}
use Rattle.codes.proofs.Judged.{refuse_turn}
use Rattle.scene.specs.Faults.{demand, must, unused}
use Rattle.scene.specs.Rules.{told_by}
use Rattle.scene.specs.declared.FieldFault.{FieldFault}

-- one more judgement
more : {E : Type 0} (r : Result Unit E) (t : Bool) (e : E) → is_ok (first_of r (demand t e)) ≡ (is_ok r && t)
more (Ok tt) true e = refl
more (Ok tt) false e = refl
more (Err f) t e = refl

-- zero bytes: the loop stands at a place of its own
module _ (d : List ℕ) (from at : ℕ) (begun : from ≤ at) where
  abbrev clear : ℕ → Result Unit FieldFault
  clear i = must (eqb (get_or d (from + i) 0) 0) (from + i)

  here : from + (at - from) ≡ at
  here = omega arith

  next : at + 1 - from ≡ at - from + 1
  next = omega arith

  pub zero_turn : is_ok (unused d from (at + 1)) ≡ (is_ok (unused d from at) && eqb (get_or d at 0) 0)
  zero_turn = rw (next, add-one, more (unused d from at) (eqb (get_or d (from + (at - from)) 0) 0) _, here)

  pub unused_hit : (to : ℕ) (f : FieldFault) → at < to → unused d from at ≡ Ok tt → must (eqb (get_or d at 0) 0) at ≡ Err f → unused d from to ≡ Err f
  unused_hit to f l h z = refuse_turn clear (at - from) (to - from) f (omega arith) h (rw here z)

-- the loop is past the end
pub unused_end : (d : List ℕ) (from to at : ℕ) → at - from ≤ to - from → to ≤ at → unused d from at ≡ unused d from to
unused_end d from to at h l = let e : at - from ≡ to - from = omega arith in rw e

-- ---- what a `?` returns: the fault met, with other rules behind it, and with rules before it that are kept
pub returned : {T E : Type 0} (r : Result T E) (e : E) → IsErrAnd r (λ y. y ≡ e) → r ≡ Err e
returned (Ok u) e h = absurd h
returned (Err y) e h = rw h

module _ {E : Type 0} where
  pub stops : (r f g : Result Unit E) (e : E) → IsErrAnd r (λ y. y ≡ e) → Err e ≡ f → r ≡ first_of f g
  stops r f g e h q = rw (← q) (returned r e h)

  pub passes : (r f g : Result Unit E) → Ok tt ≡ f → r ≡ g → r ≡ first_of f g
  passes r f g q h = rw (← q) h

-- the same where the fault is told in another way
pub told : {E F : Type 0} (tell : E → F) (r : Result Unit E) (t : Result Unit F)
    → MatchResult r (λ x. t ≡ Ok x) (λ e. IsErrAnd t (λ y. y ≡ tell e)) → t ≡ told_by tell r
told tell (Ok u) t h = h
told tell (Err e) t h = returned t (tell e) h

-- rules in their order
pub ruleset in_order = (stops, passes)
