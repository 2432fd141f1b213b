-- What holds of the fault of each judgement holds of the first fault among them.
use mathlib.Core.Path.{◌≡◌, refl, subst}
use mathlib.Core.Bool.{Bool, true, false}
use Prim.Native.Nat.{ℕ, zero, suc, ◌<◌}
use native.Mathlib.Omega.{arith}
use Rattle.std.specs.Prelude.{Result, Ok, Err}
use Rattle.codes.specs.Codes.{accepted_code}
use Rattle.codes.specs.declared.Code.{Code}
use Rattle.codes.specs.Number.{number_of, number_told}
use Rattle.codes.specs.First.{first_of, first_among}
use Rattle.scene.specs.Faults.{demand}
use Rattle.scene.specs.Rules.{told_by}

abbrev OfFault : {E : Type 0} → (E → Type 0) → Result Unit E → Type 0
OfFault P (Ok u) = Unit
OfFault P (Err e) = P e

-- P holds of the fault, if there is one: a record, so that the judgement is read off its proof
pub record Faulty {E : Type 0} (P : E → Type 0) (r : Result Unit E) : Type 0 where
  pub holds : OfFault P r

module _ {E : Type 0} {P : E → Type 0} where
  pub none : Faulty P (Ok tt)
  none = record { holds = tt }

  pub demanded : (t : Bool) (e : E) → P e → Faulty P (demand t e)
  demanded true e p = record { holds = tt }
  demanded false e p = record { holds = p }

  -- the second is judged where the first accepts
  pub then_if : (f g : Result Unit E) → Faulty P f → (f ≡ Ok tt → Faulty P g) → Faulty P (first_of f g)
  then_if (Ok u) g a b = b refl
  then_if (Err e) g a b = a

  pub then : {f g : Result Unit E} → Faulty P f → Faulty P g → Faulty P (first_of f g)
  then {f = f} {g = g} a b = then_if f g a (λ _. b)

  pub among : (n : ℕ) (f : ℕ → Result Unit E) → ((i : ℕ) → i < n → Faulty P (f i)) → Faulty P (first_among n f)
  among zero f a = none
  among (suc n) f a = then (among n f (λ i l. a i (omega arith))) (a n (omega arith))

  pub fault_has : (r : Result Unit E) (e : E) → Faulty P r → r ≡ Err e → P e
  fault_has (Ok u) e a h = cc
  fault_has (Err y) e a h = let same : y ≡ e = cc in subst P same a.holds

pub told : {E F : Type 0} {P : E → Type 0} {Q : F → Type 0} (tell : E → F) (r : Result Unit E)
    → ((e : E) → P e → Q (tell e)) → Faulty P r → Faulty Q (told_by tell r)
told tell (Ok u) h a = record { holds = tt }
told tell (Err e) h a = record { holds = h e a.holds }

-- what is told in another way accepts what the judgement accepts
pub told_accepts : {E F : Type 0} (tell : E → F) (r : Result Unit E) → told_by tell r ≡ Ok tt → r ≡ Ok tt
told_accepts tell (Ok tt) h = refl
told_accepts tell (Err e) h = cc

-- of the number that is told
pub number_has : {E : Type 0} (P : ℕ → Type 0) (code : E → Code) (r : Result Unit E)
    → P accepted_code → Faulty (λ e. P (number_of (code e))) r → P (number_told code r)
number_has P code (Ok u) p a = p
number_has P code (Err e) p a = a.holds
