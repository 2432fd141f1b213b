-- What holds of the code of each part holds of the code of what is chosen among them.
use mathlib.Core.Bool.{Bool, true, false, cond}
use Prim.Native.Nat.{ℕ, zero, suc}
use lib.Dec.{eqb}
use Rattle.codes.specs.First.{sooner}

-- P holds of the code of f: a record, so that f is read off its proof
pub record Coded (P : ℕ → Type 0) {A : Type 0} (code : A → ℕ) (f : A) : Type 0 where
  pub holds : P (code f)

pub choice : (P : ℕ → Type 0) {A : Type 0} (code : A → ℕ) (t : Bool) (f g : A) → P (code f) → P (code g) → Coded P code (cond t f g)
choice P code true f g a b = record { holds = a }
choice P code false f g a b = record { holds = b }

module _ {P : ℕ → Type 0} {A : Type 0} {code : A → ℕ} where
  pub then : {f g : A} → Coded P code f → Coded P code g → Coded P code (sooner code f g)
  then a b = choice P code (eqb (code _) 0) _ _ b.holds a.holds
