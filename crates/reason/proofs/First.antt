-- Judgements in their order: the first refuses, or it accepts and the next decides.
use mathlib.Core.Path.{◌≡◌}
use Rattle.std.specs.Prelude.{Result, Ok, Err}
use Rattle.std.specs.Result.{IsErrAnd}
use Rattle.codes.specs.First.{first_of}

-- what a `?` returns is the fault that it met
returned : {E : Type 0} (r : Result Unit E) (e : E) → IsErrAnd r (λ y. y ≡ e) → r ≡ Err e
returned (Ok u) e h = absurd h
returned (Err y) e h = rw h

module _ {E : Type 0} where
  pub stops : (r f g : Result Unit E) (e : E) → IsErrAnd r (λ y. y ≡ e) → Err e ≡ f → r ≡ first_of f g
  stops r f g e h q = rw (← q) (returned r e h)

  pub passes : (r f g : Result Unit E) → Ok tt ≡ f → r ≡ g → r ≡ first_of f g
  passes r f g q h = rw (← q) h

pub ruleset in_order = (stops, passes)
