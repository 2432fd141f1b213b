-- Judgements: rules in their order, what accepts, and a refusal's number.
use mathlib.Core.Path.{◌≡◌, refl}
use borrow.Author.Tests.{ne_eqb}
use lib.Dec.{eqb}
use mathlib.Core.Bool.{true, false}
use Rattle.std.specs.Prelude.{Result, Ok, Err, is_ok}
use Rattle.std.specs.Result.{IsErrAnd}
use Rattle.codes.specs.First.{first_of}
use Rattle.codes.specs.Number.{number_of, number_told}
use Rattle.codes.specs.declared.Code.{Code}
use Rattle.codes.proofs.Refusals.{refuses, number_refuses}

-- ---- what a `?` returns: the refusal met, with other rules behind it, and with rules before it that are kept
returned : {T E : Type 0} (r : Result T E) (e : E) → IsErrAnd r (λ y. y ≡ e) → r ≡ Err e
returned (Ok u) e h = absurd h
returned (Err y) e h = rw h

module _ {E : Type 0} where
  pub stops : (r f g : Result Unit E) (e : E) → IsErrAnd r (λ y. y ≡ e) → Err e ≡ f → r ≡ first_of f g
  stops r f g e h q = rw (← q) (returned r e h)

  pub passes : (r f g : Result Unit E) → Ok tt ≡ f → r ≡ g → r ≡ first_of f g
  passes r f g q h = rw (← q) h

pub ruleset in_order = (stops, passes)

-- ---- numbers
pub not_zero : (code : Code) → number_of code ≡ 0 → ⊥
not_zero code = refuses (number_of code) (number_refuses code)

pub no_zero : (code : Code) → eqb (number_of code) 0 ≡ false
no_zero code = ne_eqb (number_of code) 0 (not_zero code)

pub accepts : {E : Type 0} (code : E → Code) (r : Result Unit E) → number_told code r ≡ 0 → r ≡ Ok tt
accepts code (Ok tt) h = refl
accepts code (Err e) h = absurd (not_zero (code e) h)

-- a judgement that was asked whether it accepts
pub ok_told : {E : Type 0} (code : E → Code) (r : Result Unit E) → is_ok r ≡ true → number_told code r ≡ 0
ok_told code (Ok u) h = refl
ok_told code (Err e) h = cc

pub err_told : {E : Type 0} (code : E → Code) (r : Result Unit E) → is_ok r ≡ false → number_told code r ≡ 0 → ⊥
err_told code (Ok u) h = cc
err_told code (Err e) h = not_zero (code e)
