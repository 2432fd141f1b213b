-- Which comes first ("Codes, and which comes first"): of things that have a code each, the first whose code is not 0.
use Rattle.std.specs.Prelude.{ℕ, zero, suc, cond, eqb, Result, Ok, Err}
use Rattle.codes.specs.Codes.{accepted_code}

-- the first of two
abbrev pub sooner : {A : Type 0} → (A → ℕ) → A → A → A
sooner code f g = cond (eqb (code f) accepted_code) g f

-- the same of judgements, which refuse or accept: the first refusal of two
abbrev pub first_of : {E : Type 0} → Result Unit E → Result Unit E → Result Unit E
first_of (Ok _) g = g
first_of (Err e) g = Err e

-- of f 0, .., f (n - 1)
abbrev pub first_among : {E : Type 0} → ℕ → (ℕ → Result Unit E) → Result Unit E
first_among zero f = Ok tt
first_among (suc n) f = first_of (first_among n f) (f n)
