-- Paper 02, P13: the context, which keeps the first code other than 0 until it is asked for.
use Rattle.std.specs.Prelude.{ℕ, cond, eqb}
use mathlib.Core.List.{List, [], ◌∷◌, ◌++◌, foldl}
use Rattle.context.specs.declared.Context.{Context}

-- the code that is kept: the first other than 0
abbrev pub keep : ℕ → ℕ → ℕ
keep was code = cond (eqb was 0) code was

abbrev pub noted : Context → ℕ → Context
noted c code = record { code = keep c.code code }

abbrev pub fresh : Context
fresh = record { code = 0 }

-- the first code of a list other than 0, or 0
abbrev pub first_code : List ℕ → ℕ
first_code [] = 0
first_code (code ∷ codes) = keep code (first_code codes)

-- the context after calls with these codes, in order
abbrev pub noted_all : Context → List ℕ → Context
noted_all c codes = foldl noted c codes

-- what happens to a context: a call with its code, or that it is asked for
pub data Event : Type 0 where
  called : ℕ → Event
  asked : Event

-- what the asking calls give, one after another
abbrev pub given : Context → List Event → List ℕ
given c [] = []
given c (called code ∷ events) = given (noted c code) events
given c (asked ∷ events) = c.code ∷ given fresh events

-- the same without a context: each gives the first code other than 0 among those since the last, which `since` has
abbrev pub firsts : List ℕ → List Event → List ℕ
firsts since [] = []
firsts since (called code ∷ events) = firsts (since ++ (code ∷ [])) events
firsts since (asked ∷ events) = first_code since ∷ firsts [] events
