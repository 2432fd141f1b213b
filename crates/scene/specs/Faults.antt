-- Faults, and the rules that go over many places. A judgement is `Ok`, or the first fault.
use Rattle.std.specs.Prelude.{ℕ, ◌+◌, ◌*◌, ◌-◌, List, Bool, cond, not, get_or, eqb, Result, Ok, Err}
use Rattle.std.specs.Float.Ieee.{is_nan}
use Rattle.codes.specs.First.{first_among}
use Rattle.codes.specs.declared.Code.{Code}
use Rattle.codes.specs.declared.Code.TheVariants.{IllegalArgument}
use Rattle.fixed.specs.Floats.{f32_at, at_most}
use Rattle.scene.specs.declared.FieldFault.{FieldFault}
use Rattle.scene.specs.declared.Fault.{Fault}

-- a rule, and the fault where it is broken
abbrev pub demand : {E : Type 0} → Bool → E → Result Unit E
demand ok f = cond ok (Ok tt) (Err f)

-- ---- faults among fields: a code and the place that the rules met, in the bytes that are judged

-- a rule, and the place that must keep it
abbrev pub must : Bool → ℕ → Result Unit FieldFault
must ok place = demand ok (record { code = IllegalArgument; place = place })

-- every byte from a place up to another is zero
abbrev pub unused : List ℕ → ℕ → ℕ → Result Unit FieldFault
unused d from to = first_among (to - from) (λ i. must (eqb (get_or d (from + i) 0) 0) (from + i))

-- n floats from a place on are at most b in size, which no infinity and no NaN is
abbrev pub limited : List ℕ → ℕ → ℕ → ℕ → Result Unit FieldFault
limited d b at n = first_among n (λ i. must (at_most b (f32_at d (at + 4 * i))) (at + 4 * i))

-- n floats from a place on are no NaNs
abbrev pub numbers : List ℕ → ℕ → ℕ → Result Unit FieldFault
numbers d at n = first_among n (λ i. must (not (is_nan (f32_at d (at + 4 * i)))) (at + 4 * i))

-- ---- a scene's faults: code, draw number, and the offset in the file
abbrev pub fault : Code → ℕ → ℕ → Fault
fault code draw offset = record { code = code; draw = draw; offset = offset }
