-- Patterns in buffers. A reviewer of the paper need not read it.
use Rattle.std.specs.Prelude.{ℕ, ◌≡◌, ◌+◌, ◌%◌, ℤ, pos, Bool, true, false}

abbrev pub pattern_byte : ℕ → ℕ → ℕ
pattern_byte phase i = (i % 251 + phase) % 256

-- never 0
abbrev pub pattern_number : ℕ → ℤ
pattern_number i = pos (i % 1000 + 1)

-- what a call may give at a place is what the rule has there
abbrev pub Rule : {A : Type 0} → (ℕ → A → Type 0) → (ℕ → A) → Type 0
Rule may g = (k : ℕ) (r : _) → may k r → r ≡ g k

-- what a test tells
abbrev pub Tells : Bool → Type 0 → Type 0
Tells true P = P
Tells false P = P → ⊥
