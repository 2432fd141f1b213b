-- A line of output in an array of 160 bytes: words and numbers, a space between two of them. A reviewer of the paper need not read it.
use Rattle.std.specs.Prelude.{◌≡◌, cond, ℕ, ◌+◌, eqb, ltb, set, replicate}
use mathlib.Core.List.{List, foldl}
use Rattle.console.specs.Digits.{last_digits, IsDigitCount}
use Rattle.console.specs.declared.Line.{Line}

abbrev pub empty_line : Line
empty_line = record { bytes = replicate 160 0; length = 0 }

-- a line that is full stays as it is
unfoldable pub with_byte : Line → ℕ → Line
with_byte l b = cond (ltb l.length 160) (record { bytes = set l.bytes l.length b; length = l.length + 1 }) l

abbrev pub with_bytes : Line → List ℕ → Line
with_bytes l s = foldl with_byte l s

abbrev pub spaced : Line → Line
spaced l = cond (eqb l.length 0) l (with_byte l 32)

abbrev pub with_word : Line → List ℕ → Line
with_word l s = with_bytes (spaced l) s

-- r is l with the digits of n in that base, at least so many
abbrev pub WithNumber : ℕ → ℕ → ℕ → Line → Line → Type 0
WithNumber base least n l r = (k : ℕ) × IsDigitCount base least n k × (r ≡ with_word l (last_digits base k n))
