-- A picture's text read back. A reviewer of the paper need not read it.
use Rattle.std.specs.Prelude.{◌≡◌, Bool, true, false, cond, List, ◌∷◌, ◌++◌, ℕ, ◌+◌, ◌*◌, ◌-◌, ◌/◌, ◌%◌, ◌<◌, leb, ltb, length, get_or}
use Rattle.console.specs.Digits.{IsNumberText}
use Rattle.lists.specs.Lists.{tab}
use Rattle.text.specs.Text.{row_text}
use Rattle.compare.specs.declared.Size.{Size}

-- s is n as it is printed
unfoldable pub Printed : ℕ → List ℕ → Type 0
Printed n s = IsNumberText 10 1 n s

-- a picture's first line without its newline
abbrev pub SizeLine : Size → List ℕ → Type 0
SizeLine r line = (w h : List ℕ) × Printed r.width w × Printed r.height h × (line ≡ w ++ (32 ∷ h))

-- what a digit stands for; 0 for what is none
unfoldable pub digit_value : ℕ → ℕ
digit_value c = cond (ltb c 48) 0 (cond (leb c 57) (c - 48) (cond (ltb c 97) 0 (cond (leb c 102) (c - 87) 0)))

-- byte j of n pixels whose text is t
abbrev pub byte_read : List ℕ → ℕ → ℕ
byte_read t j = digit_value (get_or t (j / 4 * 9 + j % 4 * 2) 0) * 16 + digit_value (get_or t (j / 4 * 9 + j % 4 * 2 + 1) 0)

unfoldable pub row_bytes : ℕ → List ℕ → List ℕ
row_bytes n t = tab (n * 4) (byte_read t)

-- n pixels
pub record Row (n : ℕ) (s : List ℕ) : Type 0 where
  pub long : length s ≡ n * 4
  pub bytes : (j : ℕ) → get_or s j 0 < 256

-- whether t is the text of a row of n pixels; then out is that row
pub record RowRead (n : ℕ) (t out : List ℕ) (r : Bool) : Type 0 where
  pub right : r ≡ true → t ≡ row_text n out
  pub wrong : r ≡ false → (s : List ℕ) → Row n s → t ≡ row_text n s → ⊥
