-- What the rows that go byte by byte go by. A reviewer of the paper need not read it.
use Rattle.std.specs.Prelude.{◌≡◌, List, [], ◌∷◌, ℕ, ◌≤◌, ◌<◌, ℤ, pos, nat_abs, ◌+ℤ◌, ◌*ℤ◌}
use Rattle.lists.specs.Lists.{upto}
use Rattle.raster.specs.Surface.{pixel_in}
use Rattle.transform.specs.declared.FixedTransform.{FixedTransform}

-- the first n pixels have the alpha 255
abbrev pub Opaque : List ℕ → ℕ → Type 0
Opaque row n = (i : ℕ) → i < n → (pixel_in row i).a ≡ 255

-- four numbers have at most that size
abbrev pub AllWithin : ℕ → ℤ → ℤ → ℤ → ℤ → Type 0
AllWithin limit r g b a = (nat_abs r ≤ limit) × (nat_abs g ≤ limit) × (nat_abs b ≤ limit) × (nat_abs a ≤ limit)

-- scales that fit 16 bits, and biases of at most 1
pub record Narrow (t : FixedTransform) : Type 0 where
  pub scales : AllWithin 32767 t.sr t.sg t.sb t.sa
  pub biases : AllWithin 256 t.br t.bg t.bb t.ba

-- what is added to a product before it is shifted
abbrev pub addend : ℤ → ℤ
addend bias = pos 255 *ℤ bias +ℤ pos 128

-- the numbers of four channels, for each byte of 16 pixels
unfoldable pub laid : {A : Type 0} → A → A → A → A → List A
laid r g b a = upto 16 (λ i. r ∷ g ∷ b ∷ a ∷ [])

abbrev pub scales_of : FixedTransform → List ℤ
scales_of t = laid t.sr t.sg t.sb t.sa

abbrev pub addends_of : FixedTransform → List ℤ
addends_of t = laid (addend t.br) (addend t.bg) (addend t.bb) (addend t.ba)
