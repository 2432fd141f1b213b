-- The step without a mask, by paper 01's formula: rows without one are drawn by it. It is the step with m = 255 (proofs/Masks.antt). No promise to a
-- caller outside cites it, and a reviewer of the paper need not read it.
use Rattle.std.specs.Prelude.{ℕ}
use Rattle.color.specs.declared.Pixel.{Pixel}
use Rattle.blend.specs.PorterDuff.{source_factor, destination_factor, blended, stored_unmasked}

unfoldable pub unmasked_byte : ℕ → ℕ → ℕ → ℕ → ℕ → ℕ → ℕ
unmasked_byte mode k sa da s d = stored_unmasked k (blended s (source_factor mode da) d (destination_factor mode sa)) d

-- over a destination as it is read
abbrev pub unmasked_on : ℕ → ℕ → Pixel → Pixel → Pixel
unmasked_on mode k s d = record {
  r = unmasked_byte mode k s.a d.a s.r d.r;
  g = unmasked_byte mode k s.a d.a s.g d.g;
  b = unmasked_byte mode k s.a d.a s.b d.b;
  a = unmasked_byte mode k s.a d.a s.a d.a;
}
