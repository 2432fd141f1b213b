-- The arithmetic of one channel of the step.
use mathlib.Core.Path.{◌≡◌}
use Prim.Native.Nat.{ℕ, min, ◌+◌, ◌-◌, ◌*◌, ◌/◌, ◌≤◌, ◌<◌}
use native.Mathlib.Nat.{mul-le-mul_right}
use native.Mathlib.Omega.{arith}
use Rattle.blend.specs.PorterDuff.{blended, stored_unmasked}

-- the byte stored where nothing is covered, and where B is all
pub uncovered_byte : (b d : ℕ) → stored_unmasked 0 b d ≡ d
uncovered_byte b d = omega arith

pub covered_byte : (b d : ℕ) → stored_unmasked 16 b d ≡ b
covered_byte b d = omega arith

-- B where the source is taken whole: it is the source's own byte if nothing of the destination is kept
pub replaced_byte : (s d : ℕ) → s < 256 → blended s 255 d 0 ≡ s
replaced_byte s d h = omega arith

-- else it comes out of the quotient, and the rest is divided by sums and shifts
quotient_of_lem : (s p m : ℕ) → p ≤ 65025 → m ≡ min (s + (p + 128 + (p + 128) / 256) / 256) 255 → m ≡ min 255 (s + (p + 127) / 255)
quotient_of_lem s p m h e = omega arith

-- B by 16 bits: a sum that is cut at 65,279 has the quotient 255
pub cut_quotient : (p q m : ℕ) → p ≤ 65025 → m ≡ min q (65279 - (p + 127)) → (p + 127 + m) / 255 ≡ min 255 ((p + q + 127) / 255)
cut_quotient p q m h e = omega arith
