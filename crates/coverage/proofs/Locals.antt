-- Rows and columns of samples, as locals of the code hold them.
use mathlib.Core.Path.{◌≡◌, ap, ◌∙◌}
use Prim.Native.Nat.{ℕ, ◌+◌, ◌-◌, ◌*◌, ◌<◌, ◌≤◌}
use native.Mathlib.Omega.{arith}
use lib.IntN.{pos}
use mir.Syntax.{w32}
use mir.Val.{to_z}
use mir.Facts.{to_z_pos}
use Rattle.coverage.specs.Winding.{sample}

-- the first of a pixel
pub first_held : (y : ℕ) → y ≤ 1024 → to_z w32 (256 * y + 32) ≡ sample (4 * y)
first_held y h = to_z_pos w32 (omega arith) ∙ ap pos (as_sample y)
  where
    as_sample : (y : ℕ) → 256 * y + 32 ≡ 64 * (4 * y) + 32
    as_sample y = omega arith

-- the last before a pixel
pub last_held : (y : ℕ) → 0 < y → y ≤ 1024 → to_z w32 (256 * y - 32) ≡ sample (4 * y - 1)
last_held y l h = to_z_pos w32 (omega arith) ∙ ap pos (as_sample y l)
  where
    as_sample : (y : ℕ) → 0 < y → 256 * y - 32 ≡ 64 * (4 * y - 1) + 32
    as_sample y l = omega arith
