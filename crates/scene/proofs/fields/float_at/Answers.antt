use mathlib.Core.Path.{◌≡◌, refl, sym, ◌∙◌}
use mathlib.Core.Bool.{Bool, true, false}
use Prim.Native.Nat.{ℕ}
use lib.Ieee.{nan, binary32, nan_bits, of_bits}
use Rattle.std.specs.Prelude.{unwrap_or}
use Rattle.fixed.specs.Little.{u32_at}
use Rattle.fixed.specs.Floats.{real_of}
use Rattle.fixed.proofs.Patterns.{nan_read}
use Rattle.scene.proofs.fields.float_at.Goals as goal

-- each NaN reads as the one that the definitions know
read : (n : ℕ) (t : Bool) → nan_bits binary32 n ≡ t → unwrap_or (real_of t (of_bits binary32 n)) nan ≡ of_bits binary32 n
read n true e = sym (nan_read n e)
read n false e = refl

pub returns : goal.returns
unfolding of_bits
returns c =
    let n = u32_at c.args.d.now c.args.at in
    c.unwrap_or.ensures ∙ rw c.f32_at.ensures (read n (nan_bits binary32 n) refl)
