-- One axis of a point, of numbers that locals hold.
use mathlib.Core.Path.{◌≡◌, ◌∙◌, sym, subst}
use Prim.Native.Nat.{◌≤◌, ◌<◌, ◌^◌}
use lib.Dec.{T, leb, leb→le, lit<}
use lib.IntN.{ℤ, nat_abs, ◌+ℤ◌}
use lib.Signed.{mag}
use mir.Syntax.{w32, w64}
use mir.Val.{SFits, to_z, of_z}
use mir.Facts.{to_z-of_z}
use Rattle.fixed.proofs.Signed.{back, clean, abs_fits}

-- a coordinate added to that of a point
pub offset_told : (o : ℤ) → nat_abs o ≤ 32768 → (r z : ℤ) → mag r < 2 ^ 31 → r ≡ to_z w32 (of_z w32 o) +ℤ z → to_z w32 (of_z w32 r) ≡ o +ℤ z
offset_told o ho r z h e = back w32 r h ∙ rw (clean w32 32768 o tt ho) at e

-- a result that is small enough, cast to 32 bits
pub landed : (z r : ℤ) → T (leb (nat_abs z) 8388608) → mag r < 2 ^ 63 → r ≡ z → SFits w32 (to_z w64 (of_z w64 r))
landed z r t h e = subst (SFits w32) (sym (back w64 r h ∙ e)) (abs_fits w32 z 8388608 (leb→le (nat_abs z) 8388608 t) (lit< tt))

pub landed_there : (z r : ℤ) (t : T (leb (nat_abs z) 8388608)) (h : mag r < 2 ^ 63) (e : r ≡ z) → to_z w32 (of_z w32 (to_z w64 (of_z w64 r))) ≡ z
landed_there z r t h e = to_z-of_z (landed z r t h e) ∙ back w64 r h ∙ e
