-- What an answer of this crate tells its caller, where it holds a number and where it holds none.
use mathlib.Core.Path.{◌≡◌, refl, sym, ap, ◌∙◌}
use mathlib.Core.Bool.{Bool, true, false, not, cond}
use Prim.Native.Nat.{ℕ}
use lib.Dec.{T}
use lib.IntN.{nat_abs}
use lib.Ieee.{Float, nan, inf, fin, is_nan}
use Rattle.std.specs.Prelude.{Some, Ok, Err, is_some, is_ok}
use Rattle.fixed.specs.Floats.{real_of, scaled, in_unit, offset_in}
use Rattle.fixed.specs.declared.OffsetError.TheVariants.{Outside}

-- ---- a float, where the bytes are no NaN's
pub number_told : (t : Bool) (v w : Float) → real_of t v ≡ Some w → (w ≡ v) × (t ≡ false)
number_told true v w e = absurd (cc)
number_told false v w e = (cc, refl)

pub no_number_lem : (t : Bool) (v : Float) → is_some (real_of t v) ≡ false → t ≡ true
no_number_lem true v e = refl
no_number_lem false v e = cc

-- ---- 65,536ths, where the float is from 0 to 1
pub offset_in_lem : (v : Float) → in_unit v ≡ true → offset_in v ≡ Ok (nat_abs (scaled 65536 v))
offset_in_lem nan h = cc
offset_in_lem (inf s) h = cc
offset_in_lem (fin s m e) h = simp h

pub offset_out : (v : Float) → T (not (is_nan v)) → in_unit v ≡ false → offset_in v ≡ Err Outside
unfolding is_nan
offset_out nan n h = absurd n
offset_out (inf s) n h = refl
offset_out (fin s m e) n h = simp h

offset_within : (v : Float) → is_ok (offset_in v) ≡ in_unit v
offset_within nan = refl
offset_within (inf s) = refl
offset_within (fin s m e) = by (in_unit (fin s m e)) (nat_abs (scaled 65536 (fin s m e)))
  where
    by : (t : Bool) (n : ℕ) → is_ok (cond t (Ok n) (Err Outside)) ≡ t
    by true n = refl
    by false n = refl

pub offset_told : (v : Float) (n : ℕ) → offset_in v ≡ Ok n → (n ≡ nat_abs (scaled 65536 v)) × (in_unit v ≡ true)
offset_told v n e =
    let inside : in_unit v ≡ true = sym (offset_within v) ∙ ap is_ok e in
    let same = offset_in_lem v inside in
    (cc, inside)

pub no_offset : (v : Float) → is_ok (offset_in v) ≡ false → in_unit v ≡ false
no_offset v e = sym (offset_within v) ∙ e
