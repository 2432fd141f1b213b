-- `path::FixedMatrix::is_flat` meets its contract: no step overflows, by the limits of the entries. Assumes nothing.
use mathlib.Core.Path.{◌≡◌, sym, ap, ◌∙◌}
use Prim.Native.Nat.{◌≤◌}
use lib.Dec.{eqb}
use lib.IntN.{ℤ, nat_abs}
use mir.Syntax.{w64}
use mir.Val.{SFits, of_z}
use borrow.Author.Tests.{eqb-true, eqb-false, eq-eqb, ne_eqb}
use Rattle.rect.proofs.Laws.{either}
use Rattle.fixed.proofs.Within.{Within, fits}
use Rattle.fixed.proofs.Means.{Num, need, keep, small, mul, sub}
use Rattle.fixed.proofs.Signed.{zero_yes, zero_no}
use Rattle.path.proofs.FixedMatrix.is_flat.Goals as goal
use Rattle.path.proofs.FixedMatrix.is_flat.Lts as lts
use Rattle.path.proofs.FixedMatrix.is_flat.Reads as reads

-- a test against 0
is_zero : (z : ℤ) → SFits w64 z → eqb (of_z w64 z) 0 ≡ eqb (nat_abs z) 0
is_zero z f =
    either (eqb (of_z w64 z) 0)
    (λ e. e ∙ sym (eq-eqb (nat_abs z) 0 (zero_yes w64 z f.sfits (eqb-true (of_z w64 z) 0 e))))
    (λ e. e ∙ sym (ne_eqb (nat_abs z) 0 (zero_no w64 z (eqb-false (of_z w64 z) 0 e))))

-- the expression's parts, each as a local holds it
abbrev entry : (z : ℤ) → nat_abs z ≤ 16777216 → Num
entry z h = let w : Within 16777216 z = record { size = h } in small w64 16777216 z (fits tt w) w

abbrev scales : lts.Start reads.Pre reads.Post → Num
scales c = mul (entry c.args.self.sx c.requires.sx) (entry c.args.self.sy c.requires.sy)

abbrev shears : goal.After-struct_told-2-1 → Num
shears c = mul (entry c.args.self.shx c.requires.shx) (entry c.args.self.shy c.requires.shy)

abbrev difference : goal.After-struct_told-2-1 → Num
difference c = sub (keep w64 (scales c.before.before.before.before) tt) (keep w64 (shears c) tt)

pub overflow_sub-result : goal.overflow_sub-result
overflow_sub-result c =
    need (difference c) tt

pub returns : goal.returns
returns c =
    is_zero (difference c).read (need (difference c) tt) ∙ ap (λ (z : ℤ). eqb (nat_abs z) 0) (difference c).same
