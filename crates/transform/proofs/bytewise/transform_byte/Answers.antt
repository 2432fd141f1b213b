-- `transform::bytewise::transform_byte` meets its contract: cut to 0..255, a number is the byte in it.
use mathlib.Core.Path.{ap, ◌∙◌}
use native.Mathlib.Omega.{arith}
use lib.IntN.{nat_abs}
use mir.Syntax.{w16, w32}
use Rattle.fixed.proofs.Means.{Num, keep, param, small, of_nat, add, mul, shr}
use Rattle.fixed.proofs.Signed.{back}
use Rattle.transform.proofs.Bytes.{clamped}
use Rattle.transform.proofs.bytewise.transform_byte.Goals as goal

pub returns : goal.returns
returns c =
    let a = c.args in
    let product : Num = mul (of_nat w32 a.c 255 (omega (arith, c.ranges.c.fits)) tt) (keep w32 (param w16 a.scale c.ranges.scale) tt) in
    let sum : Num = add (keep w32 product tt) (small w32 65408 a.addend c.ranges.addend (record { size = c.requires })) in
    ap nat_abs (back w32 c.clamp.result c.clamp.type_inv ∙ c.clamp.ensures.value)
    ∙ clamped _ _ (keep w32 (shr (keep w32 sum tt) 256) tt).same
