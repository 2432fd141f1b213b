-- `fixed::convert::scale_pattern` meets its contract.
use mir.Syntax.{w64}
use mathlib.Core.Path.{refl, sym, ◌∙◌}
use Prim.Native.Nat.{◌+◌, ◌-◌, ◌/◌, ◌%◌}
use native.Mathlib.Omega.{arith}
use borrow.Author.Rules.{sfits_of}
use lib.Dec.{leb}
use lib.Ieee.{binary32, of_bits}
use mir.Facts.{to_z-of_z}
use Rattle.fixed.proofs.Patterns.{scaled_value, bits_zero, bits_more}
use Rattle.fixed.proofs.convert.scale_pattern.Goals as goal

pub returns-then-x-eq0 : goal.returns-then-x-eq0
returns-then-x-eq0 c =
    let a = c.args in
    let n = a.n in
    to_z-of_z {w = w64} (sfits_of c.nearest.type_inv) ∙ c.nearest.ensures
    ∙ sym (scaled_value a.scale (of_bits binary32 n) (leb 2147483648 n) (n % 8388608) 0 149 (bits_zero n c.if-x-eq0.true) refl)

pub returns-else-x-eq0 : goal.returns-else-x-eq0
returns-else-x-eq0 c =
    let a = c.args in
    let n = a.n in
    let x = n % 2147483648 / 8388608 in
    let some = c.if-x-eq0.false in
    to_z-of_z {w = w64} (sfits_of c.nearest-else-x-eq0.type_inv) ∙ c.nearest-else-x-eq0.ensures
    ∙ sym (scaled_value a.scale (of_bits binary32 n) (leb 2147483648 n) (8388608 + n % 8388608) (x - 1) (150 - x)
    (bits_more n (x - 1) (omega arith) (omega arith)) (omega arith))
