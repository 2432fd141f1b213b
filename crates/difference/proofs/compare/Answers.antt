use mathlib.Core.Path.{◌∙◌, sym}
use native.Mathlib.Omega.{arith}
use Rattle.difference.proofs.Refusals.{comparable}
use Rattle.difference.proofs.compare.Goals as goal

pub find-requires : goal.find-requires
find-requires c =
    let a = c.args in
    let s = comparable a.width a.height a.a.now a.b.now (sym c.in-Ok.ensures) in
    record { width_nonzero = (s.sides.some_wide, s.sides.wide, s.sides.high); a_len = (s.first ∙ omega arith, s.second ∙ omega arith) }
