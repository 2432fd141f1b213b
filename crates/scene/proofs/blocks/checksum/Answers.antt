use Rattle.std.proofs.Common.{◌≡◌, arith}
use Rattle.scene.proofs.Sums.{check_summed}
use Rattle.scene.proofs.blocks.checksum.Goals as goal

pub returns : goal.returns
returns c =
    let l = c.loop-l in
    let a = c.args in
    let e : l.l ≡ 36 = omega arith in
    check_summed a.s.now a.at a.start l.plain l.weighted l.late c.u16_at-x.result c.u16_at-y.result
    (rw e at l.invariant.3) (rw e at l.invariant.4) (rw e at l.invariant.5) c.u16_at-x.ensures.0 c.u16_at-y.ensures.0
