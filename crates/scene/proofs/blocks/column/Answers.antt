use Rattle.std.proofs.Common.{arith}
use Rattle.scene.proofs.Sums.{column_is}
use Rattle.scene.proofs.blocks.column.Goals as goal

pub returns : goal.returns
returns c =
    let a = c.args in (
      column_is a.s.now a.at c.u16_at-6.result c.u16_at-5.result c.u16_at-4.result c.u16_at-3.result c.u16_at-2.result
          c.u16_at.result c.u16_at-from6.result c.u16_at-6.ensures.0 c.u16_at-5.ensures.0 c.u16_at-4.ensures.0 c.u16_at-3.ensures.0
          c.u16_at-2.ensures.0 c.u16_at.ensures.0 c.u16_at-from6.ensures.0,
      omega arith,
      omega arith,
    )
