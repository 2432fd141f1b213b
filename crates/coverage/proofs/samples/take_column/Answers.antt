-- `coverage::samples::take_column` meets its contract. Assumes nothing.
use Prim.Native.Nat.{◌+◌}
use mir.Syntax.{w32}
use Rattle.fixed.proofs.Means.{Num, keep, add}
use Rattle.coverage.specs.Scanline.{at, column_from}
use Rattle.coverage.proofs.Begin.{sized}
use Rattle.coverage.proofs.samples.take_column.Goals.{Start}
use Rattle.coverage.proofs.samples.take_column.Goals as goal

abbrev za : Start → Num
za c = add (sized 4000000 c.args.z.a tt c.requires.2.a) (sized 1000000 (at c.args.sums.now c.args.i) tt c.requires.1.0)

abbrev zb : Start → Num
zb c = add (sized 4000000 c.args.z.b tt c.requires.2.b) (sized 1000000 (at c.args.sums.now (c.args.i + 1)) tt c.requires.1.1)

abbrev zc : Start → Num
zc c = add (sized 4000000 c.args.z.c tt c.requires.2.c) (sized 1000000 (at c.args.sums.now (c.args.i + 2)) tt c.requires.1.2)

abbrev zd : Start → Num
zd c = add (sized 4000000 c.args.z.d tt c.requires.2.d) (sized 1000000 (at c.args.sums.now (c.args.i + 3)) tt c.requires.1.3)

pub returns : goal.returns
unfolding column_from
returns c =
    λ i. record {
      a = (keep w32 (za (goal.at.returns c).Start) tt).same i;
      b = (keep w32 (zb (goal.at.returns c).Start) tt).same i;
      c = (keep w32 (zc (goal.at.returns c).Start) tt).same i;
      d = (keep w32 (zd (goal.at.returns c).Start) tt).same i;
    }
