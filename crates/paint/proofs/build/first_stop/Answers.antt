-- `build::first_stop` meets its contract.
use Rattle.std.proofs.Common.{arith, eq-eqb, ne_eqb}
use Rattle.paint.proofs.build.first_stop.Goals as goal

pub returns-then-offset-eq0 : goal.returns-then-offset-eq0
returns-then-offset-eq0 c =
    record { written = rw (eq-eqb _ _ c.if-offset-eq0.true) c.push.ensures; upper_bound = omega arith }

pub returns : goal.returns
returns c =
    record { written = rw (ne_eqb _ _ c.if-offset-eq0.false) c.two_stops.ensures; upper_bound = omega arith }
