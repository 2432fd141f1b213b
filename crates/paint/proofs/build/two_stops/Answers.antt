-- `build::two_stops` meets its contract: the second is written after the first.
use Rattle.std.proofs.Common.{List, [], ◌∷◌, ◌++◌, ap, arith}
use Rattle.paint.specs.Ramps.{stop}
use Rattle.paint.specs.declared.Stop.{Stop}
use Rattle.paint.proofs.Built.{then_written}
use Rattle.paint.proofs.build.two_stops.Goals as goal

pub push-requires-2 : goal.push-requires-2
push-requires-2 c =
    (omega arith, omega (arith, c.push.auto.ramp, c.requires))

pub returns : goal.returns
returns c =
    let a = c.args in
    let first = c.push in
    then_written first.ensures (omega arith) c.push-2.ensures
    (ap (λ (l : List Stop). l ++ (stop a.offset a.next ∷ [])) first.ensures.stops)
