use Rattle.std.proofs.Common.{arith}
use Rattle.scene.proofs.Accepted.{stops_fit}
use Rattle.scene.proofs.rules.stop_rules.Goals as goal

pub numbers-requires : goal.numbers-requires
numbers-requires c =
    let fit = stops_fit c.args.d.now c.requires.1 in (omega arith, omega arith)
