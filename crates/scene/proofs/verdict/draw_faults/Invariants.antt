use Rattle.std.proofs.Common.{◌≡◌}
use Rattle.std.specs.Prelude.{Ok}
use Rattle.codes.specs.First.{first_among}
use Rattle.scene.specs.Rules.{draw_fault}
use Rattle.scene.proofs.verdict.draw_faults.Given as goal

abbrev pub invariant-loop-i : goal.invariant-loop-i
invariant-loop-i l = first_among l.i (draw_fault l.lent l.s) ≡ Ok tt
