use Rattle.std.proofs.Common.{◌≡◌, ◌+◌, ◌*◌}
use Rattle.std.specs.Prelude.{leb, Ok}
use Rattle.codes.specs.First.{first_among}
use Rattle.fixed.specs.Little.{u32_at}
use Rattle.fixed.specs.Patterns.{size_bits}
use Rattle.scene.specs.Faults.{must}
use Rattle.scene.proofs.faults.patterns.Given as goal

abbrev pub invariant-loop-i : goal.invariant-loop-i
invariant-loop-i l = first_among l.i (λ k. must (leb (size_bits (u32_at l.d (l.at + 4 * k))) l.limit) (l.at + 4 * k)) ≡ Ok tt
