use Rattle.std.proofs.Common.{◌≡◌, ℕ, ◌+◌, ◌*◌, List}
use Rattle.std.specs.Prelude.{Result, Ok}
use Rattle.codes.specs.First.{first_among}
use Rattle.codes.specs.declared.Code.TheVariants.{BadChecksum}
use Rattle.scene.specs.declared.Fault.{Fault}
use Rattle.scene.specs.Layout.{block_bytes, payload_bytes}
use Rattle.scene.specs.Blocks.{block_right, block_of}
use Rattle.scene.specs.Faults.{demand, fault}
use Rattle.scene.proofs.verdict.check_faults.Given as goal

-- block j of draw i has its check, or is the fault
abbrev pub check_of : List ℕ → ℕ → ℕ → Result Unit Fault
check_of s i j = demand (block_right s (block_of i + j)) (fault BadChecksum i (block_bytes * (block_of i + j) + payload_bytes))

abbrev pub invariant-loop-j : goal.invariant-loop-j
invariant-loop-j l = first_among l.j (check_of l.s l.i) ≡ Ok tt
