-- `crc::crc` meets its contract: the remainder after the bytes so far. Assumes nothing.
use mathlib.Core.Path.{◌≡◌}
use Rattle.crc.specs.Crc.{crc_to}
use Rattle.crc.proofs.crc.Given as goal

abbrev pub invariant-loop-b : goal.invariant-loop-b
invariant-loop-b l = l.c ≡ crc_to l.bytes l.b-index
