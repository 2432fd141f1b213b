use Rattle.std.proofs.Common.{◌-◌, ◌≡◌, ◌+◌, ◌≤◌, vec_len}
use Rattle.std.specs.Io.{StartsWith}
use Rattle.console.proofs.files.append.Given as goal

-- what was read stands behind the others, and the piece is as long as it was
abbrev pub invariant-loop-read : goal.invariant-loop-read
invariant-loop-read l = (vec_len l.files + l.initial.read ≡ vec_len l.initial.files + l.read) × (l.read ≤ l.most + l.initial.read)
    × (vec_len l.piece ≡ vec_len l.initial.piece) × StartsWith l.files.items l.initial.files.items

abbrev pub decreases-loop-read : goal.decreases-loop-read
decreases-loop-read l = l.most - l.read
