use Rattle.std.proofs.Common.{◌≡◌, vec_len, ◌+◌}
use Rattle.console.proofs.arguments.Arguments.part.Given as goal

-- each turn adds one
abbrev pub invariant-loop-i : goal.invariant-loop-i
invariant-loop-i l = vec_len l.all + l.initial.i ≡ l.i
