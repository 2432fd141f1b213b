use mathlib.Core.Path.{◌≡◌}
use lib.ListN.{drop}
use Rattle.std.proofs.Common.{Some}
use Rattle.limits.specs.Digits.{with_digits, number_of}
use Rattle.limits.proofs.arguments.number.Given as goal

abbrev pub invariant-loop-b : goal.invariant-loop-b
invariant-loop-b l = number_of l.text ≡ with_digits (Some l.n) (drop l.b-index l.text)
