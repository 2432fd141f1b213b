-- `plain::scissors::scissor_pixel` meets its contract.
use mathlib.Core.Path.{◌≡◌, sym, ◌∙◌}
use mathlib.Core.Bool.{true, false}
use Rattle.coverage.specs.Scissors.{in_scissors, scissored}
use Rattle.plain.proofs.scissors.scissor_pixel.Goals as goal

pub returns-then-is_in_scissors : goal.returns-then-is_in_scissors
unfolding scissored
returns-then-is_in_scissors c =
    let a = c.args in
    let f : in_scissors a.scissors.now c.in-Some.n a.x a.y ≡ true = sym c.is_in_scissors.ensures ∙ c.if-is_in_scissors.true in
    rw (c.in-Some.is, f)

pub returns-else-is_in_scissors : goal.returns-else-is_in_scissors
unfolding scissored
returns-else-is_in_scissors c =
    let a = c.args in
    let f : in_scissors a.scissors.now c.in-Some.n a.x a.y ≡ false = sym c.is_in_scissors.ensures ∙ c.if-is_in_scissors.false in
    rw (c.in-Some.is, f)
