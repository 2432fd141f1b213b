-- `decode::style` meets its contract, field by field.
use mathlib.Core.Path.{ap₂, ◌∙◌}
use mathlib.Core.Bool.{Bool}
use Prim.Native.Nat.{ℕ}
use Rattle.std.specs.Bool.{then_some}
use Rattle.engine.proofs.decode.style.Goals as goal

pub returns : goal.returns
returns c =
    let rule = c.non_zero_rule.ensures in
    let cut = c.then_some.ensures ∙ ap₂ (λ (t : Bool) (n : ℕ). then_some t n) c.scissoring.ensures c.scissor_count.ensures.0 in
    let masked = c.uses_mask.ensures in
    let mode = c.blend_mode.ensures in
    let a = c.args in
    λ i. record { edges = a.n; nonzero = rule i; scissors = cut i; masked = masked i; mode = mode i; shade = a.shade }
