-- `transform::pixels::transform_channel` meets its contract: no step overflows, by the types of the parameters.
use mathlib.Core.Path.{ap, ◌∙◌}
use native.Mathlib.Omega.{arith}
use mir.Syntax.{w32, w64}
use Rattle.fixed.proofs.Means.{Num, need, keep, param, of_nat, lit, add, mul, shr}
use Rattle.transform.specs.Transforms.{byte_in, transform_channel}
use Rattle.transform.proofs.pixels.transform_channel.Goals as goal

abbrev scale : goal.Start → Num
scale s = param w32 s.args.scale s.ranges.scale

abbrev scaled : goal.Start → Num
scaled s = mul (of_nat w64 s.args.c 65535 (omega (arith, s.ranges.c.fits)) tt) (keep w64 (scale s) tt)

abbrev bias : goal.Start → Num
bias s = param w32 s.args.bias s.ranges.bias

abbrev added : goal.Start → Num
added s = mul (lit 255) (keep w64 (bias s) tt)

abbrev both : goal.Start → Num
both s = add (keep w64 (scaled s) tt) (keep w64 (added s) tt)

abbrev half_up : goal.Start → Num
half_up s = add (keep w64 (both s) tt) (lit 128)

pub overflow_add-c : goal.overflow_add-c
overflow_add-c c =
    need (both c) tt

pub overflow_add-c-2 : goal.overflow_add-c-2
overflow_add-c-2 c =
    need (half_up c) tt

pub returns : goal.returns
unfolding transform_channel
returns c =
    c.byte_in.ensures ∙ ap byte_in (keep w64 (shr (keep w64 (half_up c.before) tt) 256) tt).same
