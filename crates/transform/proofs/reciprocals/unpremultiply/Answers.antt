-- `transform::reciprocals::unpremultiply` meets its contract.
use mathlib.Core.Path.{ap, ◌∙◌}
use Prim.Native.Nat.{ℕ, ◌+◌, ◌*◌, ◌/◌}
use Rattle.transform.proofs.Quotients.{by_reciprocal}
use Rattle.transform.proofs.Opaque.{opaque_channel}
use Rattle.transform.proofs.reciprocals.unpremultiply.Goals as goal

pub returns-then-a-eq255 : goal.returns-then-a-eq255
returns-then-a-eq255 c =
    opaque_channel c.args.c c.args.a c.if-a-eq255.true

pub returns : goal.returns
returns c =
    let a = c.args in
    ap (λ (r : ℕ). (a.c * 255 + a.a / 2) * r / 16777216) c.requires ∙ by_reciprocal a.c a.a c.ranges.c.fits c.ranges.a.fits
