-- `shade::gradient_color` meets its contract.
use Rattle.std.proofs.Common.{◌≡◌, List, ap, ◌∙◌, to_z-of_z, w64}
use Rattle.fixed.proofs.Signed.{back}
use Rattle.color.specs.Channels.{premultiplied}
use Rattle.paint.specs.Gradient.{mapped}
use Rattle.paint.specs.Ramps.{ramp_at}
use Rattle.paint.specs.Paints.{gradient_color}
use Rattle.paint.specs.Buffers.{stops_in}
use Rattle.paint.specs.declared.Stop.{Stop}
use Rattle.paint.proofs.shade.gradient_color.Goals as goal
use Rattle.paint.proofs.shade.gradient_color.Tie as tie
use Rattle.paint.proofs.shade.gradient_color.Lts as lts
use Rattle.paint.proofs.shade.gradient_color.Reads as reads

abbrev ramp : lts.After-ramp_color tie.the-claims reads.Pre reads.Post → List Stop
ramp c = stops_in c.args.ramp.now c.args.count

-- the ramp's colour
found : (c : lts.After-ramp_color tie.the-claims reads.Pre reads.Post) → c.ramp_color-c.result ≡ ramp_at (ramp c) (mapped c.args.spread c.args.t)
found c =
    let m = c.spread in
    c.ramp_color-c.ensures
    ∙ ap (ramp_at (ramp c)) (back w64 m.result m.type_inv ∙ m.ensures ∙ ap (mapped c.args.spread) (to_z-of_z c.ranges.t))

pub spread-requires : goal.spread-requires
spread-requires c =
    tt

pub ramp_color-c-requires : goal.ramp_color-c-requires
ramp_color-c-requires c =
    c.requires

pub premultiplied-requires : goal.premultiplied-requires
premultiplied-requires c =
    tt

pub returns-then-premultiply : goal.returns-then-premultiply
unfolding gradient_color
returns-then-premultiply c =
    rw c.if-premultiply.true (found c.before.before)

pub returns-else-premultiply : goal.returns-else-premultiply
unfolding gradient_color
returns-else-premultiply c =
    rw c.if-premultiply.false (c.premultiplied.ensures ∙ ap premultiplied (found c.before.before.before))
