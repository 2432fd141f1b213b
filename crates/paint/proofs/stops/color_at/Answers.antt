-- `stops::color_at` meets its contract.
use Rattle.std.proofs.Common.{◌≡◌, ap, ◌∙◌}
use Rattle.color.specs.Channels.{premultiplied}
use Rattle.color.specs.declared.Pixel.{Pixel}
use Rattle.paint.specs.Ramps.{color_at}
use Rattle.paint.proofs.stops.color_at.Goals as goal
use Rattle.paint.proofs.stops.color_at.Tie as tie
use Rattle.paint.proofs.stops.color_at.Lts as lts
use Rattle.paint.proofs.stops.color_at.Reads as reads

read : (c : lts.After-channel_at4 tie.the-claims reads.Pre reads.Post)
    → ◌≡◌ {A = Pixel}
    (record {
      r = c.channel_at.result;
      g = c.channel_at-2.result;
      b = c.channel_at-3.result;
      a = c.channel_at-4.result;
    })
    (color_at c.args.stops.now c.args.i)
read c =
    rw (c.channel_at.ensures, c.channel_at-2.ensures, c.channel_at-3.ensures, c.channel_at-4.ensures)

pub premultiplied-requires : goal.premultiplied-requires
premultiplied-requires c =
    tt

pub returns-then-premultiply : goal.returns-then-premultiply
returns-then-premultiply c =
    rw c.if-premultiply.true (c.premultiplied.ensures ∙ ap premultiplied (read c.before.before.before))

pub returns : goal.returns
returns c =
    rw c.if-premultiply.false (read c.before.before)
