-- `transform::pixels::transform_by` meets its contract, channel by channel.
use mathlib.Core.Path.{◌≡◌, sym, ap, ◌∙◌}
use mir.Syntax.{w32}
use Rattle.color.specs.declared.Pixel.{Pixel}
use Rattle.color.specs.Channels.{premultiplied}
use Rattle.fixed.proofs.Signed.{back}
use Rattle.transform.specs.Transforms.{unpremultiplied, transform_channels, transformed}
use Rattle.transform.proofs.Opaque.{opaque_pixel}
use Rattle.transform.proofs.pixels.transform_by.Goals as goal
use Rattle.transform.proofs.pixels.transform_by.Tie as tie
use Rattle.transform.proofs.pixels.transform_by.Lts as lts
use Rattle.transform.proofs.pixels.transform_by.Reads as reads

-- the pixel before it is premultiplied
abbrev made : lts.After-transform_channel tie.the-claims reads.Pre reads.Post → Pixel
made after-alpha =
    record {
      r = after-alpha.transform_color.result;
      g = after-alpha.transform_color-2.result;
      b = after-alpha.transform_color-3.result;
      a = after-alpha.transform_channel.result;
    }

made-is : (after-alpha : lts.After-transform_channel tie.the-claims reads.Pre reads.Post)
    → made after-alpha ≡ transform_channels after-alpha.args.t (unpremultiplied after-alpha.args.p)
made-is after-alpha =
    let t = after-alpha.args.t in
    -- what each field of t is known to hold, in the order of the fields
    let sr = after-alpha.struct_told-1.given in
    let sg = sr.1 in
    let sb = sg.1 in
    let sa = sb.1 in
    let br = sa.1 in
    let bg = br.1 in
    let bb = bg.1 in
    let ba = bb.1 in
    λ i. record {
      r = (rw (back w32 t.sr sr.0.1, back w32 t.br br.0.1) at after-alpha.transform_color.ensures) i;
      g = (rw (back w32 t.sg sg.0.1, back w32 t.bg bg.0.1) at after-alpha.transform_color-2.ensures) i;
      b = (rw (back w32 t.sb sb.0.1, back w32 t.bb bb.0.1) at after-alpha.transform_color-3.ensures) i;
      a = (rw (back w32 t.sa sa.0.1, back w32 t.ba ba.0.1) at after-alpha.transform_channel.ensures) i;
    }

pub returns-then-q : goal.returns-then-q
unfolding transformed
returns-then-q c =
    sym (opaque_pixel (made c.before.before) c.if-q.true) ∙ ap premultiplied (made-is c.before.before)

pub returns : goal.returns
unfolding transformed
returns c =
    c.premultiplied.ensures ∙ ap premultiplied (made-is c.before.before.before)
