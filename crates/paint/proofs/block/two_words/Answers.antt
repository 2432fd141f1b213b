-- `block::two_words` meets its contract.
use Rattle.std.proofs.Common.{get_or, ◌∙◌, ap₂, arith}
use Rattle.color.specs.declared.Pixel.{Pixel}
use Rattle.paint.specs.Segments.{two_stops}
use Rattle.paint.proofs.Serving.{two_colors}
use Rattle.paint.proofs.block.two_words.Goals as goal

pub stop_color-requires : goal.stop_color-requires
stop_color-requires c =
    omega (arith, c.requires.0.places)

pub stop_color-requires-2 : goal.stop_color-requires-2
stop_color-requires-2 c =
    omega (arith, c.requires.0.places)

pub mix_words-requires : goal.mix_words-requires
mix_words-requires c =
    c.requires.2.few

pub returns : goal.returns
returns c =
    let call = c.mix_words.ensures in
    let second = c.stop_color-2.ensures in
    let first = c.stop_color.ensures in
    let ks = c.args.ks.now in
    record {
      long = call.long;
      color = λ i h.
          call.color i h ∙ ap₂ (λ (p q : Pixel). two_stops p q (get_or ks i 0)) first second
          ∙ two_colors c.args.ramp.now c.requires.0 c.requires.1 (get_or ks i 0) (c.requires.2.below i h);
    }
