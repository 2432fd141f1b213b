-- `block::color_row` meets its contract.
use Rattle.std.proofs.Common.{length, ap, ◌∙◌, arith}
use Rattle.raster.proofs.Runs.{run_same}
use Rattle.paint.specs.Segments.{finished, color_at_position}
use Rattle.paint.proofs.block.color_row.Goals as goal

pub color_words-requires : goal.color_words-requires
color_words-requires c =
    (c.requires.0, c.requires.1)

pub finish_words-requires : goal.finish_words-requires
finish_words-requires c =
    omega (arith, c.color_words.ensures.long, c.requires.1.few)

pub put_words-requires : goal.put_words-requires
put_words-requires c =
    let colored = c.color_words.ensures in
    let paint = c.finish_words.ensures in
    (omega (arith, paint.long, colored.long, c.requires.1.few), omega (arith, paint.long, colored.long, c.requires.2))

pub returns : goal.returns
unfolding color_at_position
returns c =
    let colored = c.color_words.ensures in
    let paint = c.finish_words.ensures in
    let a = c.args in
    let n = paint.long ∙ colored.long in
    c.put_words.ensures ∙ rw n
    (run_same (length a.ks.now) _ _
    (λ i h. paint.color i (omega (arith, h, colored.long))
    ∙ ap (finished a.premultiply) (colored.color i h)))
