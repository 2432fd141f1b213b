-- `words::premultiplied_word` meets its contract.
use Rattle.std.proofs.Common.{ap, ◌∙◌}
use Rattle.color.specs.Channels.{premultiplied}
use Rattle.paint.proofs.words.premultiplied_word.Goals as goal

pub unpack-requires : goal.unpack-requires
unpack-requires c =
    tt

pub premultiplied-requires : goal.premultiplied-requires
premultiplied-requires c =
    tt

pub word-requires : goal.word-requires
word-requires c =
    tt

pub returns : goal.returns
returns c =
    c.word.ensures ∙ c.premultiplied.ensures ∙ ap premultiplied c.unpack.ensures
