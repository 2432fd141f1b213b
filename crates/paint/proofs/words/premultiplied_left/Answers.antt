-- `words::premultiplied_left` meets its contract.
use Rattle.std.proofs.Common.{ℕ, ◌+◌, ◌*◌, ◌∙◌, ap₂}
use Rattle.paint.specs.Segments.{left_pair}
use Rattle.paint.proofs.words.premultiplied_left.Goals as goal

pub premultiply-requires : goal.premultiply-requires
premultiply-requires c =
    tt

pub premultiply-requires-2 : goal.premultiply-requires-2
premultiply-requires-2 c =
    tt

pub pair-requires : goal.pair-requires
pair-requires c =
    tt

pub returns : goal.returns
unfolding left_pair
returns c =
    c.pair.ensures ∙ ap₂ (λ (r g : ℕ). r + g * 256) c.premultiply.ensures c.premultiply-2.ensures
