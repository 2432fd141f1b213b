-- `words::premultiplied_right` meets its contract.
use Rattle.std.proofs.Common.{ℕ, ◌+◌, ◌*◌, ◌/◌, ap, ◌∙◌}
use Rattle.paint.specs.Segments.{right_pair}
use Rattle.paint.proofs.words.premultiplied_right.Goals as goal

pub premultiply-requires : goal.premultiply-requires
premultiply-requires c =
    tt

pub pair-requires : goal.pair-requires
pair-requires c =
    tt

pub returns : goal.returns
unfolding right_pair
returns c =
    c.pair.ensures ∙ ap (λ (b : ℕ). b + c.args.right / 256 * 256) c.premultiply.ensures
