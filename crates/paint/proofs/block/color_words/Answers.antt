-- `block::color_words` meets its contract.
use Rattle.std.proofs.Common.{ℕ, subst}
use Rattle.paint.specs.Buffers.{HeldRamp}
use Rattle.paint.proofs.block.color_words.Goals as goal

pub has_ends_only-requires : goal.has_ends_only-requires
has_ends_only-requires c =
    c.requires.0.places

pub two_words-requires : goal.two_words-requires
two_words-requires c =
    let ends = c.has_ends_only.ensures c.if-has_ends_only.true in
    (subst (λ (n : ℕ). HeldRamp c.args.ramp.now n) ends.0 c.requires.0, ends.1, c.requires.1)

pub returns-then-has_ends_only : goal.returns-then-has_ends_only
returns-then-has_ends_only c =
    let ends = c.has_ends_only.ensures c.if-has_ends_only.true in
    rw ends.0 c.two_words.ensures

pub returns : goal.returns
returns c =
    c.segment_words.ensures
