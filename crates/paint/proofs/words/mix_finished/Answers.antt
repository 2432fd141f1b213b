-- `words::mix_finished` meets its contract.
use Rattle.std.proofs.Common.{◌<◌, length, get_or, sym, ap, ◌∙◌, arith}
use Rattle.paint.specs.Segments.{finished}
use Rattle.paint.proofs.Pairs.{mixed_opaque, opaque_planes, premultiplied_planes}
use Rattle.paint.proofs.words.mix_finished.Goals as goal

pub returns-then-premultiply : goal.returns-then-premultiply
unfolding finished
returns-then-premultiply c =
    rw c.if-premultiply.true c.mix_colors.ensures

pub returns-then-min : goal.returns-then-min
unfolding finished
returns-then-min c =
    let mixed = c.mix_colors.ensures in
    let a = c.args in
    let alphas : (a.c.a < 256) × (a.d.a < 256) = (omega arith, omega arith) in
    let opaque = sym c.min.ensures ∙ c.if-min.true in
    rw c.if-premultiply.false
    (opaque_planes mixed
    (λ i h. mixed_opaque (get_or a.left.now i 0) a.c.a a.d.a (c.requires.0.below i h) alphas.0 alphas.1 opaque))

pub premultiply_pairs-requires : goal.premultiply_pairs-requires
premultiply_pairs-requires c =
    let mixed = c.mix_colors in
    let left = mixed.auto.left in
    (omega (arith, left, mixed.auto.right, ap length c.requires.1), omega (arith, left, c.requires.2))

pub returns : goal.returns
unfolding finished
returns c =
    let made = c.premultiply_pairs in
    let mixed = c.mix_colors in
    rw c.if-premultiply.false (premultiplied_planes mixed.ensures _ _ made.ensures.left_after made.ensures.right_after)
