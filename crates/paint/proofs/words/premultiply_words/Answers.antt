-- `words::premultiply_words` meets its contract: the colours before i are premultiplied.
use Rattle.std.proofs.Common.{ℕ, ap, ◌∙◌, arith}
use Rattle.color.specs.Channels.{premultiplied}
use Rattle.paint.specs.Buffers.{unpacked}
use Rattle.paint.proofs.Begins.{begun_none, begun_turn, begun_all}
use Rattle.paint.proofs.words.premultiply_words.Goals as goal

pub loop-i-init : goal.loop-i-init
loop-i-init c =
    begun_none _ _

pub loop-i-preserved : goal.loop-i-preserved
loop-i-preserved c =
    let l = c.loop-i in
    let w = c.premultiplied_word in
    begun_turn l.invariant w.result
    (w.ensures ∙ ap (λ (n : ℕ). premultiplied (unpacked n)) (l.invariant.rest l.i (omega arith)))
    (omega (arith, c.loop-i-test.true, l.invariant.long))

pub shape_of-ws : goal.shape_of-ws
shape_of-ws c =
    c.loop-i.invariant.long

pub returns : goal.returns
returns c =
    let l = c.loop-i in
    begun_all l.invariant (omega (arith, c.loop-i-test.false, l.invariant.long))
