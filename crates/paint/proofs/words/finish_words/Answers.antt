-- `words::finish_words` meets its contract.
use Rattle.std.proofs.Common.{length, refl}
use Rattle.paint.specs.Segments.{finished}
use Rattle.paint.proofs.Begins.{opaque_words}
use Rattle.paint.proofs.words.finish_words.Goals as goal

pub returns-then-premultiply : goal.returns-then-premultiply
unfolding finished
returns-then-premultiply c =
    rw c.if-premultiply.true (record { long = refl; color = λ i h. refl })

pub returns-then-lowest_alpha : goal.returns-then-lowest_alpha
unfolding finished
returns-then-lowest_alpha c =
    let low = c.lowest_alpha in
    let ws = c.args.ws.now in
    rw c.if-premultiply.false (opaque_words low.result (length ws) ws low.ensures c.if-lowest_alpha.true refl)

pub returns : goal.returns
unfolding finished
returns c =
    rw c.if-premultiply.false c.premultiply_words.ensures
