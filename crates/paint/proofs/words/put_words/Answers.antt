-- `words::put_words` meets its contract: the pixels before i are stored.
use Rattle.std.proofs.Common.{length, arith}
use Rattle.raster.proofs.Runs.{stored_none, stored_turn, stored_all}
use Rattle.paint.proofs.words.put_words.Goals as goal

pub loop-i-init : goal.loop-i-init
loop-i-init c =
    stored_none _ _

pub put_pixel-requires : goal.put_pixel-requires
put_pixel-requires c =
    omega (arith, c.loop-i-test.true, c.loop-i.invariant.long, c.requires.1)

pub loop-i-preserved : goal.loop-i-preserved
loop-i-preserved c =
    let put = c.put_pixel in
    stored_turn c.loop-i.invariant put.new.s c.unpack.result put.ensures c.unpack.ensures
    (omega (arith, c.loop-i-test.true, c.requires.1))

pub shape_of-row : goal.shape_of-row
shape_of-row c =
    c.loop-i.invariant.long

pub returns : goal.returns
returns c =
    stored_all c.loop-i.invariant (length c.args.ws.now) (omega (arith, c.loop-i-test.false)) c.requires.1
