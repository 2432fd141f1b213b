use native.Mathlib.Omega.{arith}
use Rattle.text.proofs.Pixels.{stored_pixel_lem}
use Rattle.text.proofs.put_pixel.Goals as goal

pub returns : goal.returns
returns c =
    let a = c.args in
    stored_pixel_lem a.out.now c.put_byte.new.out c.put_byte-2.new.out c.put_byte-3.new.out c.put_byte-4.new.out a.p a.after
    c.put_byte.ensures c.put_byte-2.ensures c.put_byte-3.ensures c.put_byte-4.ensures (omega arith)
