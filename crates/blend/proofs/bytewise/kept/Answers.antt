-- `blend::kept` meets its contract: what is left of the pixel's number has the byte highest, and it is laid four times. Assumes nothing.
use Prim.Native.Nat.{◌-◌}
use native.Mathlib.Omega.{arith}
use Rattle.blend.proofs.Bytes.{four_bytes, left_laid}
use Rattle.blend.proofs.bytewise.kept.Goals as goal

pub returns : goal.returns
returns c =
    let laid = left_laid c.word.result _ (omega arith) c.word.ensures.1 in
    let b = four_bytes (255 - c.args.p.a) (omega arith) in
    rw (laid.0, laid.1, b.0, b.1, b.2, b.3)
