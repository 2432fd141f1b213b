-- `build::push` meets its contract.
use Rattle.std.proofs.Common.{◌≡◌, ap, ◌∙◌, arith, length-set}
use Rattle.paint.specs.Buffers.{packed, unpacked}
use Rattle.paint.proofs.Built.{packed_back, stop_pushed}
use Rattle.paint.proofs.build.push.Goals as goal

pub bounds-ramp-b-2 : goal.bounds-ramp-b-2
bounds-ramp-b-2 c =
    simp length-set (omega arith)

pub returns : goal.returns
returns c =
    let a = c.args in
    let back : unpacked (packed a.color) ≡ a.color = packed_back a.color (omega arith) (omega arith) (omega arith) (omega arith) in
    stop_pushed a.ramp.now a.at a.offset c.pack.result a.color (omega arith) (ap unpacked c.pack.ensures ∙ back)
