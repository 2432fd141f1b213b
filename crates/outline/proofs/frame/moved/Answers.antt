-- `outline::frame::moved` meets its contract.
use Rattle.outline.specs.Frames.{from_end, to_end}
use Rattle.outline.proofs.Frames.{near_placed}
use Rattle.outline.proofs.frame.moved.Goals as goal

pub apply-requires : goal.apply-requires
apply-requires c =
    let h = c.requires in
    let e = c.args.e in
    let p = near_placed c.args.m c.from_end.result (from_end e) h.0.1 c.from_end.ensures (record { x = h.1.x0; y = h.1.y0 }) in
    ((h.0.0, p.near), p.there)

pub apply-requires-2 : goal.apply-requires-2
apply-requires-2 c =
    let h = c.requires in
    let e = c.args.e in
    let p = near_placed c.args.m c.to_end.result (to_end e) h.0.1 c.to_end.ensures (record { x = h.1.x1; y = h.1.y1 }) in
    ((h.0.0, p.near), p.there)
