-- `scene::fields::flag` meets its contract.
use Prim.Native.Nat.{◌/◌, ◌^◌}
use lib.Bits.{and_mask}
use Rattle.scene.proofs.fields.flag.Goals as goal

pub returns : goal.returns
returns c =
    rw (and_mask (c.u16_at.result / 2 ^ c.args.n) 1, c.u16_at.ensures.0)
