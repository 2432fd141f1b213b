use mathlib.Core.Path.{◌≡◌, ap, ◌∙◌}
use Prim.Native.Nat.{ℕ, ◌+◌, ◌-◌}
use native.Mathlib.Omega.{arith}
use lib.ListN.{length, take, drop}
use lib.Seq.{length-take-le, take_at}
use Rattle.scene.specs.Layout.{payload_bytes}
use Rattle.rescue.specs.Fresh.{fresh_block}
use Rattle.rescue.proofs.fresh.put_block.Goals as goal

pub returns : goal.returns
returns c =
    let a = c.args in
    let copy = c.copy_from_slice in
    let q = copy.new.self in
    let w : length q ≡ payload_bytes = copy.ensures.len ∙ length-take-le payload_bytes a.block.now (omega arith) in
    let size : a.at + payload_bytes - a.at ≡ payload_bytes = omega arith in
    c.seal.ensures
    ∙ ap (fresh_block a.b)
    (take_at q (drop payload_bytes a.block.now) payload_bytes w ∙ copy.ensures.after ∙ ap (λ (k : ℕ). take k (drop a.at a.d.now)) size)
