-- `draws::clip` meets its contract.
use mathlib.Core.Path.{◌≡◌, sym, ap₂, ◌∙◌}
use Prim.Native.Nat.{◌≤◌}
use native.Mathlib.Omega.{arith}
use lib.ListN.{length}
use Rattle.coverage.specs.Clips.{scissor_box}
use Rattle.engine.proofs.Paints.{scissors_length}
use Rattle.engine.proofs.draws.clip.Goals as goal

pub scissor_box-requires : goal.scissor_box-requires
scissor_box-requires c =
    let few : c.scissor_count.result ≤ 4 = rw c.scissor_count.ensures.0 c.requires.1.scissors in
    let long : length c.scissors.result.now ≡ 64 = rw c.scissors.ensures (scissors_length c.args.d.now c.requires.0) in
    (few, omega (arith, few, long))

pub returns-then-scissoring : goal.returns-then-scissoring
returns-then-scissoring c =
    rw (sym c.scissoring.ensures ∙ c.if-scissoring.true)
    (c.scissor_box.ensures ∙ ap₂ scissor_box c.scissors.ensures c.scissor_count.ensures.0)

pub returns : goal.returns
returns c =
    rw (sym c.scissoring.ensures ∙ c.if-scissoring.false)
