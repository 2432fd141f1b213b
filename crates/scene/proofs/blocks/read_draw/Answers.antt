use mathlib.Core.Path.{◌≡◌, ap, ◌∙◌}
use mathlib.Core.List.{List}
use Prim.Native.Nat.{ℕ, ◌+◌, ◌-◌, ◌*◌}
use native.Mathlib.Omega.{arith}
use lib.ListN.{length, take, drop}
use Rattle.lists.proofs.Laws.{part_length, take_end}
use Rattle.scene.specs.Layout.{block_bytes, payload_bytes, draw_blocks}
use Rattle.scene.specs.Blocks.{draw_of, block_of}
use Rattle.scene.proofs.Copies.{part_kept, part_turn}
use Rattle.scene.proofs.blocks.read_draw.Invariants.{payload}
use Rattle.scene.proofs.blocks.read_draw.Goals as goal

pub loop-j-preserved : goal.loop-j-preserved
loop-j-preserved c =
    let l = c.loop-j in
    let a = c.args in
    let at = payload_bytes * l.j in
    let from = block_bytes * (block_of a.i + l.j) in
    let q = c.copy_row.new.row in
    let f : ℕ → List ℕ = payload a.s.now a.i in
    let part : at + payload_bytes - at ≡ payload_bytes = omega arith in
    let w : length q ≡ payload_bytes = c.copy_row.auto.row ∙ part_length l.out at (at + payload_bytes) (omega arith) (omega arith) ∙ part in
    let size : from + payload_bytes - from ≡ payload_bytes = omega arith in
    let h : q ≡ f l.j = c.copy_row.ensures ∙ ap (λ (x : ℕ). take x (drop from a.s.now)) size in (
      part_kept l.out q at payload_bytes (at + payload_bytes - at) (omega arith) w part ∙ l.invariant.0,
      part_turn l.out q at payload_bytes (at + payload_bytes - at) (omega arith) w f l.j (payload_bytes * (l.j + 1)) (omega arith) l.invariant.1 h,
    )

pub returns : goal.returns
unfolding draw_of
returns c =
    let l = c.loop-j in
    let e : l.j ≡ draw_blocks = omega arith in
    take_end _ l.out (payload_bytes * l.j) l.j draw_blocks l.invariant.1 (omega arith) e
