use mathlib.Core.Path.{◌≡◌}
use mathlib.Core.List.{List}
use Prim.Native.Nat.{ℕ, ◌+◌, ◌*◌}
use lib.ListN.{length, take, drop}
use Rattle.lists.specs.Lists.{upto}
use Rattle.scene.specs.Layout.{block_bytes, payload_bytes}
use Rattle.scene.specs.Blocks.{block_of}
use Rattle.rescue.specs.Fresh.{fresh_block}
use Rattle.rescue.proofs.fresh.put_draw.Given as goal

-- block k of draw i
abbrev pub block : List ℕ → ℕ → ℕ → List ℕ
block d i k = fresh_block (block_of i + k) (take payload_bytes (drop (payload_bytes * k) d))

abbrev pub invariant-loop-j : goal.invariant-loop-j
invariant-loop-j l = (length l.out ≡ length l.initial.out) × (take (block_bytes * l.j) l.out ≡ upto l.j (block l.d l.i))
