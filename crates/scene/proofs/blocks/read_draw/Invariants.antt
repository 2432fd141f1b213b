use mathlib.Core.Path.{◌≡◌}
use Prim.Native.Nat.{ℕ, ◌+◌, ◌*◌}
use lib.ListN.{length, take, drop}
use mathlib.Core.List.{List}
use Rattle.lists.specs.Lists.{upto}
use Rattle.scene.specs.Layout.{block_bytes, payload_bytes}
use Rattle.scene.specs.Blocks.{block_of}
use Rattle.scene.proofs.blocks.read_draw.Given as goal

-- the payload of block k of draw i
abbrev pub payload : List ℕ → ℕ → ℕ → List ℕ
payload s i k = take payload_bytes (drop (block_bytes * (block_of i + k)) s)

abbrev pub invariant-loop-j : goal.invariant-loop-j
invariant-loop-j l =
    (length l.out ≡ length l.initial.out) × (take (payload_bytes * l.j) l.out ≡ upto l.j (payload l.s l.i))
