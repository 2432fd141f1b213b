-- The verdict on a scene, by how far its rules are kept.
use mathlib.Core.Path.{◌≡◌}
use mathlib.Core.List.{List}
use mathlib.Core.Bool.{Bool, true, ◌&&◌}
use Prim.Native.Nat.{ℕ, ◌*◌, ◌%◌}
use lib.ListN.{length}
use lib.Dec.{eqb, leb}
use borrow.Author.Tests.{eq-eqb}
use Rattle.std.specs.Prelude.{Ok}
use Rattle.codes.specs.First.{first_among}
use Rattle.scene.specs.Layout.{block_bytes}
use Rattle.scene.specs.Blocks.{block_right, block_of}
use Rattle.scene.specs.Header.{count_of}
use Rattle.scene.specs.Rules.{header_rules, draw_fault, scene_fault_from, scene_fault}

-- a scene that is kept up to its draws
module _ (lent : Bool) (s : List ℕ) where
  pub by_draws : (eqb (length s % block_bytes) 0 && leb block_bytes (length s)) ≡ true → block_right s 0 ≡ true → header_rules s ≡ Ok tt
      → length s ≡ block_bytes * block_of (count_of s)
      → scene_fault lent s ≡ first_among (count_of s) (draw_fault lent s)
  unfolding scene_fault_from
  by_draws w b h l = rw (w, b, h, eq-eqb (length s) (block_bytes * block_of (count_of s)) l)
