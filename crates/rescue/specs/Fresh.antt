-- Blocks put together with fresh checks, the empty draw, and a scene put together anew.
use Rattle.std.specs.Prelude.{ℕ, ◌+◌, ◌*◌, ◌/◌, ◌%◌, List, [], ◌∷◌, ◌++◌, take, drop, replicate}
use Rattle.lists.specs.Lists.{upto}
use Rattle.blend.specs.PorterDuff.{mode_src_over}
use Rattle.paint.specs.Paints.{paint_color}
use Rattle.paint.specs.Gradient.{spread_pad}
use Rattle.scene.specs.Layout.{block_bytes, payload_bytes, draw_blocks}
use Rattle.scene.specs.Blocks.{checksum_of, block_number, block_of}
use Rattle.scene.specs.Header.{count_of}
use Rattle.scene.specs.declared.Checksum.{Checksum}

-- a number's two bytes, the lowest first
abbrev pub word : ℕ → List ℕ
word n = n % 256 ∷ n / 256 ∷ []

-- the check's four bytes
abbrev pub check_bytes : Checksum → List ℕ
check_bytes k = word k.plain ++ word k.weighted

-- block b: its 508 bytes of payload, then their check, whose sums begin at the block's number
unfoldable pub fresh_block : ℕ → List ℕ → List ℕ
fresh_block b p = p ++ check_bytes (checksum_of (block_number b) p 0)

-- the four blocks of draw i, from its 2,032 bytes
unfoldable pub fresh_draw : ℕ → List ℕ → List ℕ
fresh_draw i d = upto draw_blocks (λ j. fresh_block (block_of i + j) (take payload_bytes (drop (payload_bytes * j) d)))

-- the empty draw: flags 0, blend 0x2001, paint 0x1B00, spread 0x1C00, all else zero
unfoldable pub empty_draw : List ℕ
empty_draw = (word 0 ++ word mode_src_over ++ word paint_color ++ word spread_pad) ++ replicate 2024 0

-- block 0 of s as it is, then other blocks for each of its draws
unfoldable pub with_blocks : List ℕ → (ℕ → List ℕ) → List ℕ
with_blocks s blocks = take block_bytes s ++ upto (count_of s) blocks

-- block 0 of s as it is, then for each of its draws the 2,032 bytes that are given, with fresh checks
unfoldable pub assembled : List ℕ → (ℕ → List ℕ) → List ℕ
assembled s draws = with_blocks s (λ i. fresh_draw i (draws i))
