-- Blocks: their check, and the bytes of a draw.
use Rattle.std.specs.Prelude.{ℕ, zero, suc, ◌+◌, ◌*◌, ◌/◌, ◌%◌, List, Bool, true, ◌&&◌, get_or, take, drop, eqb}
use Rattle.lists.specs.Lists.{total, upto}
use Rattle.fixed.specs.Little.{u16_at}
use Rattle.scene.specs.Layout.{block_bytes, payload_bytes, payload_words, check_modulus, draw_blocks, draw_bytes}
use Rattle.scene.specs.declared.Checksum.{Checksum}

-- the check of the payload at a place: the sum of wi and the sum of i·wi, i from 1, each modulo 65,521; both sums begin at start
unfoldable pub checksum_of : ℕ → List ℕ → ℕ → Checksum
checksum_of start s at = record {
  plain = (start + total payload_words (λ i. u16_at s (at + 2 * i))) % check_modulus;
  weighted = (start + total payload_words (λ i. suc i * u16_at s (at + 2 * i))) % check_modulus;
}

-- block b has the check that its payload asks for; both sums of block b begin at start b
unfoldable pub block_right_from : (ℕ → ℕ) → List ℕ → ℕ → Bool
block_right_from start s b =
    eqb (u16_at s (block_bytes * b + payload_bytes)) (checksum_of (start b) s (block_bytes * b)).plain
    && eqb (u16_at s (block_bytes * b + payload_bytes + 2)) (checksum_of (start b) s (block_bytes * b)).weighted

-- where they begin: at the block's number
abbrev pub block_number : ℕ → ℕ
block_number b = b

abbrev pub block_right : List ℕ → ℕ → Bool
block_right = block_right_from block_number

-- the first block of draw i
abbrev pub block_of : ℕ → ℕ
block_of i = 1 + draw_blocks * i

-- the joined payloads of draw i
unfoldable pub draw_of : List ℕ → ℕ → List ℕ
draw_of s i = upto draw_blocks (λ j. take payload_bytes (drop (block_bytes * (block_of i + j)) s))

-- where in the file place p of draw i stands
abbrev pub file_offset : ℕ → ℕ → ℕ
file_offset i p = block_bytes * (block_of i + p / payload_bytes) + p % payload_bytes

-- the first n bytes of two lists are the same
abbrev pub same_to : List ℕ → List ℕ → ℕ → Bool
same_to a b zero = true
same_to a b (suc n) = same_to a b n && eqb (get_or a n 0) (get_or b n 0)

-- two draws have the same 2,032 bytes
unfoldable pub same_draw : List ℕ → List ℕ → Bool
same_draw a b = same_to a b draw_bytes
