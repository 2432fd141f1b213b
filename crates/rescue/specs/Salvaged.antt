-- A salvaged scene: which draws are replaced, its bytes, the list, and what is refused.
use Rattle.std.specs.Prelude.{ℕ, ◌*◌, ◌/◌, ◌%◌, List, [], ◌∷◌, Bool, true, cond, ◌&&◌, length, take, drop, eqb, leb, Result}
use Rattle.lists.specs.Lists.{upto, total, over}
use Rattle.codes.specs.Codes.{accepted_code}
use Rattle.codes.specs.First.{sooner, first_of}
use Rattle.codes.specs.Number.{number_told}
use Rattle.codes.specs.declared.Code.{Code}
use Rattle.codes.specs.declared.Code.TheVariants.{BadLength, BadChecksum, OutOfMemory}
use Rattle.scene.specs.Layout.{block_bytes, draw_blocks}
use Rattle.scene.specs.Blocks.{block_right, block_of}
use Rattle.scene.specs.Header.{count_of}
use Rattle.scene.specs.Faults.{demand}
use Rattle.scene.specs.Rules.{told_by, header_rules, draw_fault}
use Rattle.rescue.specs.Fresh.{fresh_draw, empty_draw, with_blocks}
use Rattle.rescue.specs.declared.Salvaged.{Salvaged}

-- the code of draw i, judged by itself: its four checks, then its rules, in the scene's edition; a mask counts as lent
unfoldable pub draw_code : List ℕ → ℕ → ℕ
draw_code s i = number_told (λ f. f.code) (draw_fault true s i)

abbrev pub is_kept : List ℕ → ℕ → Bool
is_kept s i = eqb (draw_code s i) accepted_code

-- a draw's four blocks, as they are
abbrev pub draw_span : ℕ
draw_span = block_bytes * draw_blocks

abbrev pub blocks_of : List ℕ → ℕ → List ℕ
blocks_of s i = take draw_span (drop (block_bytes * block_of i) s)

-- the blocks of draw i in the salvaged scene: as they are, or those of the empty draw
unfoldable pub salvaged_draw : List ℕ → ℕ → List ℕ
salvaged_draw s i = cond (is_kept s i) (blocks_of s i) (fresh_draw i empty_draw)

-- the salvaged scene: block 0 as it is, then the draws
unfoldable pub salvaged_scene : List ℕ → List ℕ
salvaged_scene s = with_blocks s (salvaged_draw s)

-- the replaced ones of the first n draws, in order: for each its number and its code
unfoldable pub listed_to : List ℕ → ℕ → List ℕ
listed_to s n = upto n (λ i. cond (is_kept s i) [] (i ∷ draw_code s i ∷ []))

-- how many they are
unfoldable pub replaced_to : List ℕ → ℕ → ℕ
replaced_to s n = total n (λ i. cond (is_kept s i) 0 1)

-- ---- what is refused

-- of two codes the first that is not 0
abbrev pub or_code : ℕ → ℕ → ℕ
or_code = sooner (λ c. c)

-- the scene rules up to the draws: whole blocks, block 0's check, its fields, the length that its count asks for
unfoldable pub front_verdict : List ℕ → Result Unit Code
front_verdict s =
    first_of (demand (eqb (length s % block_bytes) 0 && leb block_bytes (length s)) BadLength)
    (first_of (demand (block_right s 0) BadChecksum)
    (first_of (told_by (λ f. f.code) (header_rules s))
    (demand (eqb (length s) (block_bytes * block_of (count_of s))) BadLength)))

-- then a place that is too short for the scene
unfoldable pub salvage_verdict : List ℕ → ℕ → Result Unit Code
salvage_verdict s bytes = first_of (front_verdict s) (demand (leb (length s) bytes) OutOfMemory)

-- their codes
abbrev pub front_code : List ℕ → ℕ
front_code s = number_told (λ c. c) (front_verdict s)

abbrev pub salvage_code : List ℕ → ℕ → ℕ
salvage_code s bytes = number_told (λ c. c) (salvage_verdict s bytes)

unfoldable pub answer_of : List ℕ → ℕ → Salvaged
answer_of s bytes = record {
  code = salvage_code s bytes;
  replaced = cond (eqb (salvage_code s bytes) accepted_code) (replaced_to s (count_of s)) 0;
}

-- what stands in a place afterwards: its first elements are what is written, the others are as they were; nothing is written where it is refused
unfoldable pub written : ℕ → List ℕ → List ℕ → List ℕ
written code p before = cond (eqb code accepted_code) (over p before) before

-- a list is never too short: the first of the replaced draws are written, as many as a place of so many numbers has two for
unfoldable pub fitting : ℕ → List ℕ → List ℕ
fitting numbers l = take (2 * (numbers / 2)) l
