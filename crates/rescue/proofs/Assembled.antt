-- A scene put together anew: block 0 of an accepted front, then other blocks for each of its draws; and with fresh checks from the draws' bytes.
use mathlib.Core.Path.{◌≡◌, refl, sym, ap, ap₂, ◌∙◌}
use mathlib.Core.List.{List, ◌++◌}
use mathlib.Core.Bool.{Bool, true}
use Prim.Native.Nat.{ℕ, zero, suc, ◌+◌, ◌*◌, ◌≤◌, ◌<◌}
use native.Mathlib.Omega.{arith}
use lib.ListN.{length, get_or, take, drop, length-append, length-drop}
use lib.Seq.{get_or-take, length-take-le, take_at, drop_at, take_all, take-take}
use lib.Dec.{eqb, leb}
use Rattle.lists.specs.Lists.{upto}
use Rattle.lists.proofs.Laws.{upto_same}
use Rattle.scene.specs.Layout.{block_bytes, payload_bytes, draw_blocks, draw_bytes, draw_limit, new_edition}
use Rattle.scene.specs.Layout.{width_at, height_at, count_at, edition_at, header_end}
use Rattle.scene.specs.Blocks.{block_number, block_of, draw_of}
use Rattle.scene.specs.Header.{width_of, height_of, count_of, edition_of}
use Rattle.std.specs.Prelude.{Result, Ok}
use Rattle.codes.specs.First.{first_of, first_among}
use Rattle.scene.specs.Faults.{must, unused}
use Rattle.scene.specs.Rules.{is_side, header_rules, draw_rules, in_draw, told_by, draw_fault, scene_fault}
use Rattle.scene.specs.declared.FieldFault.{FieldFault}
use Rattle.scene.specs.declared.Fault.{Fault}
use Rattle.scene.proofs.Accepted.{passed}
use Rattle.scene.proofs.Verdicts.{by_draws}
use Rattle.scene.proofs.Places.{passes_at, block_alone}
use Rattle.rescue.specs.Fresh.{fresh_block, fresh_draw, with_blocks, assembled}
use Rattle.rescue.specs.Salvaged.{draw_span, blocks_of}
use Rattle.rescue.proofs.Chunks.{parts_join, joined_length, chunk}
use Rattle.rescue.proofs.Codes.{right, by_rules}
use Rattle.rescue.proofs.Sealed.{fresh_length, payload_back, fresh_passes}
use Rattle.rescue.proofs.Spans.{from_first, draw_of_blocks, check_of_blocks}
use Rattle.rescue.proofs.Parts.{Front}

-- ---- no fault among n
none_met : (f : ℕ → Result Unit Fault) (n : ℕ) → ((i : ℕ) → i < n → f i ≡ Ok tt) → first_among n f ≡ Ok tt
none_met f zero h = refl
none_met f (suc n) h = rw (none_met f n (λ i l. h i (omega arith))) (h n (omega arith))

same_first : (f g : ℕ → Result Unit FieldFault) (n : ℕ) → ((i : ℕ) → i < n → f i ≡ g i) → first_among n f ≡ first_among n g
same_first f g zero h = refl
same_first f g (suc n) h = rw (same_first f g n (λ i l. h i (omega arith)), h n (omega arith))

-- a scene whose front is right passes if each draw does
pub passes : (lent : Bool) (s : List ℕ) → Front s → ((i : ℕ) → i < count_of s → draw_fault lent s i ≡ Ok tt) → scene_fault lent s ≡ Ok tt
passes lent s front draws =
    by_draws lent s front.whole front.first front.header front.bytes
    ∙ none_met (draw_fault lent s) (count_of s) draws

-- and one that passes has a right front
pub front_accepted : (lent : Bool) (s : List ℕ) → scene_fault lent s ≡ Ok tt → Front s
front_accepted lent s h =
    let p = passed block_number lent s h in
    record { whole = p.whole; first = p.first; header = p.header; bytes = p.bytes }

-- ---- two scenes with the same block 0

-- block 0's rules, by its fields and what comes of the bytes behind them
abbrev by_fields : ℕ → ℕ → ℕ → ℕ → Result Unit FieldFault → Result Unit FieldFault
by_fields w h n e rest =
    first_of (must (is_side w) width_at)
    (first_of (must (is_side h) height_at)
    (first_of (must (leb n draw_limit) count_at)
    (first_of (must (leb e new_edition) edition_at) rest)))

module _ (s t : List ℕ) (same : take block_bytes t ≡ take block_bytes s) where
  pub byte_same : (p : ℕ) → p < block_bytes → get_or t p 0 ≡ get_or s p 0
  byte_same p l = sym (get_or-take block_bytes t p 0 l) ∙ ap (λ (x : List ℕ). get_or x p 0) same ∙ get_or-take block_bytes s p 0 l

  pub word_same : (p : ℕ) → p < 511 → get_or t p 0 + get_or t (p + 1) 0 * 256 ≡ get_or s p 0 + get_or s (p + 1) 0 * 256
  word_same p l = ap₂ (λ (x y : ℕ). x + y * 256) (byte_same p (omega arith)) (byte_same (p + 1) (omega arith))

  pub count_same : count_of t ≡ count_of s
  count_same = word_same 4 (omega arith)

  pub edition_same : edition_of t ≡ edition_of s
  edition_same = word_same 6 (omega arith)

  rest_same : unused t header_end payload_bytes ≡ unused s header_end payload_bytes
  rest_same =
      same_first (λ i. must (eqb (get_or t (header_end + i) 0) 0) (header_end + i)) (λ i. must (eqb (get_or s (header_end + i) 0) 0) (header_end + i)) 496
      (λ i l. ap (λ (x : ℕ). must (eqb x 0) (header_end + i)) (byte_same (header_end + i) (omega arith)))

  rules_same : header_rules t ≡ header_rules s
  unfolding header_rules
  rules_same =
      ap₂ (λ (w h : ℕ). by_fields w h (count_of t) (edition_of t) (unused t header_end payload_bytes)) (word_same 0 (omega arith)) (word_same 2 (omega arith))
      ∙ ap₂ (λ (n e : ℕ). by_fields (width_of s) (height_of s) n e (unused t header_end payload_bytes)) count_same edition_same
      ∙ ap (by_fields (width_of s) (height_of s) (count_of s) (edition_of s)) rest_same

  -- and of the same length: the front is right in both
  pub front_same : length t ≡ length s → Front s → Front t
  front_same e front = record {
    whole = rw e front.whole;
    first = block_alone block_number t 0 ∙ ap (passes_at 0) same ∙ sym (block_alone block_number s 0) ∙ front.first;
    header = rules_same ∙ front.header;
    bytes = e ∙ front.bytes ∙ ap (λ (n : ℕ). block_bytes * block_of n) (sym count_same);
  }

-- ---- other blocks for each draw
module _ (s : List ℕ) (front : Front s) (blocks : ℕ → List ℕ) (wide : (i : ℕ) → i < count_of s → length (blocks i) ≡ draw_span) where
  first_length : length (take block_bytes s) ≡ block_bytes
  first_length = length-take-le block_bytes s (omega (arith, front.bytes))

  -- block 0 is the same in each byte
  pub first_block : take block_bytes (with_blocks s blocks) ≡ take block_bytes s
  unfolding with_blocks
  first_block = take_at (take block_bytes s) (upto (count_of s) blocks) block_bytes first_length

  pub same_length : length (with_blocks s blocks) ≡ length s
  unfolding with_blocks
  same_length =
      length-append (take block_bytes s) (upto (count_of s) blocks)
      ∙ ap₂ (λ (x y : ℕ). x + y) first_length (joined_length draw_span blocks (count_of s) wide)
      ∙ omega (arith, front.bytes)

  pub front_kept : Front (with_blocks s blocks)
  front_kept = front_same s (with_blocks s blocks) first_block same_length front

  -- the blocks of each draw are those that were given
  pub blocks_there : (i : ℕ) → i < count_of s → blocks_of (with_blocks s blocks) i ≡ blocks i
  unfolding with_blocks
  blocks_there i l =
      from_first (take block_bytes s ++ upto (count_of s) blocks) i
      ∙ ap (λ (x : List ℕ). take draw_span (drop (draw_span * i) x)) (drop_at (take block_bytes s) (upto (count_of s) blocks) block_bytes first_length)
      ∙ chunk draw_span blocks (count_of s) wide i l

  pub draw_there : (i : ℕ) → i < count_of s → block_bytes * block_of (i + 1) ≤ length (with_blocks s blocks)
  draw_there i l = let b = front.bytes in rw same_length (omega (arith, b))

  -- it passes if each draw does
  pub blocks_pass : (lent : Bool) → ((i : ℕ) → i < count_of s → draw_fault lent (with_blocks s blocks) i ≡ Ok tt)
      → scene_fault lent (with_blocks s blocks) ≡ Ok tt
  blocks_pass lent draws =
      passes lent (with_blocks s blocks) front_kept (λ i l. draws i (rw (count_same s (with_blocks s blocks) first_block) at l))

-- ---- a draw with fresh checks
module _ (i : ℕ) (d : List ℕ) (whole : length d ≡ draw_bytes) where
  payload_length : (j : ℕ) → j < draw_blocks → length (take payload_bytes (drop (payload_bytes * j) d)) ≡ payload_bytes
  payload_length j l = length-take-le payload_bytes (drop (payload_bytes * j) d) (rw length-drop (omega arith))

  block_length : (j : ℕ) → j < draw_blocks → length (fresh_block (block_of i + j) (take payload_bytes (drop (payload_bytes * j) d))) ≡ block_bytes
  block_length j l = fresh_length (block_of i + j) (take payload_bytes (drop (payload_bytes * j) d)) (payload_length j l)

  pub draw_length : length (fresh_draw i d) ≡ draw_span
  unfolding fresh_draw
  draw_length = joined_length block_bytes (λ j. fresh_block (block_of i + j) (take payload_bytes (drop (payload_bytes * j) d))) draw_blocks block_length

  block_is : (j : ℕ) → j < draw_blocks
      → take block_bytes (drop (block_bytes * j) (fresh_draw i d)) ≡ fresh_block (block_of i + j) (take payload_bytes (drop (payload_bytes * j) d))
  unfolding fresh_draw
  block_is = chunk block_bytes (λ j. fresh_block (block_of i + j) (take payload_bytes (drop (payload_bytes * j) d))) draw_blocks block_length

  -- in a scene
  module _ (t : List ℕ) (there : block_bytes * block_of (i + 1) ≤ length t) (stands : blocks_of t i ≡ fresh_draw i d) where
    checks_right : (j : ℕ) → j < draw_blocks → right t i j ≡ true
    checks_right j l =
        check_of_blocks t i there j l
        ∙ ap (passes_at (block_of i + j)) (ap (λ (x : List ℕ). take block_bytes (drop (block_bytes * j) x)) stands ∙ block_is j l)
        ∙ fresh_passes (block_of i + j) (take payload_bytes (drop (payload_bytes * j) d)) (payload_length j l)

    -- its bytes are read back
    pub bytes_back : draw_of t i ≡ d
    bytes_back =
        draw_of_blocks t i there
        ∙ upto_same draw_blocks (λ j. take payload_bytes (drop (block_bytes * j) (blocks_of t i))) (λ j. take payload_bytes (drop (payload_bytes * j) d))
        (λ j l.
        sym (take-take payload_bytes block_bytes (drop (block_bytes * j) (blocks_of t i)) (omega arith))
        ∙ ap (take payload_bytes) (ap (λ (x : List ℕ). take block_bytes (drop (block_bytes * j) x)) stands ∙ block_is j l)
        ∙ payload_back (block_of i + j) (take payload_bytes (drop (payload_bytes * j) d)) (payload_length j l))
        ∙ parts_join payload_bytes draw_blocks d
        ∙ take_all draw_bytes d (rw whole (omega arith))

    -- and its verdict is that of its bytes
    pub verdict_of_bytes : (lent : Bool) → draw_fault lent t i ≡ told_by (in_draw i) (draw_rules lent (edition_of t) d)
    verdict_of_bytes lent = by_rules t i lent checks_right ∙ rw bytes_back

-- ---- a scene put together with fresh checks
module _ (s : List ℕ) (front : Front s) (draws : ℕ → List ℕ) (wide : (i : ℕ) → i < count_of s → length (draws i) ≡ draw_bytes) where
  spans_wide : (i : ℕ) → i < count_of s → length (fresh_draw i (draws i)) ≡ draw_span
  spans_wide i l = draw_length i (draws i) (wide i l)

  abbrev spans : ℕ → List ℕ
  spans i = fresh_draw i (draws i)

  -- block 0 is the same in each byte, and what it says too
  pub assembled_first : take block_bytes (assembled s draws) ≡ take block_bytes s
  unfolding assembled
  assembled_first = first_block s front spans spans_wide

  pub assembled_length : length (assembled s draws) ≡ length s
  unfolding assembled
  assembled_length = same_length s front spans spans_wide

  pub assembled_count : count_of (assembled s draws) ≡ count_of s
  assembled_count = count_same s (assembled s draws) assembled_first

  pub assembled_edition : edition_of (assembled s draws) ≡ edition_of s
  assembled_edition = edition_same s (assembled s draws) assembled_first

  pub assembled_front : Front (assembled s draws)
  assembled_front = front_same s (assembled s draws) assembled_first assembled_length front

  -- the bytes of each draw are read back
  pub assembled_draw : (i : ℕ) → i < count_of s → draw_of (assembled s draws) i ≡ draws i
  unfolding assembled
  assembled_draw i l =
      bytes_back i (draws i) (wide i l) (with_blocks s spans) (draw_there s front spans spans_wide i l) (blocks_there s front spans spans_wide i l)

  -- it passes if the bytes of each draw keep the draw's rules, in the edition of s
  pub assembled_passes : (lent : Bool) → ((i : ℕ) → i < count_of s → draw_rules lent (edition_of s) (draws i) ≡ Ok tt)
      → scene_fault lent (assembled s draws) ≡ Ok tt
  unfolding assembled
  assembled_passes lent kept =
      blocks_pass s front spans spans_wide lent
      (λ i l.
      verdict_of_bytes i (draws i) (wide i l) (with_blocks s spans) (draw_there s front spans spans_wide i l) (blocks_there s front spans spans_wide i l) lent
      ∙ rw (edition_same s (with_blocks s spans) (first_block s front spans spans_wide), kept i l))
