-- The four blocks of a draw: what is read of them, and that the draw's verdict is theirs.
use mathlib.Core.Path.{◌≡◌, sym, ap, ◌∙◌}
use mathlib.Core.List.{List}
use mathlib.Core.Bool.{Bool}
use Prim.Native.Nat.{ℕ, ◌+◌, ◌*◌, ◌≤◌, ◌<◌}
use native.Mathlib.Omega.{arith}
use lib.ListN.{length, take, drop, length-drop}
use lib.Seq.{drop-drop}
use Rattle.lists.specs.Lists.{upto}
use Rattle.lists.proofs.Laws.{upto_same}
use Rattle.scene.specs.Layout.{block_bytes, payload_bytes, draw_blocks}
use Rattle.scene.specs.Blocks.{block_number, block_of, draw_of}
use Rattle.scene.specs.Header.{edition_of}
use Rattle.scene.specs.Rules.{check_faults_from, draw_fault_from, draw_fault}
use Rattle.scene.proofs.Places.{passes_at, block_alone}
use Rattle.rescue.specs.Salvaged.{draw_span, blocks_of}
use Rattle.rescue.proofs.Chunks.{within}
use Rattle.rescue.proofs.Codes.{right}

-- counted from the first draw's on
pub from_first : (s : List ℕ) (i : ℕ) → blocks_of s i ≡ take draw_span (drop (draw_span * i) (drop block_bytes s))
from_first s i =
    let e : block_bytes * block_of i ≡ block_bytes + draw_span * i = omega arith in
    ap (λ (k : ℕ). take draw_span (drop k s)) e ∙ ap (take draw_span) (sym (drop-drop (draw_span * i) block_bytes s))

module _ (s : List ℕ) (i : ℕ) (there : block_bytes * block_of (i + 1) ≤ length s) where
  -- the first bytes of one of them
  part_of_lem : (j n : ℕ) → j < draw_blocks → n ≤ block_bytes
      → take n (drop (block_bytes * (block_of i + j)) s) ≡ take n (drop (block_bytes * j) (blocks_of s i))
  part_of_lem j n l m =
      let e : block_bytes * (block_of i + j) ≡ block_bytes * block_of i + block_bytes * j = omega arith in
      ap (λ (k : ℕ). take n (drop k s)) e
      ∙ ap (take n) (sym (drop-drop (block_bytes * j) (block_bytes * block_of i) s))
      ∙ sym (within (drop (block_bytes * block_of i) s) (block_bytes * j) draw_span n (rw length-drop (omega arith)) (omega arith))

  -- a draw's bytes are read from them
  pub draw_of_blocks : draw_of s i ≡ upto draw_blocks (λ j. take payload_bytes (drop (block_bytes * j) (blocks_of s i)))
  unfolding draw_of
  draw_of_blocks =
      upto_same draw_blocks (λ j. take payload_bytes (drop (block_bytes * (block_of i + j)) s))
      (λ j. take payload_bytes (drop (block_bytes * j) (blocks_of s i)))
      (λ j l. part_of_lem j payload_bytes l (omega arith))

  -- and so is whether each of them has its check
  pub check_of_blocks : (j : ℕ) → j < draw_blocks → right s i j ≡ passes_at (block_of i + j) (take block_bytes (drop (block_bytes * j) (blocks_of s i)))
  check_of_blocks j l = block_alone block_number s (block_of i + j) ∙ ap (passes_at (block_of i + j)) (part_of_lem j block_bytes l (omega arith))

-- in two scenes of one edition
module _ (s t : List ℕ) (i : ℕ) (there : block_bytes * block_of (i + 1) ≤ length s) (there' : block_bytes * block_of (i + 1) ≤ length t)
    (same : blocks_of s i ≡ blocks_of t i) where
  pub draw_same : draw_of s i ≡ draw_of t i
  draw_same =
      draw_of_blocks s i there
      ∙ ap (λ (x : List ℕ). upto draw_blocks (λ j. take payload_bytes (drop (block_bytes * j) x))) same
      ∙ sym (draw_of_blocks t i there')

  pub verdict_same : (lent : Bool) → edition_of s ≡ edition_of t → draw_fault lent s i ≡ draw_fault lent t i
  unfolding draw_fault_from check_faults_from
  verdict_same lent e =
      let checks : (j : ℕ) → j < draw_blocks → right s i j ≡ right t i j
      = λ j l.
      check_of_blocks s i there j l
      ∙ ap (λ (x : List ℕ). passes_at (block_of i + j) (take block_bytes (drop (block_bytes * j) x))) same
      ∙ sym (check_of_blocks t i there' j l) in
      rw (checks 0 (omega arith), checks 1 (omega arith), checks 2 (omega arith), checks 3 (omega arith), e, draw_same)
