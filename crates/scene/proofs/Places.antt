-- Blocks out of place: a block passes at one number only, and what follows for files.
use mathlib.Core.Path.{◌≡◌, refl, sym, ap, ap₂, ◌∙◌}
use mathlib.Core.List.{List}
use mathlib.Core.Bool.{Bool, true, false, ◌&&◌}
use Prim.Native.Nat.{ℕ, suc, ◌+◌, ◌*◌, ◌-◌, ◌/◌, ◌%◌, ◌≤◌, ◌<◌}
use native.Mathlib.Omega.{arith}
use lib.ListN.{get_or, take, drop}
use lib.Seq.{get_or-take, get_or-drop}
use lib.Dec.{eqb}
use borrow.Author.Tests.{eqb-true, eqb-false}
use Rattle.std.specs.Prelude.{Ok, Err}
use Rattle.codes.specs.declared.Code.TheVariants.{BadChecksum}
use Rattle.codes.specs.First.{first_among}
use Rattle.codes.proofs.Judged.{both_accept, all_accept, refuse_turn}
use Rattle.lists.specs.Lists.{total}
use Rattle.lists.proofs.Laws.{total_same}
use Rattle.rect.proofs.Laws.{both, either}
use Rattle.fixed.specs.Little.{u16_at}
use Rattle.scene.specs.Layout.{block_bytes, payload_bytes, payload_words, check_modulus, draw_blocks}
use Rattle.scene.specs.Blocks.{checksum_of, block_number, block_right_from, block_right, block_of, draw_of}
use Rattle.scene.specs.Header.{count_of, edition_of}
use Rattle.scene.specs.Faults.{fault, demand}
use Rattle.scene.specs.Rules.{draw_rules, in_draw, told_by, check_faults_from, draw_fault_from, draw_fault, scene_fault_from, scene_fault}
use Rattle.scene.specs.declared.Fault.{Fault}
use Rattle.scene.proofs.Accepted.{met, passed, header_count}
use Rattle.scene.proofs.Verdicts.{by_draws}

-- the 512 bytes of block b
abbrev pub block_at : List ℕ → ℕ → List ℕ
block_at s b = take block_bytes (drop (block_bytes * b) s)

-- the bytes k of a block have the check that number n asks for
abbrev pub passes_at : ℕ → List ℕ → Bool
passes_at n k = block_right_from (λ _. n) k 0

-- ---- a block of a file is judged by its own bytes and its number
module _ (start : ℕ → ℕ) (s : List ℕ) (b : ℕ) where
  byte : (i j : ℕ) → i < block_bytes → j ≡ block_bytes * b + i → get_or s j 0 ≡ get_or (block_at s b) i 0
  byte i j l e = ap (λ (x : ℕ). get_or s x 0) e ∙ sym (get_or-drop (block_bytes * b) s i 0) ∙ sym (get_or-take block_bytes (drop (block_bytes * b) s) i 0 l)

  word : (i j : ℕ) → i < 511 → j ≡ block_bytes * b + i → u16_at s j ≡ u16_at (block_at s b) i
  word i j l e = ap₂ (λ (x y : ℕ). x + y * 256) (byte i j (omega arith) e) (byte (i + 1) (j + 1) (omega arith) (omega arith))

  check_same : checksum_of (start b) s (block_bytes * b) ≡ checksum_of (start b) (block_at s b) 0
  unfolding checksum_of
  check_same =
      ap₂ (λ (x y : ℕ). record { plain = (start b + x) % check_modulus; weighted = (start b + y) % check_modulus })
      (total_same payload_words (λ i. u16_at s (block_bytes * b + 2 * i)) (λ i. u16_at (block_at s b) (0 + 2 * i)) term)
      (total_same payload_words (λ i. suc i * u16_at s (block_bytes * b + 2 * i)) (λ i. suc i * u16_at (block_at s b) (0 + 2 * i))
      (λ i l. ap (λ (x : ℕ). suc i * x) (term i l)))
    where
      term : (i : ℕ) → i < payload_words → u16_at s (block_bytes * b + 2 * i) ≡ u16_at (block_at s b) (0 + 2 * i)
      term i l = word (0 + 2 * i) (block_bytes * b + 2 * i) (omega arith) (omega arith)

  pub block_alone : block_right_from start s b ≡ passes_at (start b) (block_at s b)
  unfolding block_right_from
  block_alone =
      ap₂ ◌&&◌
      (ap₂ eqb (word payload_bytes (block_bytes * b + payload_bytes) (omega arith) refl) (ap (λ c. c.plain) check_same))
      (ap₂ eqb (word (payload_bytes + 2) (block_bytes * b + payload_bytes + 2) (omega arith) (omega arith)) (ap (λ c. c.weighted) check_same))

-- ---- the number is told by the check, modulo 65,521
module _ (k : List ℕ) (a b : ℕ) where
  abbrev sum : ℕ
  sum = total payload_words (λ i. u16_at k (0 + 2 * i))

  stored : (n : ℕ) → passes_at n k ≡ true → u16_at k payload_bytes ≡ (n + sum) % check_modulus
  unfolding block_right_from checksum_of
  stored n h = eqb-true _ _ (both _ _ h).0

  pub one_residue : passes_at a k ≡ true → passes_at b k ≡ true → a % check_modulus ≡ b % check_modulus
  one_residue p q = residue sum (sym (stored a p) ∙ stored b q)
    where
      residue : (t : ℕ) → (a + t) % check_modulus ≡ (b + t) % check_modulus → a % check_modulus ≡ b % check_modulus
      residue t e = omega arith

  pub one_number : a < check_modulus → b < check_modulus → passes_at a k ≡ true → passes_at b k ≡ true → a ≡ b
  one_number l m p q = let e = one_residue p q in omega arith

  -- and no more: numbers that are the same modulo 65,521 ask for the same check
  pub same_residue : a % check_modulus ≡ b % check_modulus → passes_at a k ≡ passes_at b k
  unfolding block_right_from checksum_of
  same_residue e =
      ap₂ ◌&&◌
      (ap (eqb (u16_at k payload_bytes)) (begun sum))
      (ap (eqb (u16_at k (payload_bytes + 2))) (begun (total payload_words (λ i. suc i * u16_at k (0 + 2 * i)))))
    where
      begun : (t : ℕ) → (a + t) % check_modulus ≡ (b + t) % check_modulus
      begun t = omega arith

-- ---- every block of an accepted file is right
module _ (start : ℕ → ℕ) (lent : Bool) (s : List ℕ) where
  draw_block : (i j : ℕ) → j < draw_blocks → draw_fault_from start lent s i ≡ Ok tt → block_right_from start s (block_of i + j) ≡ true
  unfolding draw_fault_from check_faults_from
  draw_block i j l h =
      let right : ℕ → Bool = λ k. block_right_from start s (block_of i + k) in
      let wrong : ℕ → Fault = λ k. fault BadChecksum i (block_bytes * (block_of i + k) + payload_bytes) in
      met (right j) (wrong j)
      (all_accept (λ k. demand (right k) (wrong k)) draw_blocks
      (both_accept (first_among draw_blocks (λ k. demand (right k) (wrong k))) (told_by (in_draw i) (draw_rules lent (edition_of s) (draw_of s i))) h).0 j l)

  pub accepted_blocks : scene_fault_from start lent s ≡ Ok tt → (b : ℕ) → b < block_of (count_of s) → block_right_from start s b ≡ true
  accepted_blocks h b l =
      either (eqb b 0)
      (λ z. rw (eqb-true b 0 z) (passed start lent s h).first)
      (λ z.
      let n : b ≡ 0 → ⊥ = eqb-false b 0 z in
      let e : block_of ((b - 1) / 4) + (b - 1) % 4 ≡ b = omega arith in
      rw (← e) (draw_block ((b - 1) / 4) ((b - 1) % 4) (omega arith) ((passed start lent s h).draws ((b - 1) / 4) (omega arith))))

-- ---- the same 512 bytes in two files, or twice in one, at the numbers a and b
module _ (s t : List ℕ) (a b : ℕ) (same : block_at s a ≡ block_at t b) where
  pub block_in_one_place : a < check_modulus → b < check_modulus → block_right s a ≡ true → block_right t b ≡ true → a ≡ b
  block_in_one_place l m p q =
      one_number (block_at t b) a b l m
      (ap (passes_at a) (sym same) ∙ sym (block_alone block_number s a) ∙ p)
      (sym (block_alone block_number t b) ∙ q)

  -- in accepted scenes, with or without a mask, they stand in the same place: no file with a block of an accepted one at another number is accepted
  pub accepted_in_place : (masked masked' : Bool) → scene_fault masked s ≡ Ok tt → scene_fault masked' t ≡ Ok tt
      → a < block_of (count_of s) → b < block_of (count_of t) → a ≡ b
  accepted_in_place masked masked' g h l m =
      let x = header_count s (passed block_number masked s g).header in
      let y = header_count t (passed block_number masked' t h).header in
      block_in_one_place (omega arith) (omega arith) (accepted_blocks block_number masked s g a l) (accepted_blocks block_number masked' t h b m)

-- ---- files from before, when all sums began at 0

-- block 0 reads as before
pub first_block_as_before : (s : List ℕ) → block_right s 0 ≡ block_right_from (λ _. 0) s 0
unfolding block_right_from
first_block_as_before s = refl

-- a scene that was accepted then and that has draws is refused at the check of block 1
module _ (lent : Bool) (s : List ℕ) (old : scene_fault_from (λ _. 0) lent s ≡ Ok tt) (drawn : 1 ≤ count_of s) where
  block_1_wrong : block_right s 1 ≡ false
  block_1_wrong =
      either (block_right s 1)
      (λ r.
      let from-0 = sym (block_alone (λ _. 0) s 1) ∙ accepted_blocks (λ _. 0) lent s old 1 (omega arith) in
      let from-1 = sym (block_alone block_number s 1) ∙ r in
      let e : 0 ≡ 1 = one_number (block_at s 1) 0 1 (omega arith) (omega arith) from-0 from-1 in
      absurd (omega arith))
      (λ r. r)

  draw_0_refused : draw_fault lent s 0 ≡ Err (fault BadChecksum 0 (block_bytes + payload_bytes))
  unfolding draw_fault_from check_faults_from
  draw_0_refused = rw block_1_wrong

  pub old_scene_refused : scene_fault lent s ≡ Err (fault BadChecksum 0 (block_bytes + payload_bytes))
  old_scene_refused =
      let p = passed (λ _. 0) lent s old in
      by_draws lent s p.whole (first_block_as_before s ∙ p.first) p.header p.bytes
      ∙ refuse_turn (draw_fault lent s) 0 (count_of s) _ drawn refl draw_0_refused
