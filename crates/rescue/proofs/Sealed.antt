-- A block with a fresh check.
use mathlib.Core.Path.{◌≡◌, refl, sym, ap, ap₂, ◌∙◌}
use mathlib.Core.Bool.{true, ◌&&◌}
use mathlib.Core.List.{List, [], ◌∷◌, ◌++◌, append_assoc, append-nil}
use Rattle.std.specs.Int.{to_le_bytes, w16}
use Prim.Native.Nat.{ℕ, suc, ◌+◌, ◌*◌, ◌/◌, ◌%◌, ◌<◌}
use native.Mathlib.Omega.{arith}
use lib.ListN.{length, get_or, take, drop, length-append, length-drop}
use lib.Seq.{get_or-take, get_or-append-add, length-take-le, take_at, drop_at, drop-length}
use lib.Dec.{eqb}
use borrow.Author.Tests.{eq-eqb}
use Rattle.lists.proofs.Laws.{total_same}
use Rattle.fixed.specs.Little.{u16_at}
use Rattle.scene.specs.declared.Checksum.{Checksum}
use Rattle.scene.specs.Layout.{block_bytes, payload_bytes, payload_words, check_modulus}
use Rattle.scene.specs.Blocks.{checksum_of, block_right_from}
use Rattle.scene.proofs.Places.{passes_at}
use Rattle.rescue.specs.Fresh.{word, check_bytes, fresh_block}

pub fresh_length : (b : ℕ) (p : List ℕ) → length p ≡ payload_bytes → length (fresh_block b p) ≡ block_bytes
unfolding fresh_block
fresh_length b p e = length-append p (check_bytes (checksum_of b p 0)) ∙ rw e

-- ---- a block that is sealed where it stands
check_of_part : (start : ℕ) (s : List ℕ) → checksum_of start s 0 ≡ checksum_of start (take payload_bytes s) 0
unfolding checksum_of
check_of_part start s =
    ap₂ (λ (x y : ℕ). record { plain = (start + x) % check_modulus; weighted = (start + y) % check_modulus })
    (total_same payload_words (λ i. u16_at s (0 + 2 * i)) (λ i. u16_at (take payload_bytes s) (0 + 2 * i)) part)
    (total_same payload_words (λ i. suc i * u16_at s (0 + 2 * i)) (λ i. suc i * u16_at (take payload_bytes s) (0 + 2 * i))
    (λ i l. ap (λ (x : ℕ). suc i * x) (part i l)))
  where
    part : (i : ℕ) → i < payload_words → u16_at s (0 + 2 * i) ≡ u16_at (take payload_bytes s) (0 + 2 * i)
    part i l =
        ap₂ (λ (x y : ℕ). x + y * 256) (sym (get_or-take payload_bytes s (0 + 2 * i) 0 (omega arith)))
        (sym (get_or-take payload_bytes s (0 + 2 * i + 1) 0 (omega arith)))

-- two bytes stored, and two after them
two_stored : (s p q : List ℕ) → length s ≡ 512 → length p ≡ 2
    → take 510 (take 508 s ++ (p ++ drop 2 (drop 508 s))) ++ (q ++ drop 2 (drop 510 (take 508 s ++ (p ++ drop 2 (drop 508 s)))))
    ≡ take 508 s ++ (p ++ q)
two_stored s p q e m =
    let r = drop 2 (drop 508 s) in
    let w : length (take 508 s ++ p) ≡ 510 = length-append (take 508 s) p ∙ rw (length-take-le 508 s (omega arith), m) in
    let none : drop 2 r ≡ [] = gone r (simp length-drop (omega arith)) in
    rw (← append_assoc (take 508 s) p r, take_at (take 508 s ++ p) r 510 w, drop_at (take 508 s ++ p) r 510 w, none, append-nil, append_assoc)
  where
    gone : (l : List ℕ) → length l ≡ 2 → drop 2 l ≡ []
    gone l k = rw (← k) (drop-length l)

-- a number's two bytes
word_told : (n : ℕ) → n < 65536 → to_le_bytes w16 n ≡ word n
word_told n l = ap₂ (λ (x y : ℕ). x ∷ y ∷ []) (omega arith) (omega arith)

sums_small : (b : ℕ) (s : List ℕ) → ((checksum_of b s 0).plain < 65536) × ((checksum_of b s 0).weighted < 65536)
unfolding checksum_of
sums_small b s = (omega arith, omega arith)

pub sealed : (b : ℕ) (s p q : List ℕ) (k : Checksum) → length s ≡ block_bytes → k ≡ checksum_of b s 0
    → p ≡ to_le_bytes w16 k.plain → q ≡ to_le_bytes w16 k.weighted
    → take 510 (take 508 s ++ (p ++ drop 2 (drop 508 s))) ++ (q ++ drop 2 (drop 510 (take 508 s ++ (p ++ drop 2 (drop 508 s)))))
    ≡ fresh_block b (take payload_bytes s)
unfolding fresh_block
sealed b s p q k e h f g =
    let small = sums_small b s in
    let a : p ≡ word k.plain = f ∙ word_told k.plain (rw h small.0) in
    let c : q ≡ word k.weighted = g ∙ word_told k.weighted (rw h small.1) in
    two_stored s p q e (ap length a)
    ∙ ap₂ (λ (x y : List ℕ). take payload_bytes s ++ (x ++ y)) a c
    ∙ ap (λ (c : Checksum). take payload_bytes s ++ check_bytes c) (h ∙ check_of_part b s)

-- ---- it has its check, and its payload is what it was made from
module _ (b : ℕ) (p : List ℕ) (wide : length p ≡ payload_bytes) where
  pub payload_back : take payload_bytes (fresh_block b p) ≡ p
  unfolding fresh_block
  payload_back = take_at p (check_bytes (checksum_of b p 0)) payload_bytes wide

  stored : (i j : ℕ) → j ≡ payload_bytes + i → get_or (fresh_block b p) j 0 ≡ get_or (check_bytes (checksum_of b p 0)) i 0
  unfolding fresh_block
  stored i j e =
      let g : j ≡ length p + i = omega arith in
      ap (λ (x : ℕ). get_or (p ++ check_bytes (checksum_of b p 0)) x 0) g ∙ get_or-append-add p (check_bytes (checksum_of b p 0)) i 0

  joined : (n : ℕ) → n % 256 + n / 256 * 256 ≡ n
  joined n = omega arith

  pub fresh_passes : passes_at b (fresh_block b p) ≡ true
  unfolding block_right_from
  fresh_passes =
      let k = checksum_of b p 0 in
      let same : checksum_of b (fresh_block b p) 0 ≡ k = check_of_part b (fresh_block b p) ∙ ap (λ (x : List ℕ). checksum_of b x 0) payload_back in
      let plain : u16_at (fresh_block b p) 508 ≡ k.plain
      = ap₂ (λ (x y : ℕ). x + y * 256) (stored 0 508 refl) (stored 1 509 refl) ∙ joined k.plain in
      let weighted : u16_at (fresh_block b p) 510 ≡ k.weighted
      = ap₂ (λ (x y : ℕ). x + y * 256) (stored 2 510 refl) (stored 3 511 refl) ∙ joined k.weighted in
      ap₂ ◌&&◌
      (ap₂ eqb plain (ap (λ (c : Checksum). c.plain) same) ∙ eq-eqb k.plain k.plain refl)
      (ap₂ eqb weighted (ap (λ (c : Checksum). c.weighted) same) ∙ eq-eqb k.weighted k.weighted refl)
