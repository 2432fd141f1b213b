-- The parts of a salvaged scene, and what is left of the places that are lent.
use mathlib.Core.Path.{◌≡◌, refl, ap, ap₂, ◌∙◌}
use mathlib.Core.List.{List, [], ◌++◌, append-nil}
use mathlib.Core.Bool.{true, false, ◌&&◌}
use Prim.Native.Nat.{ℕ, ◌+◌, ◌*◌, ◌%◌, ◌≤◌}
use native.Mathlib.Omega.{arith}
use lib.ListN.{length, take, drop, length-drop}
use lib.Seq.{take_at, drop_at, drop-length}
use lib.Dec.{eqb, leb}
use borrow.Author.Tests.{eq-eqb, ne_eqb, eqb-true, leb-true, le-leb}
use Rattle.std.specs.Prelude.{Result, Ok, Err, is_ok}
use Rattle.lists.specs.Lists.{upto, over}
use Rattle.codes.specs.declared.Code.{Code}
use Rattle.codes.specs.declared.Code.TheVariants.{BadLength, BadChecksum, OutOfMemory}
use Rattle.codes.specs.First.{first_of}
use Rattle.codes.specs.Number.{number_of}
use Rattle.codes.proofs.Judged.{both_accept}
use Rattle.rect.proofs.Laws.{both}
use Rattle.scene.specs.Layout.{block_bytes, draw_limit}
use Rattle.scene.specs.Blocks.{block_right, block_of}
use Rattle.scene.specs.Header.{count_of}
use Rattle.scene.specs.Faults.{demand}
use Rattle.scene.specs.Rules.{told_by, header_rules, draw_fault}
use Rattle.scene.specs.declared.Fault.{Fault}
use Rattle.scene.proofs.Accepted.{met, told_none, header_count}
use Rattle.rescue.specs.Fresh.{fresh_draw, empty_draw, with_blocks}
use Rattle.rescue.specs.Salvaged.{draw_code, draw_span, salvaged_draw, salvaged_scene, replaced_to}
use Rattle.rescue.specs.Salvaged.{front_verdict, salvage_verdict, answer_of, written}
use Rattle.rescue.proofs.Verdicts.{no_zero, accepts, ok_told, err_told}

-- ---- a draw's blocks
module _ (s : List ℕ) (i : ℕ) where
  pub kept_blocks : (m : ℕ) → draw_code s i ≡ 0 → m ≡ draw_span → take m (drop (block_bytes * block_of i) s) ≡ salvaged_draw s i
  unfolding salvaged_draw
  kept_blocks m h e = rw (eq-eqb (draw_code s i) 0 h, e)

  pub empty_blocks : (draw_code s i ≡ 0 → ⊥) → fresh_draw i empty_draw ≡ salvaged_draw s i
  unfolding salvaged_draw
  empty_blocks h = rw (ne_eqb (draw_code s i) 0 h)

  -- its code, from its judgement
  pub kept : draw_fault true s i ≡ Ok tt → draw_code s i ≡ 0
  unfolding draw_code
  kept h = rw h

  pub was_kept : draw_code s i ≡ 0 → draw_fault true s i ≡ Ok tt
  unfolding draw_code
  was_kept = accepts (λ f. f.code) (draw_fault true s i)

  pub refused : (f : Fault) → draw_fault true s i ≡ Err f → number_of f.code ≡ draw_code s i
  unfolding draw_code
  refused f h = rw h

  -- where it was asked whether it accepts
  pub kept_told : (r : Result Unit Fault) → r ≡ draw_fault true s i → is_ok r ≡ true → draw_code s i ≡ 0
  unfolding draw_code
  kept_told r e h = rw (← e) (ok_told (λ f. f.code) r h)

  pub refused_told : (r : Result Unit Fault) → r ≡ draw_fault true s i → is_ok r ≡ false → draw_code s i ≡ 0 → ⊥
  unfolding draw_code
  refused_told r e h = rw (← e) (err_told (λ f. f.code) r h)

-- ---- a list that is lent in two parts
module _ (o q r : List ℕ) (m w v : ℕ) (wide : length q ≡ 512) (whole : length o ≡ 512 + m) where
  pub two_parts : w ≡ 512 → v ≡ m
      → take 512 (take 0 o ++ (q ++ drop w (drop 0 o))) ++ (r ++ drop v (drop 512 (take 0 o ++ (q ++ drop w (drop 0 o))))) ≡ q ++ r
  two_parts e f =
      ap₂ (λ (x y : List ℕ). x ++ (r ++ drop v y)) (take_at q (drop w o) 512 wide) (drop_at q (drop w o) 512 wide)
      ∙ ap (λ (x : List ℕ). q ++ (r ++ x)) (gone (drop w o) v (length-drop w o ∙ omega arith))
      ∙ ap (λ (x : List ℕ). q ++ x) (append-nil r)
    where
      gone : (l : List ℕ) (k : ℕ) → length l ≡ k → drop k l ≡ []
      gone l k e = rw (← e) (drop-length l)

pub front_part : (o q : List ℕ) (w : ℕ) → w ≡ length q → take 0 o ++ (q ++ drop w (drop 0 o)) ≡ over q o
front_part o q w e = rw e

-- ---- what passes
pub record Front (s : List ℕ) : Type 0 where
  pub whole : (eqb (length s % block_bytes) 0 && leb block_bytes (length s)) ≡ true
  pub first : block_right s 0 ≡ true
  pub header : header_rules s ≡ Ok tt
  pub bytes : length s ≡ block_bytes * block_of (count_of s)

pub front_passed : (s : List ℕ) → front_verdict s ≡ Ok tt → Front s
unfolding front_verdict
front_passed s h =
    let full : Result Unit Code = demand (eqb (length s) (block_bytes * block_of (count_of s))) BadLength in
    let header : Result Unit Code = told_by (λ f. f.code) (header_rules s) in
    let check : Result Unit Code = demand (block_right s 0) BadChecksum in
    let p = both_accept (demand (eqb (length s % block_bytes) 0 && leb block_bytes (length s)) BadLength) (first_of check (first_of header full)) h in
    let q = both_accept check (first_of header full) p.1 in
    let r = both_accept header full q.1 in
    record {
      whole = met _ BadLength p.0;
      first = met _ BadChecksum q.0;
      header = told_none (λ f. f.code) (header_rules s) r.0;
      bytes = eqb-true _ _ (met _ BadLength r.1);
    }

pub front_sound : (s : List ℕ) → Front s → front_verdict s ≡ Ok tt
unfolding front_verdict
front_sound s f = rw (f.whole, f.first, f.header, eq-eqb (length s) (block_bytes * block_of (count_of s)) f.bytes)

pub record Allowed (s : List ℕ) (bytes : ℕ) : Type 0 where
  pub front : Front s
  pub long : block_bytes ≤ length s
  pub count : count_of s ≤ draw_limit
  pub room : length s ≤ bytes

pub call_allowed : (s : List ℕ) (bytes : ℕ) → salvage_verdict s bytes ≡ Ok tt → Allowed s bytes
unfolding salvage_verdict
call_allowed s bytes h =
    let p = both_accept (front_verdict s) (demand (leb (length s) bytes) OutOfMemory) h in
    let f = front_passed s p.0 in
    record {
      front = f;
      long = leb-true block_bytes (length s) (both (eqb (length s % block_bytes) 0) (leb block_bytes (length s)) f.whole).1;
      count = header_count s f.header;
      room = leb-true (length s) bytes (met _ OutOfMemory p.1);
    }

pub room : (s : List ℕ) (bytes : ℕ) → front_verdict s ≡ Ok tt → length s ≤ bytes → salvage_verdict s bytes ≡ Ok tt
unfolding salvage_verdict
room s bytes h l = rw (h, le-leb (length s) bytes l)

-- ---- what a call leaves
module _ (s : List ℕ) (bytes : ℕ) where
  pub refused_answer_lem : (k : Code) → salvage_verdict s bytes ≡ Err k → record { code = number_of k; replaced = 0 } ≡ answer_of s bytes
  unfolding answer_of
  refused_answer_lem k e = rw (e, no_zero k)

  pub salvaged_answer : (k : ℕ) → salvage_verdict s bytes ≡ Ok tt → k ≡ replaced_to s (count_of s) → record { code = 0; replaced = k } ≡ answer_of s bytes
  unfolding answer_of
  salvaged_answer k e q = rw (e, q)

-- nothing, where it is refused
pub nothing_written : (k : Code) (p before : List ℕ) → before ≡ written (number_of k) p before
unfolding written
nothing_written k p before = rw (no_zero k)

pub all_written : (p before : List ℕ) → over p before ≡ written 0 p before
unfolding written
all_written p before = refl

pub scene_parts : (s : List ℕ) (n : ℕ) → n ≡ count_of s → take block_bytes s ++ upto n (salvaged_draw s) ≡ salvaged_scene s
unfolding salvaged_scene with_blocks
scene_parts s n e = rw e
