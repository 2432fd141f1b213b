-- What salvaging promises: the result passes the scene rules, with a mask lent; block 0 and the kept draws are the same in each byte; where nothing is
-- wrong the whole scene is the same and nothing is listed, so that salvaging a salvaged scene changes nothing.
use mathlib.Core.Path.{◌≡◌, refl, sym, ap, ap₂, ◌∙◌}
use mathlib.Core.Bool.{true}
use mathlib.Core.List.{List, [], ◌++◌, append-nil}
use Prim.Native.Nat.{ℕ, zero, suc, ◌+◌, ◌*◌, ◌≤◌, ◌<◌}
use native.Mathlib.Nat.{add-zero}
use native.Mathlib.Omega.{arith}
use lib.ListN.{length, take, drop, length-drop, take-append-drop}
use lib.Seq.{length-take-le, take_all}
use lib.Dec.{eqb}
use borrow.Author.Tests.{eqb-true, eqb-false, eq-eqb}
use Rattle.lists.proofs.Laws.{upto_same}
use Rattle.rect.proofs.Laws.{either}
use Rattle.std.specs.Prelude.{Ok}
use Rattle.codes.specs.Codes.{accepted_code}
use Rattle.color.specs.declared.Pixel.{Pixel}
use Rattle.scene.specs.Layout.{block_bytes}
use Rattle.scene.specs.Blocks.{block_number, block_of, draw_of}
use Rattle.scene.specs.Header.{count_of, edition_of}
use Rattle.scene.specs.Rules.{draw_fault, scene_fault}
use Rattle.scene.proofs.Accepted.{passed}
use Rattle.engine.specs.Picture.{draw_step}
use Rattle.rescue.specs.Fresh.{empty_draw, with_blocks}
use Rattle.rescue.specs.Salvaged.{draw_code, draw_span, blocks_of, salvaged_draw, salvaged_scene, listed_to, replaced_to, front_verdict, front_code, answer_of}
use Rattle.rescue.proofs.Chunks.{parts_join}
use Rattle.rescue.proofs.Verdicts.{accepts}
use Rattle.rescue.proofs.Parts.{Front, front_passed, front_sound, room, salvaged_answer, kept_blocks, empty_blocks, kept, was_kept}
use Rattle.rescue.proofs.Empty.{empty_length, empty_passes}
use Rattle.rescue.proofs.Spans.{from_first, draw_same, verdict_same}
use Rattle.rescue.proofs.Assembled.{front_accepted, edition_same, first_block, same_length, blocks_there, blocks_pass}
use Rattle.rescue.proofs.Assembled.{draw_there, draw_length, verdict_of_bytes}

-- ---- where no draw is refused
module _ (s : List ℕ) (right : (i : ℕ) → i < count_of s → draw_code s i ≡ 0) where
  -- the scene is the same
  pub nothing_wrong_same : Front s → salvaged_scene s ≡ s
  unfolding salvaged_scene with_blocks
  nothing_wrong_same front =
      ap (λ (x : List ℕ). take block_bytes s ++ x)
      (upto_same (count_of s) (salvaged_draw s) (λ i. take draw_span (drop (draw_span * i) (drop block_bytes s)))
      (λ i l. sym (kept_blocks s i draw_span (right i l) refl) ∙ from_first s i)
      ∙ parts_join draw_span (count_of s) (drop block_bytes s)
      ∙ take_all (draw_span * count_of s) (drop block_bytes s) (rw length-drop (omega (arith, front.bytes))))
      ∙ take-append-drop block_bytes s

  -- nothing is listed, nothing counted
  pub nothing_listed : (n : ℕ) → n ≤ count_of s → listed_to s n ≡ []
  unfolding listed_to
  nothing_listed zero l = refl
  nothing_listed (suc n) l = rw (eq-eqb (draw_code s n) 0 (right n l), append-nil) (nothing_listed n (omega arith))

  pub none_replaced : (n : ℕ) → n ≤ count_of s → replaced_to s n ≡ 0
  unfolding replaced_to
  none_replaced zero l = refl
  none_replaced (suc n) l = rw (eq-eqb (draw_code s n) 0 (right n l), add-zero) (none_replaced n (omega arith))

-- a scene that passes the scene rules, with a mask lent, is salvaged to itself
module _ (s : List ℕ) (h : scene_fault true s ≡ Ok tt) where
  accepted_right : (i : ℕ) → i < count_of s → draw_code s i ≡ 0
  accepted_right i l = kept s i ((passed block_number true s h).draws i l)

  pub accepted_same : salvaged_scene s ≡ s
  accepted_same = nothing_wrong_same s accepted_right (front_accepted true s h)

  pub accepted_answer_lem : (bytes : ℕ) → length s ≤ bytes → answer_of s bytes ≡ record { code = accepted_code; replaced = 0 }
  accepted_answer_lem bytes l =
      sym (salvaged_answer s bytes 0 (room s bytes (front_sound s (front_accepted true s h)) l)
      (sym (none_replaced s accepted_right (count_of s) (omega arith))))

  pub accepted_list : listed_to s (count_of s) ≡ []
  accepted_list = nothing_listed s accepted_right (count_of s) (omega arith)

-- ---- a salvaged scene
module _ (s : List ℕ) (sound : front_code s ≡ accepted_code) where
  front : Front s
  front = front_passed s (accepts (λ c. c) (front_verdict s) sound)

  wide : (i : ℕ) → i < count_of s → length (salvaged_draw s i) ≡ draw_span
  wide i l =
      either (eqb (draw_code s i) 0)
      (λ t.
      let e = front.bytes in
      sym (ap length (kept_blocks s i draw_span (eqb-true (draw_code s i) 0 t) refl))
      ∙ length-take-le draw_span (drop (block_bytes * block_of i) s) (rw length-drop (omega (arith, e))))
      (λ t. sym (ap length (empty_blocks s i (eqb-false (draw_code s i) 0 t))) ∙ draw_length i empty_draw empty_length)

  -- block 0 is the same in each byte
  pub first_block_same : take block_bytes (salvaged_scene s) ≡ take block_bytes s
  unfolding salvaged_scene
  first_block_same = first_block s front (salvaged_draw s) wide

  pub length_same : length (salvaged_scene s) ≡ length s
  unfolding salvaged_scene
  length_same = same_length s front (salvaged_draw s) wide

  pub edition_kept : edition_of (salvaged_scene s) ≡ edition_of s
  edition_kept = edition_same s (salvaged_scene s) first_block_same

  draw_stands : (i : ℕ) → i < count_of s → block_bytes * block_of (i + 1) ≤ length (salvaged_scene s)
  unfolding salvaged_scene
  draw_stands = draw_there s front (salvaged_draw s) wide

  draw_stood : (i : ℕ) → i < count_of s → block_bytes * block_of (i + 1) ≤ length s
  draw_stood i l = let b = front.bytes in omega (arith, b)

  -- the blocks of each draw: as they were, or the empty draw's
  pub blocks_salvaged : (i : ℕ) → i < count_of s → blocks_of (salvaged_scene s) i ≡ salvaged_draw s i
  unfolding salvaged_scene
  blocks_salvaged = blocks_there s front (salvaged_draw s) wide

  -- a kept draw is the same in each byte
  pub kept_draw_same : (i : ℕ) → i < count_of s → draw_code s i ≡ 0 → blocks_of (salvaged_scene s) i ≡ blocks_of s i
  kept_draw_same i l h = blocks_salvaged i l ∙ sym (kept_blocks s i draw_span h refl)

  -- it is read as before
  pub kept_draw_reads : (i : ℕ) → i < count_of s → draw_code s i ≡ 0 → draw_of (salvaged_scene s) i ≡ draw_of s i
  kept_draw_reads i l h = draw_same (salvaged_scene s) s i (draw_stands i l) (draw_stood i l) (kept_draw_same i l h)

  -- each draw passes: a kept one as before, and the empty one
  pub draws_pass : (i : ℕ) → i < count_of s → draw_fault true (salvaged_scene s) i ≡ Ok tt
  draws_pass i l =
      either (eqb (draw_code s i) 0)
      (λ t.
      let h = eqb-true (draw_code s i) 0 t in
      verdict_same (salvaged_scene s) s i (draw_stands i l) (draw_stood i l) (kept_draw_same i l h) true edition_kept ∙ was_kept s i h)
      (λ t.
      verdict_of_bytes i empty_draw empty_length (salvaged_scene s) (draw_stands i l)
      (blocks_salvaged i l ∙ sym (empty_blocks s i (eqb-false (draw_code s i) 0 t))) true
      ∙ rw (empty_passes (edition_of (salvaged_scene s))))

  -- the result passes the scene rules, with a mask lent
  pub salvaged_passes : scene_fault true (salvaged_scene s) ≡ Ok tt
  unfolding salvaged_scene
  salvaged_passes = blocks_pass s front (salvaged_draw s) wide true draws_pass

  -- salvaging it again replaces nothing and gives the same bytes
  pub again_same : salvaged_scene (salvaged_scene s) ≡ salvaged_scene s
  again_same = accepted_same (salvaged_scene s) salvaged_passes

  pub again_answer : (bytes : ℕ) → length s ≤ bytes → answer_of (salvaged_scene s) bytes ≡ record { code = accepted_code; replaced = 0 }
  again_answer bytes l = accepted_answer_lem (salvaged_scene s) salvaged_passes bytes (rw length_same l)

  pub again_list : listed_to (salvaged_scene s) (count_of (salvaged_scene s)) ≡ []
  again_list = accepted_list (salvaged_scene s) salvaged_passes

  -- a kept draw draws as before: its step at each pixel, under every mask, is the same
  pub kept_draw_draws : (i : ℕ) → i < count_of s → draw_code s i ≡ 0 → (mask : ℕ → ℕ → ℕ) (x y : ℕ) (p : Pixel)
      → draw_step (edition_of (salvaged_scene s)) (draw_of (salvaged_scene s) i) mask x y p ≡ draw_step (edition_of s) (draw_of s i) mask x y p
  kept_draw_draws i l h mask x y p = ap₂ (λ (e : ℕ) (d : List ℕ). draw_step e d mask x y p) edition_kept (kept_draw_reads i l h)
