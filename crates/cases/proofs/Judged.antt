-- How a scene of one draw is judged without reading each byte from the start of the file: zero bytes at once, and a block's check by the block's own bytes.
use mathlib.Core.Path.{◌≡◌, refl, sym, ap, ◌∙◌}
use mathlib.Core.Bool.{Bool, true, false}
use mathlib.Core.List.{List, ◌++◌}
use Prim.Native.Nat.{ℕ, zero, suc, ◌+◌, ◌*◌, ◌-◌, ◌≤◌, ◌<◌}
use native.Mathlib.Omega.{arith}
use lib.ListN.{length, get_or, drop, replicate, get_or-replicate, length-replicate, get_or-append}
use lib.Seq.{get_or-drop}
use lib.Dec.{eqb}
use Rattle.path.specs.Segments.{walk_to}
use Rattle.scene.specs.Layout.{scissors_at, scissor_bytes, stops_at, stop_floats, stop_bytes, segments_at, segments_end, coordinates_at, draw_bytes}
use Rattle.scene.specs.Blocks.{block_number, block_right, draw_of}
use Rattle.scene.specs.Header.{count_of, edition_of}
use Rattle.scene.specs.Fields.{is_radial, first_stop_at, segment_count, scissor_count, stop_count, segments_of, coordinates_of}
use Rattle.std.specs.Prelude.{Ok}
use Rattle.codes.specs.First.{first_among}
use Rattle.scene.specs.Faults.{must, unused, numbers}
use Rattle.scene.specs.Rules.{header_rules, head_rules, float_rules, circle_rules, stop_rules, list_rules, transform_rules, flat_rule}
use Rattle.scene.specs.Rules.{path_rules, rest_rules, draw_rules}
use Rattle.scene.specs.Rules.{check_faults_from, draw_fault_from, scene_fault_from, scene_fault}
use Rattle.scene.proofs.Places.{block_at, passes_at, block_alone}

-- ---- n zero bytes from a place on
module _ (d : List ℕ) (from n : ℕ) (zeros : drop from d ≡ replicate n 0 ++ drop (from + n) d) where
  zero_there : (i : ℕ) → i < n → get_or d (from + i) 0 ≡ 0
  zero_there i h =
      sym (get_or-drop from d i 0) ∙ ap (λ (r : List ℕ). get_or r i 0) zeros
      ∙ get_or-append (replicate n 0) (drop (from + n) d) 0 i (rw (length-replicate {A = ℕ} n 0) h) ∙ get_or-replicate n i 0 0 h

  none_used : (k : ℕ) → k ≤ n → first_among k (λ i. must (eqb (get_or d (from + i) 0) 0) (from + i)) ≡ Ok tt
  none_used zero h = refl
  none_used (suc k) h = rw (none_used k (omega (arith, h)), zero_there k (omega (arith, h)))

  pub unused_zeros : (to : ℕ) → from + n ≡ to → unused d from to ≡ Ok tt
  unused_zeros to e = let m : to - from ≡ n = omega arith in rw m (none_used n (omega arith))

-- ---- the check of block b
pub block_there : (s : List ℕ) (b : ℕ) → passes_at b (block_at s b) ≡ true → block_right s b ≡ true
block_there s b h = block_alone block_number s b ∙ h

-- ---- a draw, part by part: m zero bytes from a to the stops and n from b to the segments; m from a to the coordinates and n from b to the end
module _ (d : List ℕ) (a m b n : ℕ) (first : drop a d ≡ replicate m 0 ++ drop (a + m) d) (second : drop b d ≡ replicate n 0 ++ drop (b + n) d) where
  pub lists_judged : is_radial d ≡ false → scissors_at + scissor_bytes * scissor_count d ≡ a → a + m ≡ stops_at → numbers d stops_at
      (stop_floats * stop_count d) ≡ Ok tt
      → stops_at + stop_bytes * stop_count d ≡ b → b + n ≡ segments_at → list_rules d ≡ Ok tt
  unfolding list_rules circle_rules stop_rules first_stop_at
  lists_judged plain scissors m-end stops used n-end =
      rw (plain, scissors, unused_zeros d a m first stops_at m-end, stops, used, unused_zeros d b n second segments_at n-end)

  pub rest_judged : (edition : ℕ) → segments_at + segment_count d ≡ a → a + m ≡ segments_end
      → coordinates_at edition + 2 * (walk_to (segments_of d) (coordinates_of edition d) (segment_count d)).used ≡ b → b + n ≡ draw_bytes
      → rest_rules edition d ≡ Ok tt
  unfolding rest_rules
  rest_judged edition segments m-end used n-end =
      rw (segments, unused_zeros d a m first segments_end m-end, used, unused_zeros d b n second draw_bytes n-end)

pub draw_judged : (lent : Bool) (edition : ℕ) (d : List ℕ) → head_rules lent edition d ≡ Ok tt → float_rules d ≡ Ok tt → list_rules d ≡ Ok tt
    → transform_rules edition d ≡ Ok tt → flat_rule d ≡ Ok tt → path_rules edition d ≡ Ok tt → rest_rules edition d ≡ Ok tt
    → draw_rules lent edition d ≡ Ok tt
unfolding draw_rules
draw_judged lent edition d head floats lists transform flat path rest = rw (head, floats, lists, transform, flat, path, rest)

pub scene_judged : (lent : Bool) (s d : List ℕ) → length s ≡ 2560 → count_of s ≡ 1 → header_rules s ≡ Ok tt → block_right s 0 ≡ true
    → block_right s 1 ≡ true → block_right s 2 ≡ true → block_right s 3 ≡ true → block_right s 4 ≡ true → draw_of s 0 ≡ d
    → draw_rules lent (edition_of s) d ≡ Ok tt
    → scene_fault lent s ≡ Ok tt
unfolding scene_fault_from draw_fault_from check_faults_from
scene_judged lent s d whole one header b0 b1 b2 b3 b4 bytes rules = rw (whole, b0, header, one, b1, b2, b3, b4, bytes, rules)
