-- The code of a scene's front is that of the scene rules, which judge the draws after it; a draw whose blocks have their checks is judged by its rules.
use mathlib.Core.Path.{◌≡◌, refl}
use mathlib.Core.List.{List}
use mathlib.Core.Bool.{Bool, true, false, ◌&&◌}
use Prim.Native.Nat.{ℕ, ◌+◌, ◌*◌, ◌%◌, ◌<◌}
use native.Mathlib.Omega.{arith}
use lib.ListN.{length}
use lib.Dec.{eqb, leb}
use Rattle.std.specs.Prelude.{Result, Ok, Err}
use Rattle.codes.specs.declared.Code.TheVariants.{BadLength, BadChecksum}
use Rattle.codes.specs.First.{first_of, first_among}
use Rattle.codes.specs.Number.{number_told}
use Rattle.scene.specs.Layout.{block_bytes, payload_bytes, draw_blocks, no_draw}
use Rattle.scene.specs.Blocks.{block_right, block_of, draw_of}
use Rattle.scene.specs.Header.{count_of, edition_of}
use Rattle.scene.specs.Faults.{demand, fault}
use Rattle.scene.specs.Rules.{told_by, in_header, in_draw, header_rules, draw_rules, check_faults_from, draw_fault_from, draw_fault}
use Rattle.scene.specs.Rules.{scene_fault_from, scene_fault}
use Rattle.scene.specs.declared.FieldFault.{FieldFault}
use Rattle.scene.specs.declared.Fault.{Fault}
use Rattle.rescue.specs.Salvaged.{or_code, front_verdict, front_code}
use Rattle.rescue.proofs.Verdicts.{no_zero}

-- ---- the front's code is the scene rules', which judge the draws after it
judged : (whole right long : Bool) (header : Result Unit FieldFault) (draws : Result Unit Fault)
    → number_told (λ f. f.code)
    (first_of (demand whole (fault BadLength no_draw 0))
    (first_of (demand right (fault BadChecksum no_draw payload_bytes))
    (first_of (told_by in_header header)
    (first_of (demand long (fault BadLength no_draw 0)) draws))))
    ≡ or_code
    (number_told (λ c. c)
    (first_of (demand whole BadLength) (first_of (demand right BadChecksum) (first_of (told_by (λ f. f.code) header) (demand long BadLength)))))
    (number_told (λ f. f.code) draws)
judged false right long header draws = refl
judged true false long header draws = refl
judged true true long (Err f) draws = rw (no_zero f.code)
judged true true false (Ok u) draws = refl
judged true true true (Ok u) draws = refl

pub front_judged : (lent : Bool) (s : List ℕ)
    → number_told (λ f. f.code) (scene_fault lent s)
    ≡ or_code (front_code s) (number_told (λ f. f.code) (first_among (count_of s) (draw_fault lent s)))
unfolding scene_fault_from front_verdict
front_judged lent s =
    judged (eqb (length s % block_bytes) 0 && leb block_bytes (length s)) (block_right s 0) (eqb (length s) (block_bytes * block_of (count_of s)))
    (header_rules s) (first_among (count_of s) (draw_fault lent s))

-- ---- draw i: its blocks, then its rules
module _ (s : List ℕ) (i : ℕ) where
  abbrev pub right : ℕ → Bool
  right j = block_right s (block_of i + j)

  -- where each block has its check
  pub by_rules : (lent : Bool) → ((j : ℕ) → j < draw_blocks → right j ≡ true)
      → draw_fault lent s i ≡ told_by (in_draw i) (draw_rules lent (edition_of s) (draw_of s i))
  unfolding draw_fault_from check_faults_from
  by_rules lent r = rw (r 0 (omega arith), r 1 (omega arith), r 2 (omega arith), r 3 (omega arith))
