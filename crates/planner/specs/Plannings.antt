-- What a plan by itself answers, and what its run holds afterwards (paper 02, P11).
use Rattle.std.specs.Prelude.{ℕ, ◌*◌, ◌≡◌, List, cond, leb, length, ℤ}
use Rattle.codes.specs.Codes.{out_of_memory}
use Rattle.scene.specs.Layout.{block_bytes, no_draw}
use Rattle.scene.specs.Header.{width_of, height_of}
use Rattle.render.specs.declared.Refusal.{Refusal}
use Rattle.render.specs.Answers.{Mask, scratch_numbers, nothing, refuse, or_else, redraw_refusal}
use Rattle.planner.specs.declared.planning.Planning.{Planning}
use Rattle.planner.specs.Written.{Written}

-- the checks of a redraw but for surface and scratch, then whether the run has place for 16 numbers
abbrev pub surface_for : List ℕ → ℕ
surface_for new = cond (leb block_bytes (length new)) (4 * (width_of new * height_of new)) 0

unfoldable pub plan_refusal : List ℕ → List ℕ → Mask → ℕ → Refusal
plan_refusal old new m places =
    or_else (redraw_refusal old new m (surface_for new) scratch_numbers) (cond (leb 16 places) nothing (refuse out_of_memory no_draw 0))

-- its answer: the refusal, and the number of rectangles
abbrev pub plan_answer : Refusal → ℕ → Planning
plan_answer f count = record { code = f.code; draw = f.draw; scene = f.scene; count = count }

pub record Answered (old new : List ℕ) (m : Mask) (s t : List ℤ) (r : Planning) : Type 0 where
  pub answered : r ≡ plan_answer (plan_refusal old new m (length s)) r.count
  -- a refused call writes nothing
  pub refused : (r.code ≡ 0 → ⊥) → (r.count ≡ 0) × (t ≡ s)
  pub accepted : r.code ≡ 0 → Written old new r.count s t
