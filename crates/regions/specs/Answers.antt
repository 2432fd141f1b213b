-- What a redraw by proposed rectangles answers, and what surface and scratch hold afterwards (paper 02, P11).
use Rattle.std.specs.Prelude.{ℕ, List, cond, length, ℤ}
use Rattle.codes.specs.Codes.{illegal_argument}
use Rattle.rect.specs.declared.Rect.{Rect}
use Rattle.scene.specs.Layout.{no_draw}
use Rattle.scene.specs.Header.{width_of, height_of}
use Rattle.engine.specs.Picture.{pixel_at, mask_at}
use Rattle.render.specs.declared.Refusal.{Refusal}
use Rattle.render.specs.declared.Answer.{Answer}
use Rattle.render.specs.Answers.{Mask, mask_bytes, nothing, refuse, or_else, redraw_refusal, choose, refused_answer, accepted_answer, scratch_after}
use Rattle.regions.specs.Pixels.{overlays}
use Rattle.regions.specs.Proposals.{proposed, round_of, to_cover, acceptable}

-- what a proposal has to cover on the new scene's surface
abbrev pub changes : List ℕ → List ℕ → List Rect
changes old new = to_cover (width_of new) (height_of new) old new

unfoldable pub proposal_refusal : List ℕ → List ℕ → List ℤ → Refusal
proposal_refusal old new l = cond (acceptable (width_of new) (height_of new) (changes old new) l) nothing (refuse illegal_argument no_draw 0)

-- all checks of a redraw, then the proposal
unfoldable pub regions_refusal : List ℕ → List ℕ → Mask → List ℤ → ℕ → ℕ → Refusal
regions_refusal old new m l surface_bytes scratch = or_else (redraw_refusal old new m surface_bytes scratch) (proposal_refusal old new l)

-- the new picture in the union of the rectangles, the old bytes outside
unfoldable pub regions_painted : List ℕ → Mask → List ℤ → List ℕ → List ℕ
regions_painted new m l surface = overlays (width_of new) (height_of new) (proposed l) (pixel_at new (mask_at (width_of new) (mask_bytes m))) surface

-- ---- the redraw by the rectangles l
abbrev pub regions_answer : List ℕ → List ℕ → Mask → List ℤ → ℕ → ℕ → Answer
regions_answer old new m l surface_bytes scratch =
    choose (regions_refusal old new m l surface_bytes scratch) (accepted_answer (round_of l))
    (refused_answer (regions_refusal old new m l surface_bytes scratch))

abbrev pub regions_surface : List ℕ → List ℕ → Mask → List ℤ → List ℕ → ℕ → List ℕ
regions_surface old new m l surface scratch = choose (regions_refusal old new m l (length surface) scratch) (regions_painted new m l surface) surface

abbrev pub regions_scratch : List ℕ → List ℕ → Mask → List ℤ → ℕ → List ℤ → List ℤ
regions_scratch old new m l surface_bytes scratch = scratch_after (regions_refusal old new m l surface_bytes (length scratch)) scratch

-- ---- the redraw by the rectangles l that the planner proposes, which no check can reject: where they are none, the area is 0, 0, 0, 0 and no byte of
-- the surface is written
abbrev pub planned_answer : List ℕ → List ℕ → Mask → List ℤ → ℕ → ℕ → Answer
planned_answer old new m l surface_bytes scratch =
    choose (redraw_refusal old new m surface_bytes scratch) (accepted_answer (round_of l)) (refused_answer (redraw_refusal old new m surface_bytes scratch))

abbrev pub planned_surface : List ℕ → List ℕ → Mask → List ℤ → List ℕ → ℕ → List ℕ
planned_surface old new m l surface scratch = choose (redraw_refusal old new m (length surface) scratch) (regions_painted new m l surface) surface

abbrev pub planned_scratch : List ℕ → List ℕ → Mask → ℕ → List ℤ → List ℤ
planned_scratch old new m surface_bytes scratch = scratch_after (redraw_refusal old new m surface_bytes (length scratch)) scratch
