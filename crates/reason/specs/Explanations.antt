-- Why a pixel has its colour: a line for each draw, in order, from the premultiplied background on (paper 02, P9).
use Rattle.std.specs.Prelude.{ℕ, zero, suc, ◌*◌, List, Bool, cond, not, ◌&&◌, eqb, ltb, Result, Ok, Err, is_ok}
use Rattle.codes.specs.Codes.{accepted_code}
use Rattle.codes.specs.First.{first_of}
use Rattle.codes.specs.Number.{number_of}
use Rattle.codes.specs.declared.Code.TheVariants.{IllegalArgument, UnsupportedImageFormat}
use Rattle.color.specs.declared.Pixel.{Pixel}
use Rattle.color.specs.Channels.{premultiplied}
use Rattle.coverage.specs.Winding.{one_if}
use Rattle.coverage.specs.Scissors.{in_scissors}
use Rattle.scene.specs.declared.Fault.{Fault}
use Rattle.scene.specs.Layout.{no_draw}
use Rattle.scene.specs.Blocks.{draw_of}
use Rattle.scene.specs.Header.{width_of, height_of, count_of, edition_of, background_of}
use Rattle.scene.specs.Fields.{scissoring, scissors_of, scissor_count, uses_mask}
use Rattle.scene.specs.Faults.{fault, demand}
use Rattle.scene.specs.Rules.{scene_fault}
use Rattle.engine.specs.Picture.{draw_coverage, draw_paint, draw_mask, draw_step, draw_all, first_draws, mask_at}
use Rattle.render.specs.Answers.{Mask, mask_wrong, mask_bytes}
use Rattle.reason.specs.declared.Line.{Line}
use Rattle.reason.specs.declared.Start.{Start}

-- ---- the line of one draw, by its bytes d, at the pixel (x, y) that holds p before it

-- its kind: no line at all, outside scissors that are on, not covered, covered
abbrev pub no_line : ℕ
no_line = 0

abbrev pub outside : ℕ
outside = 1

abbrev pub uncovered : ℕ
uncovered = 2

abbrev pub covered : ℕ
covered = 3

abbrev pub no_pixel : Pixel
no_pixel = record { r = 0; g = 0; b = 0; a = 0 }

-- of a draw that does not cover the pixel
abbrev pub bare_line : ℕ → Pixel → Pixel → Line
bare_line kind before after = record { kind = kind; before = before; after = after; k = 0; masked = 0; mask = 0; paint = no_pixel }

-- scissoring is on, and the pixel in no scissor
unfoldable pub outside_scissors : List ℕ → ℕ → ℕ → Bool
outside_scissors d x y = scissoring d && not (in_scissors (scissors_of d) (scissor_count d) x y)

-- of a draw that covers it: k, 1 if the draw uses the mask and 0 if not, m (255 where it does not), and the paint's premultiplied bytes as blended
unfoldable pub covered_line : ℕ → List ℕ → (ℕ → ℕ → ℕ) → ℕ → ℕ → Pixel → Line
covered_line edition d mask x y p = record {
  kind = covered;
  before = p;
  after = draw_step edition d mask x y p;
  k = draw_coverage edition d x y;
  masked = one_if (uses_mask d);
  mask = draw_mask d mask x y;
  paint = draw_paint d x y;
}

-- outside scissors that are on, else with k = 0, or covered; the pixel after it is the reference's step
unfoldable pub line_of : ℕ → List ℕ → (ℕ → ℕ → ℕ) → ℕ → ℕ → Pixel → Line
line_of edition d mask x y p =
    cond (outside_scissors d x y) (bare_line outside p (draw_step edition d mask x y p))
    (cond (eqb (draw_coverage edition d x y) 0) (bare_line uncovered p (draw_step edition d mask x y p))
    (covered_line edition d mask x y p))

-- ---- a scene s under a mask m
-- the pixel before draw i: the premultiplied background, and the steps of the draws before it
unfoldable pub pixel_before : List ℕ → (ℕ → ℕ → ℕ) → ℕ → ℕ → ℕ → Pixel
pixel_before s mask x y i = draw_all (edition_of s) (first_draws s i) mask x y (premultiplied (background_of s))

-- the line of draw i, where the pixel holds p before it
abbrev pub scene_line : List ℕ → Mask → ℕ → ℕ → ℕ → Pixel → Line
scene_line s m x y i p = line_of (edition_of s) (draw_of s i) (mask_at (width_of s) (mask_bytes m)) x y p

-- ---- refusals: the scene's first fault, with its offset in the file, then the mask's length, then a pixel outside the picture
unfoldable pub lent_fault : ℕ → ℕ → Mask → ℕ → ℕ → Result Unit Fault
lent_fault width height m x y =
    first_of (demand (not (mask_wrong m (width * height))) (fault UnsupportedImageFormat no_draw 0))
    (demand (ltb x width && ltb y height) (fault IllegalArgument no_draw 0))

unfoldable pub pixel_fault : List ℕ → Mask → ℕ → ℕ → Result Unit Fault
pixel_fault s m x y = first_of (scene_fault m.lent s) (lent_fault (width_of s) (height_of s) m x y)

abbrev pub is_explained : List ℕ → Mask → ℕ → ℕ → Bool
is_explained s m x y = is_ok (pixel_fault s m x y)

-- ---- answers, for any scene, mask, pixel and draw number
-- how an explanation begins: the fault, or the number of draws and the pixel before the first
abbrev pub refused_start : Fault → Start
refused_start f = record { code = number_of f.code; draw = f.draw; offset = f.offset; draws = 0; pixel = no_pixel }

abbrev pub accepted_start : List ℕ → Start
accepted_start s = record { code = accepted_code; draw = no_draw; offset = 0; draws = count_of s; pixel = premultiplied (background_of s) }

abbrev pub start_by : List ℕ → Result Unit Fault → Start
start_by s (Ok _) = accepted_start s
start_by s (Err f) = refused_start f

unfoldable pub start_of : List ℕ → Mask → ℕ → ℕ → Start
start_of s m x y = start_by s (pixel_fault s m x y)

-- the line of draw i; none, where the call is refused or there is no such draw
unfoldable pub line_answer : List ℕ → Mask → ℕ → ℕ → ℕ → Pixel → Line
line_answer s m x y i p = cond (is_explained s m x y && ltb i (count_of s)) (scene_line s m x y i p) (bare_line no_line p p)

-- the pixel after the first n lines, taken one after the other from the beginning on
abbrev pub followed : List ℕ → Mask → ℕ → ℕ → ℕ → Pixel
followed s m x y zero = (start_of s m x y).pixel
followed s m x y (suc n) = (line_answer s m x y n (followed s m x y n)).after
