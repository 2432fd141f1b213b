-- What a call answers, and what surface and scratch hold afterwards ("Codes, and which comes first"; demands 1 to 3).
-- The scratch numbers are the paper's working room.
use Rattle.std.specs.Prelude.{ℕ, ◌*◌, ◌-◌, ◌≤◌, ◌<◌, max, ◌≡◌, List, [], Bool, true, false, cond, not, ◌&&◌, length, replicate, ltb, eqb, ℤ, pos, Result}
use Rattle.std.specs.Prelude.{Ok, Err}
use Rattle.codes.specs.Codes.{accepted_code, illegal_argument, unsupported_image_format, out_of_memory}
use Rattle.codes.specs.First.{sooner}
use Rattle.codes.specs.Number.{number_of}
use Rattle.rect.specs.declared.Rect.{Rect}
use Rattle.rect.specs.Rects.{whole, Holds}
use Rattle.raster.specs.Surface.{overlay}
use Rattle.scene.specs.Layout.{no_draw}
use Rattle.scene.specs.Header.{width_of, height_of, count_of}
use Rattle.scene.specs.declared.Fault.{Fault}
use Rattle.scene.specs.Rules.{scene_fault}
use Rattle.engine.specs.Picture.{pixel_at, mask_at, picture}
use Rattle.damage.specs.Damage.{changed_at, box_at, damage}
use Rattle.render.specs.declared.Refusal.{Refusal}
use Rattle.render.specs.declared.Answer.{Answer}

-- enough room is 12,300 numbers or more
abbrev pub scratch_numbers : ℕ
scratch_numbers = 12300

-- ---- the mask of a call: whether one is lent, and the run's bytes
pub record Mask : Type 0 where
  pub lent : Bool
  pub bytes : List ℕ

abbrev pub mask_of : Bool → List ℕ → Mask
mask_of lent bytes = record { lent = lent; bytes = bytes }

abbrev pub no_mask : Mask
no_mask = mask_of false []

-- where none is lent the run is not looked at, whatever it is
abbrev pub mask_bytes : Mask → List ℕ
mask_bytes m = cond m.lent m.bytes []

-- ---- refusals: code, draw number, scene number; code 0 for none
abbrev pub nothing : Refusal
nothing = record { code = accepted_code; draw = no_draw; scene = 0 }

abbrev pub refuse : ℕ → ℕ → ℕ → Refusal
refuse code draw scene = record { code = code; draw = draw; scene = scene }

abbrev pub or_else : Refusal → Refusal → Refusal
or_else = sooner (λ f. f.code)

-- what the rules of the scene with that number say
abbrev pub refusal_of : ℕ → Result Unit Fault → Refusal
refusal_of scene (Ok _) = nothing
refusal_of scene (Err f) = refuse (number_of f.code) f.draw scene

-- all scene checks of the scene with that number
unfoldable pub scene_refusal : Bool → List ℕ → ℕ → Refusal
scene_refusal masked s scene = refusal_of scene (scene_fault masked s)

-- a mask is lent that has not a byte for each of so many pixels
abbrev pub mask_wrong : Mask → ℕ → Bool
mask_wrong m pixels = m.lent && not (eqb (length m.bytes) pixels)

-- a surface of that many bytes, then the mask where one is lent, then scratch of that many numbers
unfoldable pub lent_refusal : ℕ → ℕ → Mask → ℕ → ℕ → Refusal
lent_refusal width height m surface_bytes scratch =
    cond (not (eqb surface_bytes (4 * (width * height)))) (refuse unsupported_image_format no_draw 0)
    (cond (mask_wrong m (width * height)) (refuse unsupported_image_format no_draw 0)
    (cond (ltb scratch scratch_numbers) (refuse out_of_memory no_draw 0)
    nothing))

unfoldable pub draw_refusal : List ℕ → Mask → ℕ → ℕ → Refusal
draw_refusal s m surface_bytes scratch = or_else (scene_refusal m.lent s 0) (lent_refusal (width_of s) (height_of s) m surface_bytes scratch)

-- all scene checks of the old, then of the new, then equal size, then surface, mask and scratch
unfoldable pub size_refusal : List ℕ → List ℕ → Refusal
size_refusal old new = cond (eqb (width_of old) (width_of new) && eqb (height_of old) (height_of new)) nothing (refuse illegal_argument no_draw 1)

unfoldable pub redraw_refusal : List ℕ → List ℕ → Mask → ℕ → ℕ → Refusal
redraw_refusal old new m surface_bytes scratch =
    or_else (scene_refusal m.lent old 0)
    (or_else (scene_refusal m.lent new 1)
    (or_else (size_refusal old new)
    (lent_refusal (width_of new) (height_of new) m surface_bytes scratch)))

-- ---- answers
-- a where nothing is refused, else b
unfoldable pub choose : {A : Type 0} → Refusal → A → A → A
choose f a b = cond (eqb f.code accepted_code) a b

abbrev pub refused_answer : Refusal → Answer
refused_answer f = record { code = f.code; draw = f.draw; scene = f.scene; x = 0; y = 0; width = 0; height = 0 }

abbrev pub accepted_answer : Rect → Answer
accepted_answer a = record { code = accepted_code; draw = no_draw; scene = 0; x = a.x0; y = a.y0; width = a.x1 - a.x0; height = a.y1 - a.y0 }

-- refused, the scratch is as it was; accepted, all zero
abbrev pub scratch_after : Refusal → List ℤ → List ℤ
scratch_after f scratch = choose f (replicate (length scratch) (pos 0)) scratch

-- ---- the full drawing, from the bytes of scene, mask and surface and the scratch
abbrev pub draw_answer : List ℕ → Mask → ℕ → ℕ → Answer
draw_answer s m surface_bytes scratch =
    choose (draw_refusal s m surface_bytes scratch) (accepted_answer (whole (width_of s) (height_of s)))
    (refused_answer (draw_refusal s m surface_bytes scratch))

abbrev pub draw_surface : List ℕ → Mask → List ℕ → ℕ → List ℕ
draw_surface s m surface scratch = choose (draw_refusal s m (length surface) scratch) (picture s (mask_bytes m)) surface

abbrev pub draw_scratch : List ℕ → Mask → ℕ → List ℤ → List ℤ
draw_scratch s m surface_bytes scratch = scratch_after (draw_refusal s m surface_bytes (length scratch)) scratch

-- ---- the quick redraw, with one mask for both scenes: the new picture inside the area, the old bytes outside
abbrev pub redraw_answer : List ℕ → List ℕ → Mask → ℕ → ℕ → Answer
redraw_answer old new m surface_bytes scratch =
    choose (redraw_refusal old new m surface_bytes scratch) (accepted_answer (damage old new)) (refused_answer (redraw_refusal old new m surface_bytes scratch))

abbrev pub redraw_surface : List ℕ → List ℕ → Mask → List ℕ → ℕ → List ℕ
redraw_surface old new m surface scratch =
    choose (redraw_refusal old new m (length surface) scratch)
    (overlay (width_of new) (height_of new) (damage old new) (pixel_at new (mask_at (width_of new) (mask_bytes m))) surface)
    surface

abbrev pub redraw_scratch : List ℕ → List ℕ → Mask → ℕ → List ℤ → List ℤ
redraw_scratch old new m surface_bytes scratch = scratch_after (redraw_refusal old new m surface_bytes (length scratch)) scratch

-- ---- what the demands speak of
-- an accepted scene, where a mask is lent or is not: it passes every check of a scene
abbrev pub Accepted : Mask → List ℕ → Type 0
Accepted m s = scene_fault m.lent s ≡ Ok tt

pub record OneSize (old new : List ℕ) : Type 0 where
  pub width : width_of old ≡ width_of new
  pub height : height_of old ≡ height_of new

-- a surface of the scene's size, a mask of the right length or none, and enough room
pub record Lent (s : List ℕ) (m : Mask) (surface : List ℕ) (scratch : ℕ) : Type 0 where
  pub size : length surface ≡ 4 * (width_of s * height_of s)
  pub mask : m.lent ≡ true → length m.bytes ≡ width_of s * height_of s
  pub space : scratch_numbers ≤ scratch

-- a rectangle that holds the boxes, old and new, of every changed draw
abbrev pub HoldsChanges : List ℕ → List ℕ → Rect → Type 0
HoldsChanges old new r =
    (i : ℕ) → i < max (count_of old) (count_of new) → changed_at old new i ≡ true
    → Holds r (box_at (width_of new) (height_of new) old i) × Holds r (box_at (width_of new) (height_of new) new i)
