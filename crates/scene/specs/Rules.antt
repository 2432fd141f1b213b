-- The rules, in the order in which they are judged ("Codes, and which comes first"): a draw by its own bytes and the edition, then a scene by its
-- bytes.
use Rattle.std.specs.Prelude.{ℕ, ◌+◌, ◌*◌, ◌%◌, List, Bool, cond, not, ◌&&◌, ◌||◌, get_or, length, leb, ltb, eqb, Result, Ok}
use Rattle.std.specs.Result.{result_map_both}
use Rattle.codes.specs.declared.Code.TheVariants.{BadLength, BadChecksum}
use Rattle.path.specs.declared.PathFault.{PathFault}
use Rattle.codes.specs.First.{first_of, first_among}
use Rattle.blend.specs.PorterDuff.{is_mode}
use Rattle.paint.specs.Gradient.{spread_pad, spread_reflect}
use Rattle.paint.specs.Paints.{paint_color, paint_linear, paint_radial}
use Rattle.paint.specs.Radial.{fixed_circle, focal_allowed}
use Rattle.path.specs.Matrices.{linear_limit, translation_limit, fixed_matrix, is_flat}
use Rattle.path.specs.Segments.{fault_to, walk_to}
use Rattle.scene.specs.Layout.{block_bytes, payload_bytes, draw_blocks, width_at, height_at, count_at, edition_at, header_end, side_limit, draw_limit, no_draw}
use Rattle.scene.specs.Layout.{flags_at, blend_at, paint_type_at, spread_at, segment_count_at, scissor_count_at}
use Rattle.scene.specs.Layout.{stop_count_at, padding_at, matrix_at, translation_at, color_at, linear_points_at}
use Rattle.scene.specs.Layout.{scissors_at, stops_at, segments_at, segments_end, coordinates_at, draw_bytes, new_edition, is_new, flags_limit}
use Rattle.scene.specs.Layout.{segment_limit, scissor_limit, stop_limit, radial_stop_limit, scissor_bytes, stop_bytes, stop_floats}
use Rattle.scene.specs.Layout.{radial_at, radial_floats, transform_at, transform_floats}
use Rattle.scene.specs.Blocks.{block_number, block_right_from, block_of, draw_of, file_offset}
use Rattle.scene.specs.Header.{width_of, height_of, count_of, edition_of}
use Rattle.scene.specs.Fields.{flags_of, blend_of, paint_type_of, spread_of, segment_count, scissor_count, stop_count, matrix_of, segments_of, coordinates_of}
use Rattle.scene.specs.Fields.{uses_mask, is_radial, radial_of, first_stop_at}
use Rattle.scene.specs.Faults.{demand, must, unused, limited, numbers, fault}
use Rattle.scene.specs.declared.FieldFault.{FieldFault}
use Rattle.scene.specs.declared.Fault.{Fault}

abbrev pub linear_point_limit : ℕ
linear_point_limit = 4096

abbrev pub radial_limit : ℕ
radial_limit = 1024

-- a radial draw has its circle in place of a stop
unfoldable pub stop_limit_of : List ℕ → ℕ
stop_limit_of d = cond (is_radial d) radial_stop_limit stop_limit

-- ---- a draw's fields, in layout order: the counts and the zero after them come last in the head, and before all that follows
unfoldable pub count_rules : List ℕ → Result Unit FieldFault
count_rules d =
    first_of (must (leb (segment_count d) segment_limit) segment_count_at)
    (first_of (must (leb (scissor_count d) scissor_limit) scissor_count_at)
    (first_of (must (leb (stop_count d) (stop_limit_of d)) stop_count_at)
    (must (eqb (get_or d padding_at 0) 0) padding_at)))

abbrev pub is_gradient : ℕ → Bool
is_gradient type = eqb type paint_linear || eqb type paint_radial

abbrev pub is_paint : ℕ → Bool
is_paint type = eqb type paint_color || is_gradient type

abbrev pub is_spread : ℕ → Bool
is_spread mode = leb spread_pad mode && leb mode spread_reflect

-- no other bit is set, and bit 3 only where a mask is lent
unfoldable pub flags_allowed : Bool → ℕ → List ℕ → Bool
flags_allowed lent edition d = ltb (flags_of d) (flags_limit edition) && (lent || not (uses_mask d))

unfoldable pub head_rules : Bool → ℕ → List ℕ → Result Unit FieldFault
head_rules lent edition d =
    first_of (must (flags_allowed lent edition d) flags_at)
    (first_of (must (is_mode (blend_of d)) blend_at)
    (first_of (must (is_paint (paint_type_of d)) paint_type_at)
    (first_of (must (is_spread (spread_of d)) spread_at)
    (count_rules d))))

-- the matrix, the colour and the linear points, whatever the paint type
unfoldable pub float_rules : List ℕ → Result Unit FieldFault
float_rules d =
    first_of (limited d linear_limit matrix_at 4)
    (first_of (limited d translation_limit translation_at 2)
    (first_of (numbers d color_at 4)
    (limited d linear_point_limit linear_points_at 4)))

-- the focal rule is judged on the whole numbers; what breaks it is met at cx
unfoldable pub focal_rule : List ℕ → Result Unit FieldFault
focal_rule d = must (focal_allowed (fixed_circle (radial_of d))) radial_at

-- a radial draw's circle: each of its five values, then the focal rule
unfoldable pub circle_rules : List ℕ → Result Unit FieldFault
circle_rules d = cond (is_radial d) (first_of (limited d radial_limit radial_at radial_floats) (focal_rule d)) (Ok tt)

-- used stops, unused stops
unfoldable pub stop_rules : List ℕ → Result Unit FieldFault
stop_rules d = first_of (numbers d (first_stop_at d) (stop_floats * stop_count d)) (unused d (first_stop_at d + stop_bytes * stop_count d) segments_at)

-- unused scissors, the circle, the stops
unfoldable pub list_rules : List ℕ → Result Unit FieldFault
list_rules d = first_of (unused d (scissors_at + scissor_bytes * scissor_count d) stops_at) (first_of (circle_rules d) (stop_rules d))

-- edition 1's colour transformation, on or off: each of its values is a number, which may be infinite
unfoldable pub transform_rules : ℕ → List ℕ → Result Unit FieldFault
transform_rules edition d = cond (is_new edition) (numbers d transform_at transform_floats) (Ok tt)

-- a flat matrix, judged on the whole numbers, where the draw has segments: the place is that of its sx
unfoldable pub flat_rule : List ℕ → Result Unit FieldFault
flat_rule d = must (eqb (segment_count d) 0 || not (is_flat (fixed_matrix (matrix_of d)))) matrix_at

-- a path's fault: its segments are bytes from a place on
abbrev pub in_path : PathFault → FieldFault
in_path f = record { code = f.code; place = segments_at + f.segment }

-- a judgement whose fault is told in another way
abbrev pub told_by : {E F : Type 0} → (E → F) → Result Unit E → Result Unit F
told_by tell = result_map_both (λ u. u) tell

-- the path, segment by segment
unfoldable pub path_rules : ℕ → List ℕ → Result Unit FieldFault
path_rules edition d =
    told_by in_path (fault_to (fixed_matrix (matrix_of d)) (segments_of d) (coordinates_of edition d) (segment_count d))

-- places past the last segment and past the last coordinate used
unfoldable pub rest_rules : ℕ → List ℕ → Result Unit FieldFault
rest_rules edition d =
    first_of (unused d (segments_at + segment_count d) segments_end)
    (unused d (coordinates_at edition + 2 * (walk_to (segments_of d) (coordinates_of edition d) (segment_count d)).used) draw_bytes)

-- a draw of a scene of that edition, judged by itself, where a mask is lent or is not
unfoldable pub draw_rules : Bool → ℕ → List ℕ → Result Unit FieldFault
draw_rules lent edition d =
    first_of (head_rules lent edition d)
    (first_of (float_rules d)
    (first_of (list_rules d)
    (first_of (transform_rules edition d)
    (first_of (flat_rule d)
    (first_of (path_rules edition d)
    (rest_rules edition d))))))

-- ---- the fields of block 0, in order
abbrev pub is_side : ℕ → Bool
is_side n = leb 1 n && leb n side_limit

unfoldable pub header_rules : List ℕ → Result Unit FieldFault
header_rules s =
    first_of (must (is_side (width_of s)) width_at)
    (first_of (must (is_side (height_of s)) height_at)
    (first_of (must (leb (count_of s) draw_limit) count_at)
    (first_of (must (leb (edition_of s) new_edition) edition_at)
    (unused s header_end payload_bytes))))

-- a fault among fields as one of the scene, with a draw number and an offset in the file: block 0 begins the file
abbrev pub in_header : FieldFault → Fault
in_header f = fault f.code no_draw f.place

-- a fault of draw i
abbrev pub in_draw : ℕ → FieldFault → Fault
in_draw i f = fault f.code i (file_offset i f.place)

-- ---- a scene by its bytes, where a mask is lent or is not; start b is where the sums of block b begin

-- the checks of draw i's blocks
unfoldable pub check_faults_from : (ℕ → ℕ) → List ℕ → ℕ → Result Unit Fault
check_faults_from start s i =
    first_among draw_blocks (λ j. demand (block_right_from start s (block_of i + j)) (fault BadChecksum i (block_bytes * (block_of i + j) + payload_bytes)))

-- draw i: its four checks, then its own rules, in the scene's edition
unfoldable pub draw_fault_from : (ℕ → ℕ) → Bool → List ℕ → ℕ → Result Unit Fault
draw_fault_from start lent s i = first_of (check_faults_from start s i) (told_by (in_draw i) (draw_rules lent (edition_of s) (draw_of s i)))

-- the first fault of a scene
unfoldable pub scene_fault_from : (ℕ → ℕ) → Bool → List ℕ → Result Unit Fault
scene_fault_from start lent s =
    first_of (demand (eqb (length s % block_bytes) 0 && leb block_bytes (length s)) (fault BadLength no_draw 0))
    (first_of (demand (block_right_from start s 0) (fault BadChecksum no_draw payload_bytes))
    (first_of (told_by in_header (header_rules s))
    (first_of (demand (eqb (length s) (block_bytes * block_of (count_of s))) (fault BadLength no_draw 0))
    (first_among (count_of s) (draw_fault_from start lent s)))))

-- the sums begin at the block's number
abbrev pub check_faults : List ℕ → ℕ → Result Unit Fault
check_faults = check_faults_from block_number

abbrev pub draw_fault : Bool → List ℕ → ℕ → Result Unit Fault
draw_fault = draw_fault_from block_number

abbrev pub scene_fault : Bool → List ℕ → Result Unit Fault
scene_fault = scene_fault_from block_number
