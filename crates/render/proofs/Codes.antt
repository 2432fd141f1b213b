-- Every code is one of the table's: a scene's, judged by whatever rule, and that of a call.
use mathlib.Core.Path.{◌≡◌, refl}
use mathlib.Core.List.{List}
use mathlib.Core.Bool.{Bool, true, false, cond, not, ◌&&◌, ◌||◌}
use Prim.Native.Nat.{ℕ, ◌+◌, ◌*◌, ◌-◌, ◌%◌}
use lib.ListN.{length, get_or}
use lib.Dec.{eqb, leb, ltb}
use lib.Ieee.{is_nan}
use Rattle.codes.specs.Codes.{accepted_code, bad_length, bad_checksum, illegal_argument, unsupported_path_format, unsupported_image_format, out_of_memory}
use Rattle.codes.specs.Codes.{scene_codes, is_one_of, in_table}
use Rattle.codes.proofs.Coded.{Coded, choice, then}
use Rattle.codes.specs.declared.Code.{Code}
use Rattle.codes.specs.declared.Code.TheVariants.{IllegalArgument, UnsupportedPathFormat, BadLength, BadChecksum}
use Rattle.codes.specs.Number.{number_of, number_told}
use Rattle.std.specs.Prelude.{Result, Ok, Err}
use Rattle.render.proofs.Faulty.{Faulty, demanded, told, number_has, none}
use Rattle.render.proofs.Faulty as faulty
use Rattle.fixed.specs.Floats.{f32_at, at_most}
use Rattle.rect.specs.declared.Rect.{Rect}
use Rattle.rect.specs.Rects.{whole}
use Rattle.blend.specs.PorterDuff.{is_mode}
use Rattle.paint.specs.Gradient.{spread_pad, spread_reflect}
use Rattle.paint.specs.Radial.{fixed_circle, focal_allowed}
use Rattle.path.specs.declared.FixedMatrix.{FixedMatrix}
use Rattle.path.specs.declared.Walk.{Walk}
use Rattle.path.specs.Matrices.{linear_limit, translation_limit, fixed_matrix, is_flat}
use Rattle.path.specs.Segments.{coordinates_taken, is_arc, is_none, curve_at, walk_to, curve_in_range, curve_on_grid, segment_code, fault_at, fault_to}
use Rattle.path.specs.declared.PathFault.{PathFault}
use Rattle.scene.specs.declared.Fault.{Fault}
use Rattle.scene.specs.declared.FieldFault.{FieldFault}
use Rattle.scene.specs.Layout.{block_bytes, payload_bytes, draw_blocks, width_at, height_at, count_at, edition_at, header_end, side_limit, draw_limit, no_draw}
use Rattle.scene.specs.Layout.{flags_at, blend_at, paint_type_at, spread_at, segment_count_at, scissor_count_at, stop_count_at, padding_at}
use Rattle.scene.specs.Layout.{matrix_at, translation_at, color_at, linear_points_at}
use Rattle.scene.specs.Layout.{
  scissors_at,
  stops_at,
  segments_at,
  segments_end,
  transform_at,
  transform_floats,
  coordinates_at,
  draw_bytes,
  new_edition,
  is_new,
}
use Rattle.scene.specs.Layout.{segment_limit, scissor_limit, scissor_bytes, stop_bytes, stop_floats, radial_at, radial_floats}
use Rattle.scene.specs.Blocks.{block_right, block_of, draw_of, file_offset}
use Rattle.scene.specs.Header.{width_of, height_of, count_of, edition_of}
use Rattle.scene.specs.Fields.{blend_of, paint_type_of, spread_of, segment_count, scissor_count, stop_count, matrix_of, segments_of, coordinates_of}
use Rattle.scene.specs.Fields.{is_radial, radial_of, first_stop_at}
use Rattle.scene.specs.Faults.{must, unused, limited, numbers, fault, demand}
use Rattle.codes.specs.First.{first_of, first_among}
use Rattle.scene.specs.Rules.{linear_point_limit, count_rules, flags_allowed, head_rules, float_rules, list_rules, flat_rule}
use Rattle.scene.specs.Rules.{transform_rules, path_rules, rest_rules, draw_rules, header_rules}
use Rattle.scene.specs.Rules.{radial_limit, stop_limit_of, is_paint, focal_rule, circle_rules, stop_rules}
use Rattle.scene.specs.Rules.{in_path, in_header, in_draw, check_faults_from, check_faults, draw_fault_from, draw_fault, scene_fault_from, scene_fault}
use Rattle.damage.specs.Damage.{damage}
use Rattle.render.specs.declared.Refusal.{Refusal}
use Rattle.render.specs.declared.Answer.{Answer}
use Rattle.render.specs.Answers.{Mask, mask_wrong, scratch_numbers, nothing, refuse, refusal_of, scene_refusal, lent_refusal, draw_refusal, size_refusal}
use Rattle.render.specs.Answers.{redraw_refusal}
use Rattle.render.specs.Answers.{choose, accepted_answer, refused_answer, draw_answer, redraw_answer}

module _ (P : Code → Type 0) (illegal : P IllegalArgument) (arc : P UnsupportedPathFormat) where
  -- ---- a path
  segment_coded : (m : FixedMatrix) (cs : List ℕ) (walk : Walk) (byte : ℕ) → Faulty P (segment_code m cs walk byte)
  unfolding segment_code
  segment_coded m cs walk byte =
      test (is_arc byte) (record { holds = arc })
      (test (is_none byte) (record { holds = illegal })
      (test (ltb (length cs) (2 * (walk.used + coordinates_taken byte))) (record { holds = illegal })
      (test (curve_in_range (curve_at cs walk byte) && curve_on_grid m (curve_at cs walk byte)) none (record { holds = illegal }))))
    where
      test : (t : Bool) {a b : Result Unit Code} → Faulty P a → Faulty P b → Faulty P (cond t a b)
      test true a b = a
      test false a b = b

  path_coded : (m : FixedMatrix) (ss cs : List ℕ) (n : ℕ) → Faulty (λ f. P f.code) (fault_to m ss cs n)
  path_coded m ss cs n = faulty.among n _
      (λ i _. at_coded (segment_code m cs (walk_to ss cs i) (get_or ss i 0)) i (segment_coded m cs (walk_to ss cs i) (get_or ss i 0)))
    where
      at_coded : (r : Result Unit Code) (i : ℕ) → Faulty P r → Faulty (λ f. P f.code) (fault_at r i)
      at_coded (Ok u) i a = none
      at_coded (Err e) i a = record { holds = a.holds }

  -- ---- fields
  abbrev Field : Result Unit FieldFault → Type 0
  Field = Faulty (λ f. P f.code)

  rule : (t : Bool) (place : ℕ) → Field (must t place)
  rule t place = demanded t _ illegal

  rules : (n : ℕ) (t : ℕ → Bool) (p : ℕ → ℕ) → Field (first_among n (λ i. must (t i) (p i)))
  rules n t p = faulty.among n _ (λ i _. rule (t i) (p i))

  choose_field : (t : Bool) (f : Result Unit FieldFault) → Field f → Field (cond t f (Ok tt))
  choose_field true f a = a
  choose_field false f a = none

  unused_coded : (d : List ℕ) (from to : ℕ) → Field (unused d from to)
  unused_coded d from to = rules (to - from) (λ i. eqb (get_or d (from + i) 0) 0) (λ i. from + i)

  limited_coded : (d : List ℕ) (b at n : ℕ) → Field (limited d b at n)
  limited_coded d b at n = rules n (λ i. at_most b (f32_at d (at + 4 * i))) (λ i. at + 4 * i)

  numbers_coded : (d : List ℕ) (at n : ℕ) → Field (numbers d at n)
  numbers_coded d at n = rules n (λ i. not (is_nan (f32_at d (at + 4 * i)))) (λ i. at + 4 * i)

  -- ---- a draw's fields, in the order of the rules
  module _ (d : List ℕ) where
    counts_coded : Field (count_rules d)
    unfolding count_rules
    counts_coded =
        faulty.then (rule (leb (segment_count d) segment_limit) segment_count_at)
        (faulty.then (rule (leb (scissor_count d) scissor_limit) scissor_count_at)
        (faulty.then (rule (leb (stop_count d) (stop_limit_of d)) stop_count_at)
        (rule (eqb (get_or d padding_at 0) 0) padding_at)))

    head_coded : (masked : Bool) (edition : ℕ) → Field (head_rules masked edition d)
    unfolding head_rules
    head_coded masked edition =
        faulty.then (rule (flags_allowed masked edition d) flags_at)
        (faulty.then (rule (is_mode (blend_of d)) blend_at)
        (faulty.then (rule (is_paint (paint_type_of d)) paint_type_at)
        (faulty.then (rule (leb spread_pad (spread_of d) && leb (spread_of d) spread_reflect) spread_at)
        counts_coded)))

    floats_coded : Field (float_rules d)
    unfolding float_rules
    floats_coded =
        faulty.then (limited_coded d linear_limit matrix_at 4)
        (faulty.then (limited_coded d translation_limit translation_at 2)
        (faulty.then (numbers_coded d color_at 4)
        (limited_coded d linear_point_limit linear_points_at 4)))

    focal_coded : Field (focal_rule d)
    unfolding focal_rule
    focal_coded = rule (focal_allowed (fixed_circle (radial_of d))) radial_at

    circle_coded : Field (circle_rules d)
    unfolding circle_rules
    circle_coded =
        let both : Field _ = faulty.then (limited_coded d radial_limit radial_at radial_floats) focal_coded in
        choose_field (is_radial d) _ both

    stops_coded : Field (stop_rules d)
    unfolding stop_rules
    stops_coded = faulty.then (numbers_coded d (first_stop_at d) (stop_floats * stop_count d))
        (unused_coded d (first_stop_at d + stop_bytes * stop_count d) segments_at)

    lists_coded : Field (list_rules d)
    unfolding list_rules
    lists_coded = faulty.then (unused_coded d (scissors_at + scissor_bytes * scissor_count d) stops_at) (faulty.then circle_coded stops_coded)

    flat_coded : Field (flat_rule d)
    unfolding flat_rule
    flat_coded = rule (eqb (segment_count d) 0 || not (is_flat (fixed_matrix (matrix_of d)))) matrix_at

    transform_coded : (edition : ℕ) → Field (transform_rules edition d)
    unfolding transform_rules
    transform_coded edition = choose_field (is_new edition) _ (numbers_coded d transform_at transform_floats)

    segments_coded : (edition : ℕ) → Field (path_rules edition d)
    unfolding path_rules
    segments_coded edition =
        told in_path _ (λ e a. a) (path_coded (fixed_matrix (matrix_of d)) (segments_of d) (coordinates_of edition d) (segment_count d))

    rest_coded : (edition : ℕ) → Field (rest_rules edition d)
    unfolding rest_rules
    rest_coded edition =
        faulty.then (unused_coded d (segments_at + segment_count d) segments_end)
        (unused_coded d (coordinates_at edition + 2 * (walk_to (segments_of d) (coordinates_of edition d) (segment_count d)).used) draw_bytes)

    rules_coded : (masked : Bool) (edition : ℕ) → Field (draw_rules masked edition d)
    unfolding draw_rules
    rules_coded masked edition =
        faulty.then (head_coded masked edition)
        (faulty.then floats_coded
        (faulty.then lists_coded
        (faulty.then (transform_coded edition)
        (faulty.then flat_coded
        (faulty.then (segments_coded edition) (rest_coded edition))))))

  -- ---- a scene
  module _ (length_code : P BadLength) (check_code : P BadChecksum) (masked : Bool) (s : List ℕ) where
    abbrev Scene : Result Unit Fault → Type 0
    Scene = Faulty (λ f. P f.code)

    header_coded : Field (header_rules s)
    unfolding header_rules
    header_coded =
        faulty.then (rule (leb 1 (width_of s) && leb (width_of s) side_limit) width_at)
        (faulty.then (rule (leb 1 (height_of s) && leb (height_of s) side_limit) height_at)
        (faulty.then (rule (leb (count_of s) draw_limit) count_at)
        (faulty.then (rule (leb (edition_of s) new_edition) edition_at)
        (unused_coded s header_end payload_bytes))))

    checks_coded : (i : ℕ) → Scene (check_faults s i)
    unfolding check_faults_from
    checks_coded i =
        faulty.among draw_blocks
        (λ j. demand (block_right s (block_of i + j)) (fault BadChecksum i (block_bytes * (block_of i + j) + payload_bytes)))
        (λ j _. demanded (block_right s (block_of i + j)) (fault BadChecksum i (block_bytes * (block_of i + j) + payload_bytes)) check_code)

    draw_coded : (i : ℕ) → Scene (draw_fault masked s i)
    unfolding draw_fault_from
    draw_coded i = faulty.then (checks_coded i) (told (in_draw i) _ (λ e a. a) (rules_coded (draw_of s i) masked (edition_of s)))

    scene_coded : Scene (scene_fault masked s)
    unfolding scene_fault_from
    scene_coded =
        faulty.then (demanded _ _ length_code)
        (faulty.then (demanded _ _ check_code)
        (faulty.then (told in_header _ (λ e a. a) header_coded)
        (faulty.then (demanded _ _ length_code)
        (faulty.among (count_of s) (draw_fault masked s) (λ i _. draw_coded i)))))

-- a scene is judged with one of the codes for that
pub scene_code_in_table : (masked : Bool) (s : List ℕ) → is_one_of (number_told (λ f. f.code) (scene_fault masked s)) scene_codes ≡ true
scene_code_in_table masked s =
    number_has (λ c. is_one_of c scene_codes ≡ true) (λ f. f.code) (scene_fault masked s) refl
    (scene_coded (λ c. is_one_of (number_of c) scene_codes ≡ true) refl refl refl refl masked s)

-- ---- a call
abbrev Tabled : Refusal → Type 0
Tabled = Coded (λ c. in_table c ≡ true) (λ f. f.code)

refusal : (t : Bool) (f g : Refusal) → in_table f.code ≡ true → in_table g.code ≡ true → Tabled (cond t f g)
refusal = choice (λ c. in_table c ≡ true) (λ f. f.code)

scene_tabled : (masked : Bool) (s : List ℕ) (k : ℕ) → Tabled (scene_refusal masked s k)
unfolding scene_refusal
scene_tabled masked s k = by (scene_fault masked s) (scene_coded (λ c. in_table (number_of c) ≡ true) refl refl refl refl masked s)
  where
    by : (r : Result Unit Fault) → Faulty (λ f. in_table (number_of f.code) ≡ true) r → Tabled (refusal_of k r)
    by (Ok u) a = record { holds = refl }
    by (Err f) a = record { holds = a.holds }

lent_tabled : (w h : ℕ) (m : Mask) (surface scratch : ℕ) → Tabled (lent_refusal w h m surface scratch)
unfolding lent_refusal
lent_tabled w h m surface scratch =
    refusal (not (eqb surface (4 * (w * h)))) (refuse unsupported_image_format no_draw 0) _ refl
    (refusal (mask_wrong m (w * h)) (refuse unsupported_image_format no_draw 0) _ refl
    (refusal (ltb scratch scratch_numbers) (refuse out_of_memory no_draw 0) nothing refl refl).holds).holds

sizes_tabled : (old new : List ℕ) → Tabled (size_refusal old new)
unfolding size_refusal
sizes_tabled old new = refusal (eqb (width_of old) (width_of new) && eqb (height_of old) (height_of new)) nothing (refuse illegal_argument no_draw 1) refl refl

draw_tabled : (s : List ℕ) (m : Mask) (surface scratch : ℕ) → Tabled (draw_refusal s m surface scratch)
unfolding draw_refusal
draw_tabled s m surface scratch = then (scene_tabled m.lent s 0) (lent_tabled (width_of s) (height_of s) m surface scratch)

redraw_tabled : (old new : List ℕ) (m : Mask) (surface scratch : ℕ) → Tabled (redraw_refusal old new m surface scratch)
unfolding redraw_refusal
redraw_tabled old new m surface scratch =
    then (scene_tabled m.lent old 0)
    (then (scene_tabled m.lent new 1)
    (then (sizes_tabled old new)
    (lent_tabled (width_of new) (height_of new) m surface scratch)))

answer_tabled : (f : Refusal) (a : Rect) → Tabled f → in_table (choose f (accepted_answer a) (refused_answer f)).code ≡ true
unfolding choose
answer_tabled f a t = (choice (λ c. in_table c ≡ true) (λ (r : Answer). r.code) (eqb f.code 0) (accepted_answer a) (refused_answer f) refl t.holds).holds

-- DEMAND 1: every call answers with a code from the table, whatever it is given
pub draw_code_in_table : (s : List ℕ) (m : Mask) (surface_bytes scratch : ℕ) → in_table (draw_answer s m surface_bytes scratch).code ≡ true
draw_code_in_table s m surface_bytes scratch =
    answer_tabled (draw_refusal s m surface_bytes scratch) (whole (width_of s) (height_of s)) (draw_tabled s m surface_bytes scratch)

pub redraw_code_in_table : (old new : List ℕ) (m : Mask) (surface_bytes scratch : ℕ) → in_table (redraw_answer old new m surface_bytes scratch).code ≡ true
redraw_code_in_table old new m surface_bytes scratch =
    answer_tabled (redraw_refusal old new m surface_bytes scratch) (damage old new) (redraw_tabled old new m surface_bytes scratch)
