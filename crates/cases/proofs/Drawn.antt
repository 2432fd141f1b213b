-- Scenes with draws, through the rules, the fields, the edges, the coverage, the paint, the blending and the area: the bench case's square turned from red to
-- blue, and a curve filled with a gradient. Each is accepted, and what a call leaves and answers is given in numbers.
use mathlib.Core.Path.{◌≡◌, refl, sym, ◌∙◌}
use mathlib.Core.List.{List, []}
use mathlib.Core.Bool.{false, true≢false}
use Prim.Native.Nat.{ℕ, ◌≤◌}
use lib.ListN.{length}
use Rattle.std.specs.Prelude.{Ok}
use lib.Ieee.{lt, mul, add, of_bits, to_unsigned, is_nan}
use Rattle.color.specs.Channels.{channel_byte}
use Rattle.blend.specs.PorterDuff.{source_factor, destination_factor, composite_byte, composite}
use Rattle.paint.specs.Gradient.{linear_t, mapped}
use Rattle.paint.specs.Ramps.{kept_stops, with_ends, ramp_at}
use Rattle.paint.specs.Paints.{gradient_color, paint_at}
use Rattle.path.specs.Segments.{points_of, pen_after, segment_code}
use Rattle.path.specs.Curves.{cut, curve_edges, path_edges}
use Rattle.path.specs.Boxes.{outer, outer_of, box_of}
use Rattle.coverage.specs.Winding.{upward, spans, at_or_left, sign, weight, counts, winding, coverage}
use Rattle.coverage.specs.Scissors.{scissored}
use Rattle.scene.specs.Blocks.{checksum_of, block_right_from, draw_of, same_draw}
use Rattle.scene.specs.Fields.{paint_of, first_stop_at}
use Rattle.scene.specs.Rules.{stop_limit_of, count_rules, flags_allowed, head_rules, float_rules, transform_rules, flat_rule, path_rules}
use Rattle.scene.specs.Rules.{header_rules, draw_rules}
use Rattle.scene.specs.Layout.{coordinates_at, flags_limit}
use Rattle.engine.specs.Picture.{draw_edges, coverage_of, draw_transform, draw_paint, draw_mask, step_of, pixel_at, picture}
use Rattle.damage.specs.Damage.{changed_at, draw_box, box_at, same_background, damage_of, damage}
use Rattle.render.specs.Answers.{no_mask, accepted_answer, draw_answer, draw_surface, redraw_answer, redraw_surface, scratch_numbers, Accepted, OneSize, Lent}
use Rattle.render.proofs.Demands.{full_drawing_accepted, full_drawing_leaves_picture, redraw_accepted, redraw_makes_picture}
use Rattle.cases.specs.Scenes.{square_draw, red_draw, blue_draw, curve_draw, red, blue, curve, square_picture, red_picture, blue_picture, curve_picture, answer}
use Rattle.cases.proofs.Judged.{block_there, lists_judged, rest_judged, draw_judged, scene_judged}

-- ---- accepted: zero bytes of the draw from a place on, and how many; then every block
red_rules : draw_rules false 0 red_draw ≡ Ok tt
unfolding square_draw of_bits is_nan points_of pen_after segment_code stop_limit_of count_rules flags_limit flags_allowed head_rules float_rules transform_rules
    flat_rule
    coordinates_at path_rules
red_rules =
    draw_judged false 0 red_draw refl refl (lists_judged red_draw 68 64 132 640 refl refl refl refl refl refl refl refl) refl refl refl
    (rest_judged red_draw 777 123 910 1122 refl refl 0 refl refl refl refl)

red_accepted : Accepted no_mask red
unfolding red square_draw checksum_of block_right_from header_rules draw_of
red_accepted =
    scene_judged false red red_draw refl refl refl
    (block_there red 0 refl)
    (block_there red 1 refl)
    (block_there red 2 refl)
    (block_there red 3 refl)
    (block_there red 4 refl)
    refl red_rules

blue_rules : draw_rules false 0 blue_draw ≡ Ok tt
unfolding square_draw of_bits is_nan points_of pen_after segment_code stop_limit_of count_rules flags_limit flags_allowed head_rules float_rules transform_rules
    flat_rule
    coordinates_at path_rules
blue_rules =
    draw_judged false 0 blue_draw refl refl (lists_judged blue_draw 68 64 132 640 refl refl refl refl refl refl refl refl) refl refl refl
    (rest_judged blue_draw 777 123 910 1122 refl refl 0 refl refl refl refl)

blue_accepted : Accepted no_mask blue
unfolding blue square_draw checksum_of block_right_from header_rules draw_of
blue_accepted =
    scene_judged false blue blue_draw refl refl refl
    (block_there blue 0 refl)
    (block_there blue 1 refl)
    (block_there blue 2 refl)
    (block_there blue 3 refl)
    (block_there blue 4 refl)
    refl blue_rules

curve_rules : draw_rules false 0 curve_draw ≡ Ok tt
unfolding curve_draw of_bits is_nan points_of pen_after segment_code stop_limit_of count_rules flags_limit flags_allowed head_rules float_rules transform_rules
    flat_rule
    coordinates_at path_rules
curve_rules =
    draw_judged false 0 curve_draw refl refl (lists_judged curve_draw 68 64 172 600 refl refl refl refl refl refl refl refl) refl refl refl
    (rest_judged curve_draw 775 125 912 1120 refl refl 0 refl refl refl refl)

curve_accepted : Accepted no_mask curve
unfolding curve curve_draw checksum_of block_right_from header_rules draw_of
curve_accepted =
    scene_judged false curve curve_draw refl refl refl
    (block_there curve 0 refl)
    (block_there curve 1 refl)
    (block_there curve 2 refl)
    (block_there curve 3 refl)
    (block_there curve 4 refl)
    refl curve_rules

-- ---- the pictures, and the area of the change
red_picture_lem : picture red [] ≡ red_picture
unfolding red square_draw square_picture draw_of paint_of of_bits lt mul add to_unsigned channel_byte source_factor destination_factor composite_byte paint_at
    points_of pen_after cut curve_edges path_edges upward spans at_or_left sign weight counts winding coverage scissored coordinates_at draw_edges coverage_of
    draw_transform
    composite draw_paint draw_mask step_of pixel_at picture
red_picture_lem = refl

blue_picture_lem : picture blue [] ≡ blue_picture
unfolding blue square_draw square_picture draw_of paint_of of_bits lt mul add to_unsigned channel_byte source_factor destination_factor composite_byte paint_at
    points_of pen_after cut curve_edges path_edges upward spans at_or_left sign weight counts winding coverage scissored coordinates_at draw_edges coverage_of
    draw_transform
    composite draw_paint draw_mask step_of pixel_at picture
blue_picture_lem = refl

curve_picture_lem : picture curve [] ≡ curve_picture
unfolding curve curve_draw curve_picture linear_t mapped kept_stops with_ends ramp_at gradient_color draw_of paint_of first_stop_at of_bits lt mul add
    to_unsigned
    channel_byte source_factor destination_factor composite_byte paint_at points_of pen_after cut curve_edges path_edges upward spans at_or_left sign weight
    counts
    winding coverage scissored coordinates_at draw_edges coverage_of draw_transform composite draw_paint draw_mask step_of pixel_at picture
curve_picture_lem = refl

red_blue_damage : accepted_answer (damage red blue) ≡ answer 0 0 3 3
unfolding red blue square_draw of_bits draw_of same_draw points_of pen_after curve_edges path_edges coordinates_at draw_edges outer outer_of box_of changed_at
    draw_box box_at
    same_background damage_of
red_blue_damage = refl

-- ---- the calls, without a mask, on any surface of 64 bytes with enough scratch
module _ (surface : List ℕ) (scratch : ℕ) (size : length surface ≡ 64) (space : scratch_numbers ≤ scratch) where
  red_lent : Lent red no_mask surface scratch
  unfolding red
  red_lent = record { size = size; mask = λ e. absurd (true≢false (sym e)); space = space }

  curve_lent : Lent curve no_mask surface scratch
  unfolding curve
  curve_lent = record { size = size; mask = λ e. absurd (true≢false (sym e)); space = space }

  pub curve_drawn : (draw_answer curve no_mask (length surface) scratch ≡ answer 0 0 4 4) × (draw_surface curve no_mask surface scratch ≡ curve_picture)
  unfolding curve
  curve_drawn = (
    full_drawing_accepted curve no_mask surface scratch curve_accepted curve_lent,
    full_drawing_leaves_picture curve no_mask surface scratch curve_accepted curve_lent ∙ curve_picture_lem,
  )

  red_drawn : draw_surface red no_mask surface scratch ≡ red_picture
  red_drawn = full_drawing_leaves_picture red no_mask surface scratch red_accepted red_lent ∙ red_picture_lem

  one_size : OneSize red blue
  unfolding red blue
  one_size = record { width = refl; height = refl }

  red_there : Lent blue no_mask red_picture scratch
  unfolding blue square_picture
  red_there = record { size = refl; mask = λ e. absurd (true≢false (sym e)); space = space }

  pub red_turned_blue : (draw_surface red no_mask surface scratch ≡ red_picture) ×
      (redraw_answer red blue no_mask (length red_picture) scratch ≡ answer 0 0 3 3)
      × (redraw_surface red blue no_mask red_picture scratch ≡ blue_picture)
  red_turned_blue = (
    red_drawn,
    redraw_accepted red blue no_mask red_picture scratch red_accepted blue_accepted one_size red_there ∙ red_blue_damage,
    redraw_makes_picture red blue no_mask red_picture scratch red_accepted blue_accepted one_size red_there (sym red_picture_lem) ∙ blue_picture_lem,
  )
