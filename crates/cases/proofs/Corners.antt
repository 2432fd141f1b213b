-- The corners that no bench case reaches, in one statement: the definitions give what is asked.
use mathlib.Core.Path.{◌≡◌, refl}
use mathlib.Core.List.{map}
use lib.Ieee.{lt, mul, add, of_bits, to_unsigned, is_nan}
use Rattle.color.specs.Channels.{channel_byte}
use Rattle.blend.specs.PorterDuff.{source_factor, destination_factor, composite_byte, composite}
use Rattle.paint.specs.Ramps.{kept_stops, with_ends, ramp_at}
use Rattle.path.specs.Segments.{points_of, pen_after, segment_code}
use Rattle.scene.specs.Layout.{coordinates_at, flags_limit}
use Rattle.scene.specs.Blocks.{checksum_of, block_right_from}
use Rattle.scene.specs.Fields.{first_stop_at}
use Rattle.scene.specs.Rules.{stop_limit_of, count_rules, flags_allowed, head_rules, float_rules, circle_rules, stop_rules, list_rules, flat_rule, path_rules}
use Rattle.scene.specs.Rules.{transform_rules, rest_rules, draw_rules, header_rules, check_faults_from}
use Rattle.cases.specs.Scenes.{square_draw, red}
use Rattle.cases.specs.Corners.{corners}

pub corner_cases : map (λ r. r.given) corners ≡ map (λ r. r.paper) corners
unfolding corners red square_draw lt mul add of_bits to_unsigned is_nan channel_byte source_factor destination_factor composite_byte composite kept_stops
    with_ends ramp_at points_of pen_after segment_code checksum_of block_right_from stop_limit_of count_rules flags_allowed head_rules float_rules circle_rules
    first_stop_at
    stop_rules list_rules transform_rules flat_rule path_rules rest_rules draw_rules coordinates_at flags_limit header_rules check_faults_from
corner_cases = refl
