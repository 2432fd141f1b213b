-- The bench cases C1 to C12, in one statement: the definitions give what the paper says.
use mathlib.Core.Path.{◌≡◌, refl}
use mathlib.Core.List.{map}
use lib.Ieee.{lt, mul, add, of_bits, to_unsigned}
use Rattle.color.specs.Channels.{channel_byte}
use Rattle.blend.specs.PorterDuff.{source_factor, destination_factor, composite_byte, composite}
use Rattle.paint.specs.Gradient.{linear_t, mapped}
use Rattle.paint.specs.Ramps.{kept_stops, with_ends, ramp_at}
use Rattle.path.specs.Segments.{points_of, pen_after}
use Rattle.path.specs.Curves.{cut, curve_edges, path_edges}
use Rattle.coverage.specs.Winding.{upward, spans, at_or_left, sign, weight, counts, winding, coverage}
use Rattle.scene.specs.Blocks.{checksum_of}
use Rattle.cases.specs.Bench.{table}

pub bench_cases : map (λ r. r.given) table ≡ map (λ r. r.paper) table
unfolding lt mul add of_bits to_unsigned channel_byte source_factor destination_factor composite_byte composite linear_t mapped kept_stops with_ends ramp_at
    points_of pen_after cut curve_edges path_edges upward spans at_or_left sign weight counts winding coverage checksum_of table
bench_cases = refl
