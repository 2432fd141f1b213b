-- How the code holds a gradient: what a draw is known to keep to, the ramp in a lent run of numbers, t along a row. Only the proofs need it: a
-- reviewer of the paper need not read it.
use Rattle.std.specs.Prelude.{◌≡◌, ℕ, zero, suc, ◌+◌, ◌*◌, ◌/◌, ◌%◌, ◌<◌, ◌≤◌, Bool, false, cond, List, [], ◌∷◌, ◌++◌, length, drop, ℤ, pos, ◌+ℤ◌, ◌-ℤ◌}
use Rattle.std.specs.Prelude.{◌*ℤ◌, ◌≤ℤ◌, ◌<ℤ◌, ◌==◌, int_lt, slice_index, slice_index_or, unsigned_abs, Float, Option, Some, None}
use Rattle.std.specs.Float.Ieee.{lt}
use Rattle.fixed.specs.Floor.{floor_div, floor_mod}
use Rattle.color.specs.declared.Pixel.{Pixel}
use Rattle.paint.specs.Gradient.{ramp_unit, projection, squared_length, linear_t, mapped}
use Rattle.paint.specs.Ramps.{stop, black, white, with_end}
use Rattle.paint.specs.Paints.{gradient_color}
use Rattle.paint.specs.declared.FixedPoints.{FixedPoints}
use Rattle.paint.specs.declared.LinearGradient.{LinearGradient}
use Rattle.paint.specs.declared.Quotient.{Quotient}
use Rattle.paint.specs.declared.Stop.{Stop}

-- points of at most 4,096 pixels in size
pub record LimitedPoints (p : FixedPoints) : Type 0 where
  pub x0 : unsigned_abs p.x0 ≤ 1048576
  pub y0 : unsigned_abs p.y0 ≤ 1048576
  pub x1 : unsigned_abs p.x1 ≤ 1048576
  pub y1 : unsigned_abs p.y1 ≤ 1048576

-- ---- floats as they are read: a NaN is less than none
abbrev pub less_real : Option Float → Option Float → Bool
less_real (Some x) (Some y) = lt x y
less_real (Some x) None = false
less_real None b = false

-- ---- stops in a run of numbers, two to a stop: its offset, and its colour's four bytes as one number, R lowest
unfoldable pub packed : Pixel → ℕ
packed c = c.r + c.g * 256 + c.b * 65536 + c.a * 16777216

unfoldable pub unpacked : ℕ → Pixel
unpacked n = record { r = n % 256; g = n / 256 % 256; b = n / 65536 % 256; a = n / 16777216 % 256 }

abbrev pub stop_at : List ℕ → ℕ → Stop
stop_at ramp i = record { offset = slice_index ramp (i * 2); color = unpacked (slice_index ramp (i * 2 + 1)) }

-- n stops from the ith on
abbrev pub stops_from : List ℕ → ℕ → ℕ → List Stop
stops_from ramp i zero = []
stops_from ramp i (suc n) = stop_at ramp i ∷ stops_from ramp (suc i) n

abbrev pub stops_in : List ℕ → ℕ → List Stop
stops_in ramp count = stops_from ramp 0 count

-- the run holds so many stops; the first lies at 0, and none above 65,536
pub record HeldRamp (ramp : List ℕ) (count : ℕ) : Type 0 where
  pub some : 0 < count
  pub places : count * 2 ≤ length ramp
  pub first : slice_index_or ramp 0 0 ≡ 0
  pub below : (i : ℕ) → i < count → slice_index ramp (i * 2) ≤ ramp_unit

-- ---- the ramp as it is built, stop after stop
-- numbers for 32 stops and two ends
abbrev pub ramp_numbers : ℕ
ramp_numbers = 68

-- of the run before, the first places are written with the stops l, and the others are as they were
pub record Written (before after : List ℕ) (count : ℕ) (l : List Stop) : Type 0 where
  pub stops : stops_in after count ≡ l
  pub rest : drop (count * 2) after ≡ drop (count * 2) before

-- an end at 0 before the first
abbrev pub with_first : List Stop → List Stop
with_first [] = []
with_first (a ∷ rest) = cond (a.offset == 0) (a ∷ rest) (stop 0 a.color ∷ a ∷ rest)

-- one more, or none: the first with its end
abbrev pub grown : List Stop → List Stop → List Stop
grown l [] = l
grown [] (s ∷ more) = with_first (s ∷ [])
grown (a ∷ l) (s ∷ more) = (a ∷ l) ++ (s ∷ [])

-- an end at 65,536 after the last; without any, black and white
abbrev pub closed : List Stop → List Stop
closed [] = stop 0 black ∷ stop ramp_unit white ∷ []
closed (a ∷ rest) = with_end a rest

-- ---- t along a row: the numerator over the squared length, from pixel to pixel
abbrev pub quotient_of : ℤ → ℕ → Quotient
quotient_of n d = record { whole = floor_div n d; rest = pos (floor_mod n d) }

unfoldable pub quotient_at : FixedPoints → ℕ → ℕ → Quotient
quotient_at p x y = quotient_of (pos ramp_unit *ℤ projection p x y) (unsigned_abs (squared_length p))

-- 65,536 times 256 dx
unfoldable pub row_step : FixedPoints → Quotient
row_step p = quotient_of (pos 16777216 *ℤ (p.x1 -ℤ p.x0)) (unsigned_abs (squared_length p))

-- two quotients over d added, with a carry where the rests reach d
abbrev pub add_quotients : Quotient → Quotient → ℤ → Quotient
add_quotients a b d =
    cond (int_lt (a.rest +ℤ b.rest) d)
    (record { whole = a.whole +ℤ b.whole; rest = a.rest +ℤ b.rest })
    (record { whole = a.whole +ℤ b.whole +ℤ pos 1; rest = a.rest +ℤ b.rest -ℤ d })

-- at most 2^60 in size, so that a sum fits 64 bits
pub record Moderate (q : Quotient) : Type 0 where
  pub whole : unsigned_abs q.whole ≤ 1152921504606846976
  pub rest : unsigned_abs q.rest ≤ 1152921504606846976

-- ---- t along a row as a line in parts of 2^44
abbrev pub line_parts : ℕ
line_parts = 17592186044416

-- t in these parts lies on the ramp, which has 65,536 times as many
pub record Inner (t : ℤ) : Type 0 where
  pub above : pos 0 ≤ℤ t
  pub below : t <ℤ pos 1152921504606846976

-- a quotient over d in these parts, rounded up
unfoldable pub in_parts : Quotient → ℤ → ℤ
in_parts q d = q.whole *ℤ pos line_parts +ℤ pos (unsigned_abs q.rest * line_parts / unsigned_abs d + 1)

-- a quotient over d as a division leaves it: 0 ≤ rest < d
pub record Proper (q : Quotient) (d : ℤ) : Type 0 where
  pub rest : q.rest ≡ pos (unsigned_abs q.rest)
  pub divisor : d ≡ pos (unsigned_abs d)
  pub below : unsigned_abs q.rest < unsigned_abs d

-- a spread mode that leaves t as it is
pub record Pads (spread : ℕ) : Type 0 where
  pub same : (t : ℤ) → mapped spread t ≡ t

-- so small that the line has t at n pixels from q on, and fits 64 bits
pub record Lined (spread : ℕ) (q step : Quotient) (d : ℤ) (n : ℕ) : Type 0 where
  pub pads : Pads spread
  pub whole : unsigned_abs q.whole < 131072
  pub growth : unsigned_abs step.whole < 1024
  pub length : unsigned_abs d < 137438953472
  pub near : (i : ℕ) → i < n → (i + 1) * unsigned_abs d < line_parts

-- t of the n pixels from (x, y) on, as the spread mode maps it, lies on the line, whose numbers fit 64 bits
pub record Follows (g : LinearGradient) (x y n : ℕ) (first step : ℤ) : Type 0 where
  pub small : unsigned_abs first ≤ 2305843009213693952
  pub slow : unsigned_abs step ≤ 18014398509481984
  pub same : (i : ℕ) → i < n → floor_div (first +ℤ step *ℤ pos i) line_parts ≡ mapped g.spread (linear_t g.points (x + i) y)

-- ---- a linear gradient as it is drawn
abbrev pub linear_at : LinearGradient → List Stop → ℕ → ℕ → Pixel
linear_at g ramp x y = gradient_color g.spread g.premultiply ramp (linear_t g.points x y)
