-- How the code holds a part of a ramp between two stops, so that pixel after pixel is mixed without a division. Only the proofs need it: a reviewer of the
-- paper need not read it.
use Rattle.std.specs.Prelude.{◌≡◌, ℕ, zero, suc, ◌+◌, ◌-◌, ◌*◌, ◌/◌, ◌%◌, ◌<◌, ◌≤◌, min, Bool, cond, List, length, ℤ, pos, negsuc, ◌-ℤ◌, ◌*ℤ◌, ◌<ℤ◌, int_lt}
use Rattle.std.specs.Prelude.{slice_index, unsigned_abs}
use Rattle.lists.specs.Lists.{tab}
use Rattle.color.specs.declared.Pixel.{Pixel}
use Rattle.color.specs.Channels.{premultiplied}
use Rattle.paint.specs.Gradient.{ramp_unit, squared_length}
use Rattle.paint.specs.Ramps.{mix_byte, mix_pixel, between, ramp_at}
use Rattle.paint.specs.Buffers.{unpacked, stop_at, stops_from, stops_in}
use Rattle.paint.specs.declared.AnyGradient.{AnyGradient}
use Rattle.paint.specs.declared.AnyGradient.TheVariants.{Linear, Radial}
use Rattle.paint.specs.declared.Line.{Line}
use Rattle.paint.specs.declared.Segment.{Segment}
use Rattle.paint.specs.declared.Stop.{Stop}

-- a gradient whose t may differ from pixel to pixel of a row: points that do not coincide, a radius above 0
abbrev pub Sloped : AnyGradient → Type 0
Sloped (Linear g) = unsigned_abs (squared_length g.points) ≡ 0 → ⊥
Sloped (Radial g) = pos 0 <ℤ g.circle.r

-- ---- where on the ramp a pixel lies: at 0 before it, at t + 1 on it, at 65,537 behind it
unfoldable pub position_of : ℤ → ℕ
position_of t = cond (int_lt t (pos 0)) 0 (cond (int_lt t (pos ramp_unit)) (unsigned_abs t + 1) 65537)

-- t at a position
abbrev pub t_at : ℕ → ℤ
t_at zero = negsuc 0
t_at (suc n) = pos n

-- a ramp's colour as the paint of a pixel: premultiplied, if the stops were not
unfoldable pub finished : Bool → Pixel → Pixel
finished premultiply p = cond premultiply p (premultiplied p)

-- the paint at a position
unfoldable pub color_at_position : Bool → List Stop → ℕ → Pixel
color_at_position premultiply ramp k = finished premultiply (ramp_at ramp (t_at k))

-- positions of a block's pixels
pub record Positions (ks : List ℕ) : Type 0 where
  pub few : length ks ≤ 256
  pub below : (i : ℕ) → i < length ks → slice_index ks i ≤ 65537

-- ---- the pixels of a block, each as one number in place of its position
pub record Words (f : ℕ → Pixel) (n : ℕ) (ws : List ℕ) : Type 0 where
  pub long : length ws ≡ n
  pub color : (i : ℕ) → i < n → unpacked (slice_index ws i) ≡ f i

-- the first i of them are written, and the others are as they were
pub record Begun (f : ℕ → Pixel) (before : List ℕ) (i : ℕ) (ws : List ℕ) : Type 0 where
  pub long : length ws ≡ length before
  pub color : (j : ℕ) → j < i → unpacked (slice_index ws j) ≡ f j
  pub rest : (j : ℕ) → i ≤ j → slice_index ws j ≡ slice_index before j

-- no alpha of the first n is below low
pub record Covering (low n : ℕ) (ws : List ℕ) : Type 0 where
  pub above : (i : ℕ) → i < n → low ≤ (unpacked (slice_index ws i)).a

-- the colour at a position between two stops at 0 and 65,536: t cut to 0..65,535 gives the same
abbrev pub two_stops : Pixel → Pixel → ℕ → Pixel
two_stops c d k = mix_pixel 0 ramp_unit (min (k - 1) 65535) c d

-- t's of a block's pixels, each cut to 0..65,535
pub record OnRamp (ts : List ℕ) : Type 0 where
  pub below : (i : ℕ) → i < length ts → slice_index ts i < 65536

-- two channels at t as one number
unfoldable pub mix_pair : ℕ → ℕ → ℕ → ℕ → ℕ → ℕ
mix_pair ci cj di dj t = mix_byte 0 ramp_unit t ci cj + mix_byte 0 ramp_unit t di dj * 256

-- ---- a pixel as two numbers of 16 bits, R and G in the one, B and A in the other, and back
unfoldable pub left_pair : Pixel → ℕ
left_pair p = p.r + p.g * 256

unfoldable pub right_pair : Pixel → ℕ
right_pair p = p.b + p.a * 256

abbrev pub of_pairs : ℕ → ℕ → Pixel
of_pairs left right = record { r = left % 256; g = left / 256; b = right % 256; a = right / 256 }

abbrev pub Bytes : Pixel → Type 0
Bytes p = (p.r < 256) × (p.g < 256) × (p.b < 256) × (p.a < 256)

-- the pixels of a block as two planes of pairs
pub record Planes (f : ℕ → Pixel) (n : ℕ) (left right : List ℕ) : Type 0 where
  pub first : left ≡ tab n (λ i. left_pair (f i))
  pub second : right ≡ tab n (λ i. right_pair (f i))
  pub bytes : (i : ℕ) → i < n → Bytes (f i)

-- ---- a channel between two stops that lie d apart, as a line in parts of 2^40
abbrev pub parts : ℕ
parts = 1099511627776

-- 1 / d, rounded up
unfoldable pub reciprocal_of : ℕ → ℕ
reciprocal_of d = parts / d + 1

unfoldable pub line_of : ℕ → ℕ → ℕ → Line
line_of ci cj d = record { first = pos ((ci * d + d / 2) * reciprocal_of d); step = (pos cj -ℤ pos ci) *ℤ pos (reciprocal_of d) }

-- ---- a segment: from one position to before another, between two colours, of which it serves the positions from low on
unfoldable pub segment_of : ℕ → ℕ → ℕ → Pixel → Pixel → Segment
segment_of low from to left right = record {
  low = low;
  from = from;
  to = to;
  left = left;
  right = right;
  r = line_of left.r right.r (to - from);
  g = line_of left.g right.g (to - from);
  b = line_of left.b right.b (to - from);
  a = line_of left.a right.a (to - from);
}

pub record Sound (s : Segment) : Type 0 where
  pub same : s ≡ segment_of s.low s.from s.to s.left s.right
  pub low : s.from ≤ s.low
  pub some : s.low < s.to
  pub wide : s.to ≤ s.from + 65536

-- the segment has the ramp's colours at the positions that it serves
pub record Serves (ramp : List ℕ) (count : ℕ) (s : Segment) : Type 0 where
  pub sound : Sound s
  pub color : (k : ℕ) → s.low ≤ k → k < s.to → mix_pixel s.from s.to k s.left s.right ≡ ramp_at (stops_in ramp count) (t_at k)

-- the search for t has passed the stops before j, of which none lies above low
pub record Passed (ramp : List ℕ) (count j low : ℕ) : Type 0 where
  pub on : (t : ℕ) → low ≤ t
      → between (stop_at ramp 0) (stops_from ramp 1 (count - 1)) t ≡ between (stop_at ramp (j - 1)) (stops_from ramp j (count - j)) t
