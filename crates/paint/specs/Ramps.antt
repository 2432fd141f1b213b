-- The ramp: from the stops' bytes to a list of stops, and its colour at t ("Ramp"). Stop i is five f32, offset, R, G, B, A, at 20 i.
use Rattle.std.specs.Prelude.{ℕ, zero, suc, ◌+◌, ◌-◌, ◌*◌, ◌/◌, Bool, false, cond, ◌||◌, List, [], ◌∷◌, map, ℤ, pos, ◌==◌, int_lt, nat_lt, unsigned_abs, Float}
use Rattle.std.specs.Float.Ieee.{lt}
use Rattle.lists.specs.Lists.{upto}
use Rattle.fixed.specs.Floats.{f32_at, in_unit, scaled}
use Rattle.color.specs.declared.Pixel.{Pixel}
use Rattle.color.specs.Channels.{channel_byte, premultiplied}
use Rattle.paint.specs.Gradient.{ramp_unit}
use Rattle.paint.specs.declared.Stop.{Stop}

-- ---- the stops as given
abbrev pub offset_at : List ℕ → ℕ → Float
offset_at stops i = f32_at stops (20 * i)

abbrev pub color_at : List ℕ → ℕ → Pixel
color_at stops i = record {
  r = channel_byte (f32_at stops (20 * i + 4));
  g = channel_byte (f32_at stops (20 * i + 8));
  b = channel_byte (f32_at stops (20 * i + 12));
  a = channel_byte (f32_at stops (20 * i + 16));
}

-- an offset falls below the one before it, among the first n + 1
abbrev pub falls_in : List ℕ → ℕ → Bool
falls_in stops zero = false
falls_in stops (suc n) = falls_in stops n || lt (offset_at stops (suc n)) (offset_at stops n)

-- those outside 0..1 are dropped; an offset in 0..1 becomes floor(65,536v + 1/2)
abbrev pub kept_at : List ℕ → ℕ → List Stop
kept_at stops i = cond (in_unit (offset_at stops i)) (record { offset = unsigned_abs (scaled ramp_unit (offset_at stops i)); color = color_at stops i } ∷ []) []

-- stops whose offsets ever fall are ignored all together
unfoldable pub kept_stops : List ℕ → ℕ → List Stop
kept_stops stops n = cond (falls_in stops (n - 1)) [] (upto n (kept_at stops))

-- ---- the ends
abbrev pub black : Pixel
black = record { r = 0; g = 0; b = 0; a = 255 }

abbrev pub white : Pixel
white = record { r = 255; g = 255; b = 255; a = 255 }

abbrev pub stop : ℕ → Pixel → Stop
stop offset color = record { offset = offset; color = color }

-- a missing end copies the first or last colour
abbrev pub with_end : Stop → List Stop → List Stop
with_end a [] = a ∷ cond (a.offset == ramp_unit) [] (stop ramp_unit a.color ∷ [])
with_end a (b ∷ rest) = a ∷ with_end b rest

unfoldable pub with_ends : List Stop → List Stop
with_ends [] = stop 0 black ∷ stop ramp_unit white ∷ []
with_ends (a ∷ rest) = cond (a.offset == 0) (with_end a rest) (stop 0 a.color ∷ with_end a rest)

-- with bit 2 the stops are premultiplied first
abbrev pub prepared : Bool → Stop → Stop
prepared premultiply s = stop s.offset (cond premultiply (premultiplied s.color) s.color)

abbrev pub ramp_of : Bool → List ℕ → ℕ → List Stop
ramp_of premultiply stops n = map (prepared premultiply) (with_ends (kept_stops stops n))

-- ---- the colour at t
-- floor((ci(xj - t) + cj(t - xi) + floor((xj - xi) / 2)) / (xj - xi))
abbrev pub mix_byte : ℕ → ℕ → ℕ → ℕ → ℕ → ℕ
mix_byte xi xj t ci cj = (ci * (xj - t) + cj * (t - xi) + (xj - xi) / 2) / (xj - xi)

abbrev pub mix_pixel : ℕ → ℕ → ℕ → Pixel → Pixel → Pixel
mix_pixel xi xj t ci cj = record {
  r = mix_byte xi xj t ci.r cj.r;
  g = mix_byte xi xj t ci.g cj.g;
  b = mix_byte xi xj t ci.b cj.b;
  a = mix_byte xi xj t ci.a cj.a;
}

abbrev pub mix : Stop → Stop → ℕ → Pixel
mix i j t = mix_pixel i.offset j.offset t i.color j.color

abbrev pub last_color : Stop → List Stop → Pixel
last_color i [] = i.color
last_color i (j ∷ rest) = last_color j rest

-- between stop i and the first whose next offset is above t
abbrev pub between : Stop → List Stop → ℕ → Pixel
between i [] t = i.color
between i (j ∷ rest) t = cond (nat_lt t j.offset) (mix i j t) (between j rest t)

-- t below 0 gives the first stop, t from 65,536 the last
unfoldable pub ramp_at : List Stop → ℤ → Pixel
ramp_at [] t = black
ramp_at (i ∷ rest) t = cond (int_lt t (pos 0)) i.color (cond (int_lt t (pos ramp_unit)) (between i rest (unsigned_abs t)) (last_color i rest))
