-- The bench cases C1 to C12: what the definitions give, beside what the paper says.
use Rattle.std.specs.Prelude.{ℕ, List, [], ◌∷◌, ◌++◌, true, false, replicate, ℤ, pos, negsuc, Float}
use Rattle.std.specs.Float.{fin}
use Rattle.color.specs.declared.Pixel.{Pixel}
use Rattle.color.specs.Channels.{channel_byte, premultiply}
use Rattle.blend.specs.PorterDuff.{composite, mode_src_over}
use Rattle.paint.specs.declared.LinearPoints.{LinearPoints}
use Rattle.paint.specs.Gradient.{fixed_points, linear_t, mapped, spread_pad, spread_repeat, spread_reflect}
use Rattle.paint.specs.Ramps.{ramp_of, ramp_at, black}
use Rattle.path.specs.declared.Matrix.{Matrix}
use Rattle.path.specs.declared.Edge.{Edge}
use Rattle.path.specs.Matrices.{fixed_matrix, transform}
use Rattle.path.specs.Segments.{point, origin, quad_to}
use Rattle.path.specs.Curves.{cut_point, path_edges}
use Rattle.coverage.specs.Winding.{coverage}
use Rattle.scene.specs.Blocks.{checksum_of}

-- ---- floats
abbrev zero : Float
zero = fin false 0 (pos 0)

-- m / 2 ^ (n + 1), and its negative
abbrev part : ℕ → ℕ → Float
part m n = fin false m (negsuc n)

abbrev minus : ℕ → ℕ → Float
minus m n = fin true m (negsuc n)

abbrev one : Float
one = fin false 1 (pos 0)

-- ---- a square of one pixel, drawn once or twice round, moved by tx
abbrev moved_by : Float → Matrix
moved_by tx = record { sx = one; shy = zero; shx = zero; sy = one; tx = tx; ty = zero }

-- (0, 0), (1, 0), (1, 1), (0, 1) as signed 16-bit coordinates, and move, line, line, line, close
abbrev corners : List ℕ
corners = 0 ∷ 0 ∷ 0 ∷ 0 ∷ 1 ∷ 0 ∷ 0 ∷ 0 ∷ 1 ∷ 0 ∷ 1 ∷ 0 ∷ 0 ∷ 0 ∷ 1 ∷ 0 ∷ []

abbrev round : List ℕ
round = 2 ∷ 4 ∷ 4 ∷ 4 ∷ 0 ∷ []

abbrev square : Float → List Edge
square tx = path_edges (fixed_matrix (moved_by tx)) round corners 5

abbrev square_twice : List Edge
square_twice = path_edges (fixed_matrix (moved_by zero)) (round ++ round) (corners ++ corners) 10

-- ---- a gradient from x = 0 to x = 4, and stops of five f32: offset, R, G, B, A
abbrev four_pixels : LinearPoints
four_pixels = record { x0 = zero; y0 = zero; x1 = fin false 1 (pos 2); y1 = zero }

abbrev bytes_of_zero : List ℕ
bytes_of_zero = 0 ∷ 0 ∷ 0 ∷ 0 ∷ []

abbrev bytes_of_one : List ℕ
bytes_of_one = 0 ∷ 0 ∷ 128 ∷ 63 ∷ []

abbrev red_and_blue_at_zero : List ℕ
red_and_blue_at_zero =
    bytes_of_zero ++ bytes_of_one ++ bytes_of_zero ++ bytes_of_zero ++ bytes_of_one
    ++ bytes_of_zero ++ bytes_of_zero ++ bytes_of_zero ++ bytes_of_one ++ bytes_of_one

abbrev bytes_of : Pixel → List ℤ
bytes_of p = pos p.r ∷ pos p.g ∷ pos p.b ∷ pos p.a ∷ []

-- ---- the byte that SrcOver stores under k without a mask, of a grey s with alpha sa over a grey d with alpha da
abbrev grey : ℕ → ℕ → Pixel
grey c a = record { r = c; g = c; b = c; a = a }

abbrev over : ℕ → ℕ → ℕ → ℕ → ℕ → ℕ
over k s sa d da = (composite mode_src_over k 255 (grey s sa) (grey d da)).r

-- ---- block 0 of the 2 by 1 scene with no draws and background 0, 0, 0, 255
abbrev two_by_one : List ℕ
two_by_one = 2 ∷ 0 ∷ 1 ∷ 0 ∷ 0 ∷ 0 ∷ 0 ∷ 0 ∷ 0 ∷ 0 ∷ 0 ∷ 255 ∷ replicate 496 0

-- the whole file: its check behind it
abbrev pub two_by_one_file : List ℕ
two_by_one_file = two_by_one ++ (0x03 ∷ 0xFF ∷ 0x4F ∷ 0xFA ∷ [])

-- ---- the table
pub record Row : Type 0 where
  pub given : List ℤ
  pub paper : List ℤ

abbrev row : List ℤ → List ℤ → Row
row given paper = record { given = given; paper = paper }

unfoldable pub table : List Row
table =
    -- C1
    row (pos (coverage (square (part 1 0)) false 0 0) ∷ pos (coverage (square (part 1 0)) false 1 0)
    ∷ pos (over (coverage (square (part 1 0)) false 1 0) 255 255 0 255) ∷ [])
    (pos 8 ∷ pos 8 ∷ pos 128 ∷ [])
    -- C2
    ∷ row (pos (coverage (square (part 1 2)) false 0 0) ∷ pos (coverage (square (part 1 2)) false 1 0) ∷ []) (pos 16 ∷ pos 0 ∷ [])
    -- C3
    ∷ row (pos (coverage square_twice false 0 0) ∷ pos (coverage square_twice true 0 0) ∷ []) (pos 0 ∷ pos 16 ∷ [])
    -- C4: the destination has alpha 255 (paper 02, P2)
    ∷ row (pos (over 16 100 128 200 255) ∷ []) (pos 200 ∷ [])
    -- C5
    ∷ row (pos (premultiply 255 128) ∷ []) (pos 128 ∷ [])
    -- C6
    ∷ row (pos (channel_byte (part 1 0)) ∷ pos (channel_byte one) ∷ pos (channel_byte (fin true 1 (pos 0))) ∷ []) (pos 128 ∷ pos 255 ∷ pos 0 ∷ [])
    -- C7
    ∷ row (linear_t (fixed_points four_pixels) 0 0 ∷ linear_t (fixed_points four_pixels) 3 0 ∷ []) (pos 8192 ∷ pos 57344 ∷ [])
    ∷ row (bytes_of (ramp_at (ramp_of false [] 0) (linear_t (fixed_points four_pixels) 0 0))
    ++ bytes_of (ramp_at (ramp_of false [] 0) (linear_t (fixed_points four_pixels) 3 0)))
    (pos 32 ∷ pos 32 ∷ pos 32 ∷ pos 255 ∷ pos 223 ∷ pos 223 ∷ pos 223 ∷ pos 255 ∷ [])
    -- C8
    ∷ row (bytes_of (ramp_at (ramp_of false [] 0) (mapped spread_pad (negsuc 8191))) ++ mapped spread_repeat (negsuc 8191) ∷ mapped spread_reflect (negsuc 8191)
    ∷ [])
    (bytes_of black ++ pos 57344 ∷ pos 8192 ∷ [])
    -- C9
    ∷ row (bytes_of (ramp_at (ramp_of false red_and_blue_at_zero 2) (negsuc 0)) ++ bytes_of (ramp_at (ramp_of false red_and_blue_at_zero 2) (pos 0)))
    (pos 255 ∷ pos 0 ∷ pos 0 ∷ pos 255 ∷ pos 0 ∷ pos 0 ∷ pos 255 ∷ pos 255 ∷ [])
    -- C10
    ∷ row ((cut_point origin (quad_to (point (pos 256) (pos 512)) (point (pos 512) (pos 0))) 8).x
    ∷ (cut_point origin (quad_to (point (pos 256) (pos 512)) (point (pos 512) (pos 0))) 8).y ∷ [])
    (pos 256 ∷ pos 256 ∷ [])
    -- C11
    ∷ row ((transform (fixed_matrix (moved_by (part 1 8))) origin).x ∷ (transform (fixed_matrix (moved_by (minus 1 8))) origin).x ∷ []) (pos 1 ∷ pos 0 ∷ [])
    -- C12
    ∷ row (pos (checksum_of 0 two_by_one 0).plain ∷ pos (checksum_of 0 two_by_one 0).weighted ∷ []) (pos 65283 ∷ pos 64079 ∷ [])
    ∷ []
