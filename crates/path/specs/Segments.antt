-- Segments: the walk of the pen over a path, step by step, and its rules ("Paths", document 003, Table 6).
-- segments and coordinates are the path's bytes; a coordinate is a signed 16-bit number.
use Rattle.std.specs.Prelude.{ℕ, zero, suc, ◌+◌, ◌*◌, ◌/◌, ◌%◌, List, [], ◌∷◌, Bool, cond, ◌&&◌, get_or, length, leb, ltb, eqb, ℤ, pos, negsuc, ◌+ℤ◌, ◌-ℤ◌}
use Rattle.std.specs.Prelude.{◌*ℤ◌}
use Rattle.std.specs.Int.Signed.{le_z}
use Rattle.std.specs.Prelude.{Result, Ok, Err}
use Rattle.codes.specs.declared.Code.{Code}
use Rattle.codes.specs.declared.Code.TheVariants.{IllegalArgument, UnsupportedPathFormat}
use Rattle.codes.specs.First.{first_among}
use Rattle.fixed.specs.Little.{i16_at}
use Rattle.path.specs.Matrices.{transform, on_surface_grid}
use Rattle.path.specs.declared.FixedMatrix.{FixedMatrix}
use Rattle.path.specs.declared.Point.{Point}
use Rattle.path.specs.declared.Pen.{Pen}
use Rattle.path.specs.declared.Curve.{Curve}
use Rattle.path.specs.declared.Walk.{Walk}
use Rattle.path.specs.declared.PathFault.{PathFault}

-- ---- a segment byte: low bit relative, the rest the number
abbrev pub relative : ℕ → Bool
relative byte = eqb (byte % 2) 1

abbrev pub number : ℕ → ℕ
number byte = byte / 2 * 2

-- the numbers, and how many coordinates each takes
abbrev pub number_close : ℕ
number_close = 0

abbrev pub number_move : ℕ
number_move = 2

abbrev pub number_horizontal : ℕ
number_horizontal = 6

abbrev pub number_vertical : ℕ
number_vertical = 8

abbrev pub number_quad : ℕ
number_quad = 10

abbrev pub number_cubic : ℕ
number_cubic = 12

abbrev pub number_smooth_quad : ℕ
number_smooth_quad = 14

abbrev pub number_smooth_cubic : ℕ
number_smooth_cubic = 16

abbrev pub taking : List ℕ
taking = 0 ∷ 2 ∷ 2 ∷ 1 ∷ 1 ∷ 4 ∷ 6 ∷ 2 ∷ 4 ∷ []

abbrev pub coordinates_taken : ℕ → ℕ
coordinates_taken byte = get_or taking (byte / 2) 0

-- numbers 18 to 24 are arcs; 26, 28, 30 and bytes above 31 are no segments
abbrev pub is_arc : ℕ → Bool
is_arc byte = leb 18 (number byte) && leb (number byte) 24

abbrev pub is_none : ℕ → Bool
is_none byte = leb 26 (number byte)

-- ---- points
abbrev pub point : ℤ → ℤ → Point
point x y = record { x = x; y = y }

abbrev pub origin : Point
origin = point (pos 0) (pos 0)

-- a coordinate in -32,768..32,767, and a point with both
abbrev pub in_sixteen_bits : ℤ → Bool
in_sixteen_bits z = le_z (negsuc 32767) z && le_z z (pos 32767)

abbrev pub in_range : Point → Bool
in_range p = in_sixteen_bits p.x && in_sixteen_bits p.y

-- ---- the pen: start s, current o and control p begin at (0, 0)
abbrev pub pen_at : Point → Point → Point → Pen
pen_at s o p = record { start = s; current = o; control = p }

abbrev pub first_pen : Pen
first_pen = pen_at origin origin origin

-- 2o - p, the first control of a smooth segment
abbrev pub reflected : Pen → Point
reflected pen = point (pos 2 *ℤ pen.current.x -ℤ pen.control.x) (pos 2 *ℤ pen.current.y -ℤ pen.control.y)

-- what relative coordinates are added to
abbrev pub base : ℕ → Pen → Point
base byte pen = cond (relative byte) pen.current origin

-- ---- a curve of degree 1, 2 or 3 from the current point: its controls and its end. The end fills the places that the degree leaves free
abbrev pub line_to : Point → Curve
line_to e = record { degree = 1; p1 = e; p2 = e; p3 = e }

abbrev pub quad_to : Point → Point → Curve
quad_to c e = record { degree = 2; p1 = c; p2 = e; p3 = e }

abbrev pub cubic_to : Point → Point → Point → Curve
cubic_to c d e = record { degree = 3; p1 = c; p2 = d; p3 = e }

-- the absolute points of a segment, whose coordinate j is c j; the last case is that of move and line
abbrev pub pair_at : Point → (ℕ → ℤ) → ℕ → Point
pair_at o c j = point (o.x +ℤ c j) (o.y +ℤ c (j + 1))

unfoldable pub points_of : Pen → ℕ → (ℕ → ℤ) → Curve
points_of pen byte c =
    cond (eqb (number byte) number_close) (line_to pen.start)
    (cond (eqb (number byte) number_horizontal) (line_to (point ((base byte pen).x +ℤ c 0) pen.current.y))
    (cond (eqb (number byte) number_vertical) (line_to (point pen.current.x ((base byte pen).y +ℤ c 0)))
    (cond (eqb (number byte) number_quad) (quad_to (pair_at (base byte pen) c 0) (pair_at (base byte pen) c 2))
    (cond (eqb (number byte) number_cubic) (cubic_to (pair_at (base byte pen) c 0) (pair_at (base byte pen) c 2) (pair_at (base byte pen) c 4))
    (cond (eqb (number byte) number_smooth_quad) (quad_to (reflected pen) (pair_at (base byte pen) c 0))
    (cond (eqb (number byte) number_smooth_cubic) (cubic_to (reflected pen) (pair_at (base byte pen) c 0) (pair_at (base byte pen) c 2))
    (line_to (pair_at (base byte pen) c 0))))))))

-- what a segment draws: a close and a move the edge back to the start, the others their curve
abbrev pub drawn_by : Pen → ℕ → Curve → Curve
drawn_by pen byte curve = cond (leb (number byte) number_move) (line_to pen.start) curve

-- Table 6, side effects: a move sets the start too; the control is the last inner control of a curve, else the end
abbrev pub last_control : Curve → Point
last_control curve = cond (eqb curve.degree 2) curve.p1 curve.p2

unfoldable pub pen_after : Pen → ℕ → Curve → Pen
pen_after pen byte curve = pen_at (cond (eqb (number byte) number_move) curve.p3 pen.start) curve.p3 (last_control curve)

-- ---- the walk: the pen and the number of coordinates used after the first n segments
abbrev pub coordinate_from : List ℕ → ℕ → ℕ → ℤ
coordinate_from coordinates used j = i16_at coordinates (2 * (used + j))

abbrev pub curve_at : List ℕ → Walk → ℕ → Curve
curve_at coordinates walk byte = points_of walk.pen byte (coordinate_from coordinates walk.used)

abbrev pub walk_on : List ℕ → Walk → ℕ → Walk
walk_on coordinates walk byte = record {
  pen = pen_after walk.pen byte (curve_at coordinates walk byte);
  used = walk.used + coordinates_taken byte;
}

abbrev pub first_walk : Walk
first_walk = record { pen = first_pen; used = 0 }

abbrev pub walk_to : List ℕ → List ℕ → ℕ → Walk
walk_to segments coordinates zero = first_walk
walk_to segments coordinates (suc n) = walk_on coordinates (walk_to segments coordinates n) (get_or segments n 0)

-- ---- the rules of a segment: it is accepted, or refused with a code. A 567th coordinate, in edition 1 a 551st, is one past the
-- bytes that a scene has for them
abbrev pub curve_in_range : Curve → Bool
curve_in_range c = in_range c.p1 && (in_range c.p2 && in_range c.p3)

abbrev pub curve_on_grid : FixedMatrix → Curve → Bool
curve_on_grid m c = on_surface_grid (transform m c.p1) && (on_surface_grid (transform m c.p2) && on_surface_grid (transform m c.p3))

unfoldable pub segment_code : FixedMatrix → List ℕ → Walk → ℕ → Result Unit Code
segment_code m coordinates walk byte =
    cond (is_arc byte) (Err UnsupportedPathFormat)
    (cond (is_none byte) (Err IllegalArgument)
    (cond (ltb (length coordinates) (2 * (walk.used + coordinates_taken byte))) (Err IllegalArgument)
    (cond (curve_in_range (curve_at coordinates walk byte) && curve_on_grid m (curve_at coordinates walk byte)) (Ok tt) (Err IllegalArgument))))

-- what is found of segment n by its rules
abbrev pub fault_at : Result Unit Code → ℕ → Result Unit PathFault
fault_at (Ok _) n = Ok tt
fault_at (Err code) n = Err (record { code = code; segment = n })

-- the first fault among the first n segments: its code and the segment's number
abbrev pub fault_to : FixedMatrix → List ℕ → List ℕ → ℕ → Result Unit PathFault
fault_to m segments coordinates n =
    first_among n (λ i. fault_at (segment_code m coordinates (walk_to segments coordinates i) (get_or segments i 0)) i)
