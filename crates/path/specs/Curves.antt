-- Edges: curves cut in surface units, closing edges, and the list of a whole path's edges ("Paths").
use Rattle.std.specs.Prelude.{ℕ, suc, ◌-◌, ◌*◌, ◌/◌, ◌^◌, List, [], ◌∷◌, ◌++◌, Bool, cond, ◌&&◌, get_or, eqb, ℤ, pos, ◌+ℤ◌, ◌*ℤ◌}
use Rattle.std.specs.Int.Signed.{le_z}
use Rattle.lists.specs.Lists.{upto}
use Rattle.fixed.specs.Floor.{floor_div}
use Rattle.path.specs.Matrices.{transform}
use Rattle.path.specs.Segments.{walk_to, curve_at, drawn_by, line_to}
use Rattle.path.specs.declared.FixedMatrix.{FixedMatrix}
use Rattle.path.specs.declared.Point.{Point}
use Rattle.path.specs.declared.Pen.{Pen}
use Rattle.path.specs.declared.Curve.{Curve}
use Rattle.path.specs.declared.Edge.{Edge}
use Rattle.path.specs.declared.Walk.{Walk}

-- ---- curves of degree 2 and 3, cut at k / 16
-- 1 2 1 and 1 3 3 1
abbrev pub binomial : ℕ → ℕ → ℕ
binomial degree i = get_or (get_or ((1 ∷ []) ∷ (1 ∷ 1 ∷ []) ∷ (1 ∷ 2 ∷ 1 ∷ []) ∷ (1 ∷ 3 ∷ 3 ∷ 1 ∷ []) ∷ []) degree []) i 0

-- the weight of control point i, over 16 ^ degree: binomial · k ^ i · (16 - k) ^ (degree - i)
abbrev pub weight : ℕ → ℕ → ℕ → ℕ
weight degree k i = binomial degree i * (k ^ i * (16 - k) ^ (degree - i))

-- one axis: the weighted sum over 16 ^ degree, plus 1/2, floor. At 0 it is a, at 16 the end
unfoldable pub cut : ℕ → ℕ → ℤ → ℤ → ℤ → ℤ → ℤ
cut degree k a b c d =
    floor_div
    (a *ℤ pos (weight degree k 0) +ℤ b *ℤ pos (weight degree k 1) +ℤ c *ℤ pos (weight degree k 2) +ℤ d *ℤ pos (weight degree k 3) +ℤ pos (16 ^ degree / 2))
    (16 ^ degree)

abbrev pub cut_point : Point → Curve → ℕ → Point
cut_point o c k = record {
  x = cut c.degree k o.x c.p1.x c.p2.x c.p3.x;
  y = cut c.degree k o.y c.p1.y c.p2.y c.p3.y;
}

-- ---- edges
abbrev pub edge : Point → Point → Edge
edge a b = record { x0 = a.x; y0 = a.y; x1 = b.x; y1 = b.y }

abbrev pub equal : ℤ → ℤ → Bool
equal a b = le_z a b && le_z b a

-- an edge with equal ends is none
abbrev pub edge_between : Point → Point → List Edge
edge_between a b = cond (equal a.x b.x && equal a.y b.y) [] (edge a b ∷ [])

-- a line is one edge, a curve the 16 between its points at k = 0, .., 16
unfoldable pub curve_edges : Point → Curve → List Edge
curve_edges o c = cond (eqb c.degree 1) (edge_between o c.p3) (upto 16 (λ k. edge_between (cut_point o c k) (cut_point o c (suc k))))

-- a curve's points on the surface
abbrev pub transform_curve : FixedMatrix → Curve → Curve
transform_curve m c = record { degree = c.degree; p1 = transform m c.p1; p2 = transform m c.p2; p3 = transform m c.p3 }

abbrev pub drawn_edges : FixedMatrix → Pen → Curve → List Edge
drawn_edges m pen c = curve_edges (transform m pen.current) (transform_curve m c)

abbrev pub segment_edges : FixedMatrix → List ℕ → Walk → ℕ → List Edge
segment_edges m coordinates walk byte = drawn_edges m walk.pen (drawn_by walk.pen byte (curve_at coordinates walk byte))

-- the edges of the first n segments, and of a path of n segments: the end of the path closes the last subpath
abbrev pub edges_to : FixedMatrix → List ℕ → List ℕ → ℕ → List Edge
edges_to m segments coordinates n = upto n (λ i. segment_edges m coordinates (walk_to segments coordinates i) (get_or segments i 0))

unfoldable pub path_edges : FixedMatrix → List ℕ → List ℕ → ℕ → List Edge
path_edges m segments coordinates n =
    edges_to m segments coordinates n
    ++ drawn_edges m (walk_to segments coordinates n).pen (line_to (walk_to segments coordinates n).pen.start)
