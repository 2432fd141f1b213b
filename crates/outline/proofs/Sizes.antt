-- The points of an accepted path are in their range, in the path and on the surface, and so its edges are at most 8,388,608 in size.
use mathlib.Core.Path.{◌≡◌, refl, ap, subst, ◌∙◌}
use mathlib.Core.List.{List, [], ◌∷◌}
use mathlib.Core.Bool.{Bool, true, false, cond, ◌&&◌}
use Prim.Native.Nat.{ℕ, zero, suc, ◌+◌, ◌-◌, ◌≤◌, ◌<◌}
use native.Mathlib.Omega.{arith}
use lib.Dec.{eqb, leb}
use lib.ListN.{get_or}
use lib.IntN.{ℤ, pos, nat_abs, ◌+ℤ◌}
use borrow.Author.Tests.{eqb-true, eqb-false, leb-true, le-leb}
use Rattle.std.specs.Prelude.{Ok}
use Rattle.rect.proofs.Laws.{both, either}
use Rattle.fixed.specs.Floor.{floor_div}
use Rattle.fixed.proofs.Tests.{is_true, both_left, both_right}
use Rattle.fixed.proofs.Within.{Within}
use Rattle.fixed.proofs.Poly.{var, num, ◌⊕◌, ◌⊗◌, eq}
use Rattle.fixed.proofs.Round.{within_round}
use Rattle.path.specs.declared.FixedMatrix.{FixedMatrix}
use Rattle.path.specs.declared.Point.{Point}
use Rattle.path.specs.declared.Curve.{Curve}
use Rattle.path.specs.Matrices.{transform, transform_axis, on_surface_grid}
use Rattle.path.specs.Segments.{line_to, number, drawn_by, pen_after, walk_to, curve_at, fault_to, origin}
use Rattle.path.specs.Curves.{cut_point, equal, edge, edge_between, curve_edges, transform_curve, path_edges}
use Rattle.path.specs.Stored.{Small}
use Rattle.path.specs.Limits.{Limited, Supplied}
use Rattle.path.proofs.Codes.{accepted, supplied, near_curve}
use Rattle.path.proofs.Faults.{accepted_before, accepted_below, accepted_ready}
use Rattle.outline.specs.Asked.{OnGrid, Drawable, Placed, PenPlaced, CurvePlaced}
use Rattle.outline.proofs.Bezier.{curved, cut_size}
use Rattle.outline.proofs.Counts.{curve_line, curve_pieces}
use Rattle.outline.proofs.Returns.{Shaped, straight, bent, twisted, points_shaped}
use Rattle.outline.proofs.Every.{Every, none, more, every_append, every_upto}

-- ---- points on the surface's grid
on_grid_lem : (p : Point) → on_surface_grid p ≡ true → OnGrid p
on_grid_lem p h =
    let k = both (leb (nat_abs p.x) 8388608) (leb (nat_abs p.y) 8388608) h in
    record { x = leb-true _ _ k.0; y = leb-true _ _ k.1 }

-- the origin is moved only
axis_near : (a b t : ℤ) → nat_abs t ≤ 2147483648 → nat_abs (transform_axis a b t origin) ≤ 8388608
axis_near a b t h =
    subst (λ (z : ℤ). nat_abs (floor_div (z +ℤ pos 128) 256) ≤ 8388608)
    (eq (var t) (var a ⊗ num 0 ⊕ var b ⊗ num 0 ⊕ var t) (omega arith))
    (within_round {b = 8388608} {z = t} (record { size = h })).size

origin_there : (m : FixedMatrix) → Limited m → on_surface_grid (transform m origin) ≡ true
origin_there m h =
    rw (
      le-leb (nat_abs (transform m origin).x) 8388608 (axis_near m.sx m.shx m.tx h.tx),
      le-leb (nat_abs (transform m origin).y) 8388608 (axis_near m.shy m.sy m.ty h.ty),
    )

-- ---- edges between such points
edge_small : (a b : Point) → OnGrid a → OnGrid b → Every Small (edge_between a b)
edge_small a b h k = by (equal a.x b.x && equal a.y b.y)
  where
    by : (t : Bool) → Every Small (cond t [] (edge a b ∷ []))
    by true = none
    by false = more (record { x0 = h.x; y0 = h.y; x1 = k.x; y1 = k.y }) none

module _ (o : Point) (c : Curve) (near : OnGrid o) (h : Drawable c) where
  cut_grid : 2 ≤ c.degree → (k : ℕ) → k ≤ 16 → OnGrid (cut_point o c k)
  cut_grid l k m =
      let d = curved c.degree l h.most in
      let px : Within 8388608 o.x = record { size = near.x } in
      let qx : Within 8388608 c.p1.x = record { size = h.p1.x } in
      let rx : Within 8388608 c.p2.x = record { size = h.p2.x } in
      let sx : Within 8388608 c.p3.x = record { size = h.p3.x } in
      let py : Within 8388608 o.y = record { size = near.y } in
      let qy : Within 8388608 c.p1.y = record { size = h.p1.y } in
      let ry : Within 8388608 c.p2.y = record { size = h.p2.y } in
      let sy : Within 8388608 c.p3.y = record { size = h.p3.y } in
      record { x = (cut_size px qx rx sx d k m).size; y = (cut_size py qy ry sy d k m).size }

  pub curve_small : Every Small (curve_edges o c)
  curve_small =
      either (eqb c.degree 1)
      (λ e. rw (curve_line o c (eqb-true _ _ e)) (edge_small o c.p3 near h.p3))
      (λ e. let n = eqb-false c.degree 1 e in
      let l : 2 ≤ c.degree = omega (arith, h.some, n) in
      rw (curve_pieces o c n) (every_upto 16 _ (λ k m. edge_small _ _ (cut_grid l k (omega arith)) (cut_grid l (suc k) (omega arith)))))

-- ---- what the matrix makes of placed points
pub placed_grid : (m : FixedMatrix) (p : Point) → Placed m p → OnGrid (transform m p)
placed_grid m p h = on_grid_lem (transform m p) h.there

pub curve_drawable : (m : FixedMatrix) (c : Curve) → CurvePlaced m c → Drawable (transform_curve m c)
curve_drawable m c h = record {
  some = h.some;
  most = h.most;
  p1 = placed_grid m c.p1 h.p1;
  p2 = placed_grid m c.p2 h.p2;
  p3 = placed_grid m c.p3 h.p3;
}

pub line_placed : (m : FixedMatrix) (e : Point) → Placed m e → CurvePlaced m (line_to e)
line_placed m e h = record { some = omega arith; most = omega arith; p1 = h; p2 = h; p3 = h }

shaped_degree : (c : Curve) → Shaped c → (1 ≤ c.degree) × (c.degree ≤ 3)
shaped_degree c (straight e) = (omega arith, omega arith)
shaped_degree c (bent d e) = (omega arith, omega arith)
shaped_degree c (twisted d e f) = (omega arith, omega arith)

-- ---- an accepted path
module _ (m : FixedMatrix) (ss cs : List ℕ) (limited : Limited m) where
  accepted_to : (i n : ℕ) → i ≤ n → fault_to m ss cs n ≡ Ok tt → fault_to m ss cs i ≡ Ok tt
  accepted_to i n l e = let q : i + (n - i) ≡ n = omega arith in accepted_below m ss cs i (n - i) (ap (fault_to m ss cs) q ∙ e)

  -- the points of segment i
  pub curve_placed : (i n : ℕ) → i < n → fault_to m ss cs n ≡ Ok tt → CurvePlaced m (curve_at cs (walk_to ss cs i) (get_or ss i 0))
  curve_placed i n l e =
      let w = walk_to ss cs i in
      let byte = get_or ss i 0 in
      let c = curve_at cs w byte in
      let a = accepted m cs w byte (accepted_before m ss cs i (accepted_to (suc i) n l e)).1 in
      let near = near_curve c a.in_range in
      let g1 = on_surface_grid (transform m c.p1) in
      let g2 = on_surface_grid (transform m c.p2) in
      let g3 = on_surface_grid (transform m c.p3) in
      let t = both_right g1 (g2 && g3) a.on_grid in
      let d = shaped_degree c (points_shaped w.pen byte _) in
      record {
        some = d.0;
        most = d.1;
        p1 = record { near = near.p1; there = is_true g1 (both_left g1 (g2 && g3) a.on_grid) };
        p2 = record { near = near.p2; there = is_true g2 (both_left g2 g3 t) };
        p3 = record { near = near.p3; there = is_true g3 (both_right g2 g3 t) };
      }

  pub segment_supplied : (i n : ℕ) → i < n → fault_to m ss cs n ≡ Ok tt → Supplied cs (walk_to ss cs i) (get_or ss i 0)
  segment_supplied i n l e =
      supplied m cs (walk_to ss cs i) (get_or ss i 0) (accepted_ready m ss cs i (accepted_to i n (omega arith) e))
      (accepted_before m ss cs i (accepted_to (suc i) n l e)).1

  -- the pen before it
  pub pen_placed : (i n : ℕ) → i ≤ n → fault_to m ss cs n ≡ Ok tt → PenPlaced m (walk_to ss cs i).pen
  unfolding pen_after
  pen_placed zero n l e =
      let h = (accepted_ready m ss cs 0 refl).held in
      record { start = record { near = h.start; there = origin_there m limited }; current = record { near = h.current; there = origin_there m limited } }
  pen_placed (suc i) n l e =
      let c = curve_placed i n l e in
      record { start = by (eqb (number (get_or ss i 0)) 2) (pen_placed i n (omega arith) e).start c.p3; current = c.p3 }
    where
      by : (t : Bool) {a b : Point} → Placed m a → Placed m b → Placed m (cond t b a)
      by true h k = k
      by false h k = h

  pub drawn_placed : (i n : ℕ) → i < n → fault_to m ss cs n ≡ Ok tt
      → CurvePlaced m (drawn_by (walk_to ss cs i).pen (get_or ss i 0) (curve_at cs (walk_to ss cs i) (get_or ss i 0)))
  drawn_placed i n l e = by (leb (number (get_or ss i 0)) 2) (line_placed m _ (pen_placed i n (omega arith) e).start) (curve_placed i n l e)
    where
      by : (t : Bool) {a b : Curve} → CurvePlaced m a → CurvePlaced m b → CurvePlaced m (cond t a b)
      by true h k = h
      by false h k = k

  pub path_small : (n : ℕ) → fault_to m ss cs n ≡ Ok tt → Every Small (path_edges m ss cs n)
  unfolding path_edges
  path_small n e =
      let pen = (walk_to ss cs n).pen in
      let p = pen_placed n n (omega arith) e in
      every_append
      (every_upto n _ (λ i l. curve_small _ _ (placed_grid m _ (pen_placed i n (omega arith) e).current) (curve_drawable m _ (drawn_placed i n l e))))
      (curve_small _ _ (placed_grid m pen.current p.current) (curve_drawable m (line_to pen.start) (line_placed m pen.start p.start)))
