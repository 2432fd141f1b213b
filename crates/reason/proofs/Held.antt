-- The edges of one segment, and of the end of the path, in a buffer of their own; and what the sums of a whole path give.
use mathlib.Core.Path.{◌≡◌, sym, ap, subst, ◌∙◌}
use mathlib.Core.Bool.{Bool}
use mathlib.Core.List.{List}
use Prim.Native.Nat.{ℕ, ◌+◌, ◌≤◌, ◌<◌}
use native.Mathlib.Omega.{arith}
use lib.ListN.{length, get_or}
use lib.IntN.{ℤ, pos}
use Rattle.std.specs.Prelude.{Ok}
use Rattle.lists.specs.Lists.{total}
use Rattle.path.specs.declared.FixedMatrix.{FixedMatrix}
use Rattle.path.specs.declared.Curve.{Curve}
use Rattle.path.specs.declared.Edge.{Edge}
use Rattle.path.specs.declared.Walk.{Walk}
use Rattle.path.specs.declared.Traced.{Traced}
use Rattle.path.specs.Limits.{Limited}
use Rattle.path.specs.Matrices.{fixed_matrix, transform}
use Rattle.path.specs.Segments.{line_to, drawn_by, walk_to, curve_at, fault_to}
use Rattle.path.specs.Curves.{transform_curve, drawn_edges, path_edges}
use Rattle.path.specs.Stored.{put_edges}
use Rattle.path.specs.Answers.{traced_by}
use Rattle.outline.specs.Asked.{OnGrid, PenPlaced, CurvePlaced}
use Rattle.outline.proofs.Counts.{path_count}
use Rattle.outline.proofs.Flattened.{Held, curve_held}
use Rattle.outline.proofs.Sizes.{placed_grid, curve_drawable, line_placed, pen_placed, drawn_placed}
use Rattle.outline.proofs.Walked.{traced_curve}
use Rattle.coverage.specs.Winding.{inside_by, one_if, coverage}
use Rattle.coverage.specs.Scanline.{Edges}
use Rattle.scene.specs.Fields.{matrix_of, segments_of, coordinates_of, segment_count, non_zero_rule}
use Rattle.engine.specs.Picture.{draw_edges}
use Rattle.reason.specs.Summed.{wound, Sums}
use Rattle.reason.proofs.Summed.{wound_small, inside_counted}

pub held_edges : (es : List Edge) (q : List ℤ) (r : ℕ) → Held es q r → Edges q r 0
held_edges es q r h = record { few = omega (arith, h.few); room = omega (arith, h.room); small = h.small }

-- what is stored of an accepted path, where the walk w is before segment i
module _ (m : FixedMatrix) (ss cs : List ℕ) (n i : ℕ) (limited : Limited m) (accepted : fault_to m ss cs n ≡ Ok tt) (w : Walk) (at : w ≡ walk_to ss cs i)
    (few : i ≤ n) where
  pub walk_placed : PenPlaced m w.pen
  walk_placed = subst (λ (v : Walk). PenPlaced m v.pen) (sym at) (pen_placed m ss cs limited i n few accepted)

  near : OnGrid (transform m w.pen.current)
  near = placed_grid m w.pen.current walk_placed.current

  module _ (l q : List ℤ) (r : ℕ) (room : 64 ≤ length l) where
    pub segment_held : i < n → (t : Traced) → t ≡ traced_by cs w (get_or ss i 0)
        → (q ≡ put_edges l 0 (drawn_edges m w.pen (drawn_by w.pen (get_or ss i 0) t.curve)))
        × (r ≡ 0 + length (drawn_edges m w.pen (drawn_by w.pen (get_or ss i 0) t.curve)))
        → Held (drawn_edges m w.pen (drawn_by w.pen (get_or ss i 0) t.curve)) q r
    segment_held inside t e h =
        let byte = get_or ss i 0 in
        let drawn : Curve = drawn_by w.pen byte t.curve in
        let there = subst (λ (v : Walk). CurvePlaced m (drawn_by v.pen byte (curve_at cs (walk_to ss cs i) byte))) (sym at)
        (drawn_placed m ss cs limited i n inside accepted) in
        let placed : CurvePlaced m drawn = subst (λ (c : Curve). CurvePlaced m (drawn_by w.pen byte c)) (sym (traced_curve m ss cs i w at t e)) there in
        curve_held (transform m w.pen.current) (transform_curve m drawn) l q r near (curve_drawable m drawn placed) room h

    pub closing_held : (q ≡ put_edges l 0 (drawn_edges m w.pen (line_to w.pen.start))) × (r ≡ 0 + length (drawn_edges m w.pen (line_to w.pen.start)))
        → Held (drawn_edges m w.pen (line_to w.pen.start)) q r
    closing_held h =
        curve_held (transform m w.pen.current) (transform_curve m (line_to w.pen.start)) l q r near
        (curve_drawable m (line_to w.pen.start) (line_placed m w.pen.start walk_placed.start)) room h

-- the sums of a path, from zeros on
module _ (m : FixedMatrix) (ss cs : List ℕ) (n x y : ℕ) (s q : List ℤ) (zeros : Sums s 0) (all : q ≡ wound x y s (path_edges m ss cs n)) where
  pub path_summed : n ≤ 128 → Sums q 4096
  path_summed few = wound_small x y s (path_edges m ss cs n) q 0 4096 all zeros (omega (arith, path_count m ss cs n, few))

  -- those inside, of a draw's path
  pub draw_counted : (edition : ℕ) (d : List ℕ) (non_zero : Bool) → m ≡ fixed_matrix (matrix_of d) → ss ≡ segments_of d → cs ≡ coordinates_of edition d
      → n ≡ segment_count d → non_zero ≡ non_zero_rule d
      → total 16 (λ j. one_if (inside_by non_zero (get_or q j (pos 0)))) ≡ coverage (draw_edges edition d) (non_zero_rule d) x y
  unfolding draw_edges
  draw_counted edition d non_zero matrix segments coordinates count rule =
      ap (λ (z : List ℤ). total 16 (λ j. one_if (inside_by non_zero (get_or z j (pos 0))))) all
      ∙ inside_counted x y s (path_edges m ss cs n) non_zero zeros
      ∙ rw (matrix, segments, coordinates, count, rule)
