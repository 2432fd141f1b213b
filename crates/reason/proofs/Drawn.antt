-- A draw's line by what was found of it: outside, not covered, covered.
use mathlib.Core.Path.{◌≡◌, sym, ap, ◌∙◌}
use mathlib.Core.List.{List}
use mathlib.Core.Bool.{true, false}
use Prim.Native.Nat.{ℕ}
use lib.Dec.{eqb}
use borrow.Author.Tests.{eq-eqb, ne_eqb}
use Rattle.color.specs.declared.Pixel.{Pixel}
use Rattle.blend.specs.PorterDuff.{composite}
use Rattle.blend.proofs.Shortcuts.{uncovered_keeps}
use Rattle.coverage.specs.Winding.{coverage}
use Rattle.coverage.specs.Scissors.{scissored}
use Rattle.scene.specs.Fields.{blend_of, non_zero_rule}
use Rattle.engine.specs.Picture.{draw_edges, coverage_of, draw_coverage, draw_mask, draw_paint, step_of, draw_step}
use Rattle.reason.specs.declared.Line.{Line}
use Rattle.reason.specs.Explanations.{outside, uncovered, bare_line, outside_scissors, covered_line, line_of}
use Rattle.reason.specs.Lines.{line_by}

module _ (edition : ℕ) (d : List ℕ) (f : ℕ → ℕ → ℕ) (x y : ℕ) (p : Pixel) where
  -- not covered: the pixel stays
  kept : draw_coverage edition d x y ≡ 0 → draw_step edition d f x y p ≡ p
  unfolding step_of
  kept e =
      let m = draw_mask d f x y in
      ap (λ (n : ℕ). composite (blend_of d) n m (draw_paint d x y) p) e ∙ uncovered_keeps (blend_of d) m (draw_paint d x y) p

  -- outside scissors that are on, k is 0
  scissored_off : outside_scissors d x y ≡ true → draw_coverage edition d x y ≡ 0
  unfolding outside_scissors coverage_of scissored
  scissored_off t = rw t

  pub outside_line : outside_scissors d x y ≡ true → bare_line outside p p ≡ line_of edition d f x y p
  unfolding line_of
  outside_line t = rw t (ap (bare_line outside p) (sym (kept (scissored_off t))))

  -- else it is the path's
  module _ (t : outside_scissors d x y ≡ false) (k : ℕ) (e : k ≡ coverage (draw_edges edition d) (non_zero_rule d) x y) where
    samples_are : k ≡ draw_coverage edition d x y
    unfolding outside_scissors coverage_of scissored
    samples_are = rw t e

    pub uncovered_line : k ≡ 0 → bare_line uncovered p p ≡ line_of edition d f x y p
    unfolding line_of
    uncovered_line q =
        let z = sym samples_are ∙ q in
        rw (t, eq-eqb (draw_coverage edition d x y) 0 z) (ap (bare_line uncovered p) (sym (kept z)))

    pub covered_line_lem : (m : ℕ) (r : Line) → (k ≡ 0 → ⊥) → m ≡ draw_mask d f x y → r ≡ line_by d k m x y p → r ≡ line_of edition d f x y p
    unfolding line_of covered_line step_of
    covered_line_lem m r n g o =
        let z = samples_are in
        let more : eqb (draw_coverage edition d x y) 0 ≡ false = ne_eqb (draw_coverage edition d x y) 0 (λ q. n (z ∙ q)) in
        o ∙ rw (t, more, z, g)
