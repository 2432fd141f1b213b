-- The two laws of a draw that all above rests on: outside its box it changes nothing, and draws are taken one after the other.
use mathlib.Core.Path.{◌≡◌, refl, sym, ap, ◌∙◌}
use mathlib.Core.List.{List, [], ◌∷◌, foldl-append}
use mathlib.Core.Bool.{Bool, true, false}
use Prim.Native.Nat.{ℕ, ◌+◌, ◌≤◌, ◌<◌}
use native.Mathlib.Omega.{arith}
use native.Mathlib.Numerals.{add-one}
use lib.IntN.{ℤ, pos, ◌+ℤ◌}
use lib.Signed.{le_z}
use Rattle.fixed.specs.Floor.{floor_div}
use Rattle.color.specs.declared.Pixel.{Pixel}
use Rattle.color.specs.Channels.{premultiplied, UnderAlpha}
use Rattle.rect.specs.declared.Rect.{Rect}
use Rattle.rect.specs.Rects.{Inside, On, Holds, meet_of, empty_of}
use Rattle.rect.proofs.Laws.{either, empty_out, in_or_out, not_empty, meet_in, meet_left, meet_right}
use Rattle.raster.specs.declared.Target.{Target}
use Rattle.raster.specs.Surface.{pixel_of}
use Rattle.raster.specs.Rows.{Part, stepped}
use Rattle.raster.proofs.Overlay.{overlay_none, overlay_skip, overlay_then, overlay_same}
use Rattle.blend.specs.PorterDuff.{composite_on, composite}
use Rattle.blend.proofs.Masks.{uncovered_masked}
use Rattle.blend.proofs.Shortcuts.{uncovered_keeps}
use Rattle.path.specs.declared.Edge.{Edge}
use Rattle.path.specs.Boxes.{outer_of, within, box_of}
use Rattle.path.specs.Closed.{Closed}
use Rattle.path.specs.Matrices.{fixed_matrix}
use Rattle.outline.proofs.Returns.{path_closed}
use Rattle.coverage.specs.Winding.{coverage}
use Rattle.coverage.specs.Scissors.{scissored}
use Rattle.coverage.proofs.Outside.{outside_box_uncovered}
use Rattle.coverage.proofs.Limits.{scissored_uncovered}
use Rattle.coverage.proofs.Clipped.{clipped_away}
use Rattle.scene.specs.Blocks.{draw_of}
use Rattle.scene.specs.Header.{count_of, edition_of, background_of}
use Rattle.scene.specs.Fields.{blend_of, matrix_of, segments_of, coordinates_of, segment_count, scissoring, scissors_of, scissor_count, non_zero_rule}
use Rattle.engine.specs.Picture.{draw_edges, coverage_of, draw_paint, draw_mask, step_of, draw_all, first_draws, pixel_at}
use Rattle.engine.specs.Unclamped.{unclamped_of, unclamped_step, unclamped_all}
use Rattle.engine.specs.Rows.{clip_of}
use Rattle.engine.proofs.Unclamped.{all_same}

pub draw_closed : (edition : ℕ) (d : List ℕ) → Closed (draw_edges edition d)
unfolding draw_edges
draw_closed edition d = path_closed (fixed_matrix (matrix_of d)) (segments_of d) (coordinates_of edition d) (segment_count d)

-- ---- its box lies on the surface
within_most : (n : ℕ) (z : ℤ) → within n z ≤ n
within_most n z = either (le_z z (pos 0)) (λ e. rw e (omega arith)) (λ e. rw e (omega arith))

pub edges_on : (w h : ℕ) (es : List Edge) → ((box_of w h es).x1 ≤ w) × ((box_of w h es).y1 ≤ h)
unfolding box_of
edges_on w h [] = (omega arith, omega arith)
edges_on w h (e ∷ es) =
    (within_most w (floor_div (outer_of true false (e ∷ es)) 256 +ℤ pos 1), within_most h (floor_div (outer_of true true (e ∷ es)) 256 +ℤ pos 1))

-- ---- outside its box it changes nothing
uncovered : (es : List Edge) (d : List ℕ) (w h x y : ℕ) → Closed es → x < w → y < h → (Inside (box_of w h es) x y → ⊥) → coverage_of es d x y ≡ 0
unfolding coverage_of
uncovered es d w h x y c k l o =
    ap (scissored (scissoring d) (scissors_of d) (scissor_count d) x y) (outside_box_uncovered w h (non_zero_rule d) x y k l es c o)
    ∙ scissored_uncovered (scissoring d) (scissors_of d) (scissor_count d) x y

pub step_out : (es : List Edge) (d : List ℕ) (mask : ℕ → ℕ → ℕ) (w h x y : ℕ) (p : Pixel) → Closed es → x < w → y < h
    → (Inside (box_of w h es) x y → ⊥) → step_of es d mask x y p ≡ p
unfolding step_of
step_out es d mask w h x y p c k l o =
    let m = draw_mask d mask x y in
    ap (λ (n : ℕ). composite (blend_of d) n m (draw_paint d x y) p) (uncovered es d w h x y c k l o) ∙ uncovered_keeps (blend_of d) m (draw_paint d x y) p

-- ---- the same without the clamp, as the rows are drawn, and outside of the scissors too
clipped : (es : List Edge) (d : List ℕ) (x y : ℕ) → x < 1024 → y < 1024 → (Inside (clip_of d) x y → ⊥) → coverage_of es d x y ≡ 0
unfolding coverage_of
clipped es d x y k l o = by (scissoring d) refl
  where
    by : (t : Bool) → scissoring d ≡ t → scissored (scissoring d) (scissors_of d) (scissor_count d) x y (coverage es (non_zero_rule d) x y) ≡ 0
    by true e = rw e (clipped_away (scissors_of d) (scissor_count d) x y (coverage es (non_zero_rule d) x y) k l (λ i. o (rw e i)))
    by false e = absurd (o (rw e (record { left = omega arith; right = k; below = omega arith; above = l })))

unclamped_out : (es : List Edge) (d : List ℕ) (mask : ℕ → ℕ → ℕ) (w h x y : ℕ) (p : Pixel) → Closed es → w ≤ 1024 → h ≤ 1024 → x < w → y < h
    → (Inside (meet_of (box_of w h es) (clip_of d)) x y → ⊥) → unclamped_of es d mask x y p ≡ p
unfolding unclamped_of
unclamped_out es d mask w h x y p c u v k l o =
    let m = draw_mask d mask x y in
    let none : coverage_of es d x y ≡ 0 =
    in_or_out (box_of w h es) x y
    (λ i. clipped es d x y (omega arith) (omega arith) (λ j. o (meet_in (box_of w h es) (clip_of d) x y i j)))
    (λ j. uncovered es d w h x y c k l j) in
    ap (λ (n : ℕ). composite_on (blend_of d) n m (draw_paint d x y) p) none ∙ uncovered_masked (blend_of d) m (draw_paint d x y) p

draws_more : (edition : ℕ) (s : List ℕ) (mask : ℕ → ℕ → ℕ) (n x y : ℕ) (p : Pixel)
    → unclamped_all edition (first_draws s (n + 1)) mask x y p ≡ unclamped_step edition (draw_of s n) mask x y
    (unclamped_all edition (first_draws s n) mask x y p)
draws_more edition s mask n x y p = rw (add-one, foldl-append)

-- ---- the pixels of the box are enough
-- nothing of it is in a where nothing is of a rectangle that holds it
pub hull_none : (a b r : Rect) → Holds r b → empty_of (meet_of a r) ≡ true → empty_of (meet_of a b) ≡ true
hull_none a b r h e =
    let m = meet_of a b in
    either (empty_of m) (λ f. f)
    (λ f.
    let n = not_empty m f in
    let i : Inside m m.x0 m.y0 = record { left = omega arith; right = n.wide; below = omega arith; above = n.high } in
    absurd (empty_out (meet_of a r) m.x0 m.y0 e
    (meet_in a r m.x0 m.y0 (meet_left a b m.x0 m.y0 i) (h m.x0 m.y0 (meet_right a b m.x0 m.y0 i)))))

meet_on : (w h : ℕ) (a b : Rect) → On w h a → empty_of (meet_of a b) ≡ false → On w h (meet_of a b)
meet_on w h a b o e =
    let n = not_empty (meet_of a b) e in
    record { across = omega arith; wide = omega arith; up = omega arith; high = omega arith }

module _ (t : Target) (es : List Edge) (s : List ℕ) (d : List ℕ) (part : Part t s) where
  abbrev box : Rect
  box = meet_of (box_of t.width t.height es) (clip_of d)

  module _ (mask : ℕ → ℕ → ℕ) (closed : Closed es) where
    pub box_enough : (b : Rect) (r : List ℕ) → b ≡ meet_of t.area box
        → r ≡ stepped (record { width = t.width; height = t.height; area = b }) (unclamped_of es d mask) s → r ≡ stepped t (unclamped_of es d mask) s
    box_enough b r e o =
        overlay_skip t.width t.height t.area (unclamped_of es d mask) box s r
        (λ x y p k l i. unclamped_out es d mask t.width t.height x y p closed part.placed.wide part.placed.high k l i)
        (o ∙ ap (λ (z : Rect). stepped (record { width = t.width; height = t.height; area = z }) (unclamped_of es d mask) s) e)

    pub box_none : (b : Rect) → b ≡ meet_of t.area box → empty_of b ≡ true → s ≡ stepped t (unclamped_of es d mask) s
    box_none b e z = box_enough b s e (overlay_none t.width t.height b _ s part.long (λ x y i. empty_out b x y z i))

  -- and lie on the surface
  pub box_part : (b : Rect) → b ≡ meet_of t.area box → empty_of b ≡ false → Part (record { width = t.width; height = t.height; area = b }) s
  box_part b e z =
      let on : On t.width t.height b = rw e (meet_on t.width t.height t.area box part.placed.on (ap empty_of (sym e) ∙ z)) in
      record { placed = record { on = on; wide = part.placed.wide; high = part.placed.high }; long = part.long }

-- ---- a turn of the loop over the draws, and all of them on the background
pub draws_turn : (t : Target) (edition : ℕ) (scene : List ℕ) (mask : ℕ → ℕ → ℕ) (s r e d : List ℕ) (i : ℕ) → e ≡ draw_of scene i
    → s ≡ stepped t (unclamped_all edition (first_draws scene i) mask) d → r ≡ stepped t (unclamped_step edition e mask) s
    → r ≡ stepped t (unclamped_all edition (first_draws scene (i + 1)) mask) d
draws_turn t edition scene mask s r e d i q o u =
    let w = t.width in
    let h = t.height in
    let a = t.area in
    overlay_then w h a (unclamped_step edition (draw_of scene i) mask) (λ x y. unclamped_all edition (first_draws scene i) mask x y (pixel_of w d x y)) s r d o
    (u ∙ ap (λ (z : List ℕ). stepped t (unclamped_step edition z mask) s) q)
    ∙ overlay_same w h a _ _ d (λ x y k l j. sym (draws_more edition scene mask i x y (pixel_of w d x y)))

pub pixel_is : (scene : List ℕ) (mask : ℕ → ℕ → ℕ) (n x y : ℕ) → n ≡ count_of scene → UnderAlpha (premultiplied (background_of scene))
    → unclamped_all (edition_of scene) (first_draws scene n) mask x y (premultiplied (background_of scene)) ≡ pixel_at scene mask x y
unfolding pixel_at
pixel_is scene mask n x y e h =
    all_same (edition_of scene) (first_draws scene n) mask x y (premultiplied (background_of scene)) h
    ∙ ap (λ (k : ℕ). draw_all (edition_of scene) (first_draws scene k) mask x y (premultiplied (background_of scene))) e
