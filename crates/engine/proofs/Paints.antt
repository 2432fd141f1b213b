-- A draw decoded: its shade is its paint, and its rows' step is its own.
use mathlib.Core.Path.{◌≡◌, refl, sym, ap, subst, ◌∙◌}
use mathlib.Core.Bool.{Bool, true, false}
use mathlib.Core.List.{List}
use Prim.Native.Nat.{ℕ, ◌*◌, ◌≤◌, ◌<◌}
use native.Mathlib.Omega.{arith}
use lib.Dec.{eqb}
use lib.ListN.{length, drop, length-take, length-drop}
use Rattle.std.specs.Bool.{then_some}
use Rattle.color.specs.declared.Color.{Color}
use Rattle.color.specs.declared.Pixel.{Pixel}
use Rattle.color.specs.Channels.{bytes_of_color, premultiplied, UnderAlpha}
use Rattle.raster.specs.declared.Target.{Target}
use Rattle.raster.specs.Surface.{pixel_of}
use Rattle.raster.specs.Rows.{stepped}
use Rattle.raster.proofs.Overlay.{overlay_same}
use Rattle.fixed.specs.Floats.{at_most}
use Rattle.blend.specs.PorterDuff.{mode_src, composite_on}
use Rattle.blend.specs.Unmasked.{unmasked_on}
use Rattle.blend.specs.Spans.{hides, four_of, masked_pixel}
use Rattle.blend.proofs.Masks.{masked_step}
use Rattle.blend.proofs.Shortcuts.{hiding_replaces}
use Rattle.path.specs.declared.Edge.{Edge}
use Rattle.coverage.specs.Winding.{coverage}
use Rattle.coverage.specs.Scissors.{scissored}
use Rattle.paint.specs.declared.AnyGradient.TheVariants as gradient
use Rattle.paint.specs.declared.LinearGradient.{LinearGradient}
use Rattle.paint.specs.declared.LinearPoints.{LinearPoints}
use Rattle.paint.specs.declared.RadialGradient.{RadialGradient}
use Rattle.paint.specs.declared.RadialPoints.{RadialPoints}
use Rattle.paint.specs.declared.Paint.{Paint}
use Rattle.paint.specs.declared.Paint.TheVariants as paint
use Rattle.paint.specs.Paints.{paint_linear, paint_at}
use Rattle.paint.specs.Radial.{fixed_circle, focal_allowed}
use Rattle.transform.specs.declared.FixedTransform.{FixedTransform}
use Rattle.transform.specs.Transforms.{fixed_transform, transformed}
use Rattle.scene.specs.Fields.{transforms, transform_of}
use Rattle.scene.specs.Fields.{
  paint_of,
  paint_type_of,
  pick_paint,
  color_of,
  linear_of,
  is_radial,
  radial_of,
  first_stop_at,
  stops_of,
  stop_count,
  scissoring,
  scissors_of,
  scissor_count,
  non_zero_rule,
  blend_of,
}
use Rattle.scene.specs.Rules.{stop_limit_of}
use Rattle.scene.specs.Accepted.{AcceptedFields}
use Rattle.scene.proofs.Accepted.{stops_fit}
use Rattle.lists.proofs.Laws.{part_length}
use Rattle.engine.specs.Picture.{coverage_of, draw_transform, draw_paint, draw_mask}
use Rattle.engine.specs.Unclamped.{unclamped_of}
use Rattle.std.specs.Prelude.{Option, None, Some}
use Rattle.engine.specs.declared.Shade.{Shade}
use Rattle.engine.specs.declared.Shade.TheVariants.{Solid, Gradient}
use Rattle.engine.specs.declared.Style.{Style}
use Rattle.engine.specs.Rows.{Few, scissored_by, coverage_with, step_with, tinted_by, shade_at, style_of, in_mode, SameBlend, Tints, MadeLinear}
use Rattle.engine.specs.Rows.{MadeRadial, Shades}
use Rattle.engine.specs.Background.{HidingPaint}
use Rattle.engine.proofs.Unclamped.{drawn_under}

-- ---- the colour transformation
pub tint_on : (d : List ℕ) (t : FixedTransform) → transforms d ≡ true → t ≡ fixed_transform (transform_of d) → Tints d (Some t)
unfolding tinted_by draw_transform
tint_on d t e f p = rw e (ap (λ (u : FixedTransform). transformed u p) f)

pub tint_off : (d : List ℕ) → transforms d ≡ false → Tints d None
unfolding tinted_by draw_transform
tint_off d e p = rw e

-- ---- the paint
module _ (d : List ℕ) (t : Option FixedTransform) (tints : Tints d t) where
  pub solid_shades : (c : Color) (p q : Pixel) (before : List ℕ) → paint_of d ≡ paint.Solid c → p ≡ premultiplied (bytes_of_color c) → q ≡ tinted_by t p
      → Shades d (Solid q) before before
  unfolding shade_at draw_paint paint_at
  solid_shades c p q before e f g = record { paint = λ x y. g ∙ tints p ∙ rw e (ap (draw_transform d) f); asked = tt; run = refl }

  module _ (before after : List ℕ) where
    pub linear_shades : (p : LinearPoints) (g : LinearGradient) → paint_of d ≡ paint.Linear p → MadeLinear d p g before after
        → Shades d (Gradient (record { gradient = gradient.Linear g; tint = t })) before after
    unfolding shade_at draw_paint paint_at
    linear_shades p g e o = record {
      paint = λ x y. tints _ ∙ rw (e, o.ramp.written.stops, o.spread, o.premultiply, o.points);
      asked = (o.limited, o.ramp.held);
      run = o.ramp.written;
    }

    pub radial_shades : (p : RadialPoints) (g : RadialGradient) → paint_of d ≡ paint.Radial p → MadeRadial d p g before after
        → Shades d (Gradient (record { gradient = gradient.Radial g; tint = t })) before after
    unfolding shade_at draw_paint paint_at
    radial_shades p g e o = record {
      paint = λ x y. tints _ ∙ rw (e, o.ramp.written.stops, o.spread, o.premultiply, o.circle);
      asked = (o.limited, o.focal, o.ramp.held);
      run = o.ramp.written;
    }

-- ---- the step
-- a pixel that hides what is under it is blended as under Src: its own bytes by the mask's weight
as_src : (mode k m : ℕ) (s p : Pixel) → UnderAlpha s → s.a < 256 → hides mode s.a ≡ true → composite_on mode_src k m s p ≡ composite_on mode k m s p
as_src mode k m s p u l h =
    masked_step mode_src k m s p
    ∙ ap (λ (b : Pixel). masked_pixel k (four_of m) b p) (replaces mode_src refl ∙ sym (replaces mode h))
    ∙ sym (masked_step mode k m s p)
  where
    replaces : (z : ℕ) → hides z s.a ≡ true → unmasked_on z 16 s p ≡ s
    replaces z o = hiding_replaces z s p (omega (arith, u.r)) (omega (arith, u.g)) (omega (arith, u.b)) l o

pub hiding_as_src : (mode : ℕ) (paint : ℕ → ℕ → Pixel) → HidingPaint mode paint → SameBlend mode_src mode paint
hiding_as_src mode paint h x y k m p u = as_src mode k m (paint x y) p u (h x y).1 (h x y).0

-- scissors where they are on
pub few_chosen : (t : Bool) (n : ℕ) → n ≤ 4 → Few (then_some t n)
few_chosen true n h = h
few_chosen false n h = tt

pub cut_chosen : (t : Bool) (n : ℕ) (scissors : List ℕ) (x y k : ℕ) → scissored_by (then_some t n) scissors x y k ≡ scissored t scissors n x y k
unfolding scissored
cut_chosen true n scissors x y k = refl
cut_chosen false n scissors x y k = refl

module _ (d : List ℕ) (n mode : ℕ) (shade : Shade) (ramp : List ℕ) (paint : (x y : ℕ) → shade_at shade ramp x y ≡ draw_paint d x y)
    (same : SameBlend mode (blend_of d) (shade_at shade ramp)) where
  own_step : (es : List Edge) (mask : ℕ → ℕ → ℕ) (x y : ℕ) (q : Pixel)
      → step_with (in_mode (style_of d n shade) mode) es (scissors_of d) ramp (mask x y) x y q ≡ unclamped_of es d mask x y q
  unfolding step_with coverage_with unclamped_of coverage_of draw_mask
  own_step es mask x y q =
      ap (λ (k : ℕ). composite_on mode k (draw_mask d mask x y) (shade_at shade ramp x y) q)
      (cut_chosen (scissoring d) (scissor_count d) (scissors_of d) x y (coverage es (non_zero_rule d) x y))
      ∙ same x y (coverage_of es d x y) (draw_mask d mask x y) q (subst UnderAlpha (sym (paint x y)) (drawn_under d x y))
      ∙ ap (λ (p : Pixel). composite_on (blend_of d) (coverage_of es d x y) (draw_mask d mask x y) p q) (paint x y)

  pub own_steps : (t : Target) (es fs : List Edge) (mask : ℕ → ℕ → ℕ) (s r : List ℕ) (style : Style) (scissors : List ℕ)
      → style ≡ in_mode (style_of d n shade) mode → fs ≡ es → scissors ≡ scissors_of d
      → r ≡ stepped t (λ x y. step_with style fs scissors ramp (mask x y) x y) s → r ≡ stepped t (unclamped_of es d mask) s
  own_steps t es fs mask s r style scissors e f g o =
      o
      ∙ rw (e, f, g) (overlay_same t.width t.height t.area _ _ s (λ x y k l i. own_step es mask x y (pixel_of t.width s x y)))

-- the draw's style in a mode under which its paint is blended alike
pub styled : (d : List ℕ) (n : ℕ) (shade : Shade) (s r : Style) → s ≡ style_of d n shade → r ≡ in_mode s r.mode
    → r ≡ in_mode (style_of d n shade) r.mode
styled d n shade s r e f = f ∙ ap (λ (z : Style). in_mode z r.mode) e

-- ---- what the gradient's functions ask
abbrev points_of : LinearPoints → Paint → LinearPoints
points_of q (paint.Solid c) = q
points_of q (paint.Linear p) = p
points_of q (paint.Radial r) = q

abbrev circle_of : RadialPoints → Paint → RadialPoints
circle_of q (paint.Solid c) = q
circle_of q (paint.Linear p) = q
circle_of q (paint.Radial r) = r

abbrev is_circle : Paint → Bool
is_circle (paint.Solid c) = false
is_circle (paint.Linear p) = false
is_circle (paint.Radial r) = true

-- the paint that is picked tells what it was picked from
module _ (c : Color) (l : LinearPoints) (r : RadialPoints) where
  abbrev picked : Bool → Bool → Paint
  picked radial linear = pick_paint radial (paint.Radial r) (pick_paint linear (paint.Linear l) (paint.Solid c))

  picked_points : (a b : Bool) (p : LinearPoints) → picked a b ≡ paint.Linear p → l ≡ p
  picked_points true b p e = ap (points_of l) e
  picked_points false true p e = ap (points_of l) e
  picked_points false false p e = ap (points_of l) e

  picked_circle : (a b : Bool) (p : RadialPoints) → picked a b ≡ paint.Radial p → (a ≡ true) × (r ≡ p)
  picked_circle true b p e = (refl, ap (circle_of r) e)
  picked_circle false true p e = (ap is_circle e, ap (circle_of r) e)
  picked_circle false false p e = (ap is_circle e, ap (circle_of r) e)

linear_is : (d : List ℕ) (p : LinearPoints) → paint_of d ≡ paint.Linear p → linear_of d ≡ p
unfolding paint_of
linear_is d p e = picked_points (color_of d) (linear_of d) (radial_of d) (is_radial d) (eqb (paint_type_of d) paint_linear) p e

radial_is : (d : List ℕ) (p : RadialPoints) → paint_of d ≡ paint.Radial p → (is_radial d ≡ true) × (radial_of d ≡ p)
unfolding paint_of
radial_is d p e = picked_circle (color_of d) (linear_of d) (radial_of d) (is_radial d) (eqb (paint_type_of d) paint_linear) p e

pub points_limited : (d : List ℕ) (p : LinearPoints) → AcceptedFields d → paint_of d ≡ paint.Linear p
    → (at_most 4096 p.x0 ≡ true) × (at_most 4096 p.y0 ≡ true) × (at_most 4096 p.x1 ≡ true) × (at_most 4096 p.y1 ≡ true)
points_limited d p a e =
    rw (← (linear_is d p e)) (a.points 0 (omega arith), a.points 1 (omega arith), a.points 2 (omega arith), a.points 3 (omega arith))

module _ (d : List ℕ) (p : RadialPoints) (a : AcceptedFields d) (e : paint_of d ≡ paint.Radial p) where
  pub circle_limited : ((at_most 1024 p.cx ≡ true) × (at_most 1024 p.cy ≡ true))
      × ((at_most 1024 p.fx ≡ true) × (at_most 1024 p.fy ≡ true) × (at_most 1024 p.r ≡ true))
  circle_limited =
      let o = radial_is d p e in
      let h = a.circle o.0 in
      rw (← o.1) ((h 0 (omega arith), h 1 (omega arith)), (h 2 (omega arith), h 3 (omega arith), h 4 (omega arith)))

  pub focal_kept : focal_allowed (fixed_circle p) ≡ true
  focal_kept = let o = radial_is d p e in rw (← o.1) (a.focal o.0)

-- ---- parts of a draw's bytes
pub stops_hold : (d : List ℕ) → length d ≡ 2032 → stop_count d ≤ stop_limit_of d → 20 * stop_count d ≤ length (stops_of d)
stops_hold d e h =
    let fit = stops_fit d h in
    rw (part_length d (first_stop_at d) 772 (omega (arith, fit)) (omega arith)) (omega (arith, fit))

pub scissors_length : (d : List ℕ) → length d ≡ 2032 → length (scissors_of d) ≡ 64
scissors_length d e = length-take 64 (drop 68 d) ∙ rw (length-drop 68 d) (omega arith)
