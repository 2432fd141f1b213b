-- What the row functions compute of a draw that was taken apart. A reviewer of the paper need not read it.
use Rattle.std.specs.Prelude.{ℕ, ◌*◌, ◌≤◌, ◌<◌, ◌≡◌, Bool, true, cond, Option, None, Some, List, ℤ, pos, length, replicate}
use Rattle.std.specs.Bool.{then_some}
use Rattle.runs.specs.Runs.{expand, Runs}
use Rattle.color.specs.declared.Pixel.{Pixel}
use Rattle.color.specs.Channels.{UnderAlpha}
use Rattle.rect.specs.declared.Rect.{Rect}
use Rattle.rect.specs.Rects.{On, whole}
use Rattle.path.specs.declared.Edge.{Edge}
use Rattle.path.specs.Stored.{edges_of}
use Rattle.coverage.specs.Scanline.{Outlined}
use Rattle.coverage.specs.Scissors.{scissored}
use Rattle.coverage.specs.Clips.{scissor_box}
use Rattle.coverage.specs.Winding.{coverage}
use Rattle.raster.specs.declared.Target.{Target}
use Rattle.blend.specs.PorterDuff.{composite_on}
use Rattle.blend.specs.Rows.{Coverage}
use Rattle.paint.specs.declared.AnyGradient.{AnyGradient}
use Rattle.paint.specs.declared.AnyGradient.TheVariants.{Linear, Radial}
use Rattle.paint.specs.declared.LinearGradient.{LinearGradient}
use Rattle.paint.specs.declared.LinearPoints.{LinearPoints}
use Rattle.paint.specs.declared.RadialGradient.{RadialGradient}
use Rattle.paint.specs.declared.RadialPoints.{RadialPoints}
use Rattle.paint.specs.Gradient.{fixed_points}
use Rattle.paint.specs.Radial.{fixed_circle, focal_allowed}
use Rattle.paint.specs.Ramps.{ramp_of}
use Rattle.paint.specs.Buffers.{LimitedPoints, HeldRamp, Written}
use Rattle.paint.specs.Circles.{LimitedCircle, HeldGradient, gradient_at}
use Rattle.transform.specs.Transforms.{transformed}
use Rattle.scene.specs.Blocks.{draw_of}
use Rattle.scene.specs.Header.{count_of}
use Rattle.scene.specs.Fields.{blend_of, non_zero_rule, scissoring, scissors_of, scissor_count, spread_of, ramp_premultiplied, uses_mask, stops_of, stop_count}
use Rattle.engine.specs.Picture.{draw_edges, draw_transform, draw_paint}
use Rattle.engine.specs.declared.Style.{Style}
use Rattle.transform.specs.declared.FixedTransform.{FixedTransform}
use Rattle.engine.specs.declared.TintedGradient.{TintedGradient}
use Rattle.engine.specs.declared.Shade.{Shade}
use Rattle.engine.specs.declared.Shade.TheVariants.{Solid, Gradient}

-- ---- what is computed at a pixel
-- k, where the path covers k of the pixel's samples: cut by so many scissors, or by none where scissoring is off
abbrev pub scissored_by : Option ℕ → List ℕ → ℕ → ℕ → ℕ → ℕ
scissored_by None scissors x y k = k
scissored_by (Some n) scissors x y k = scissored true scissors n x y k

-- k
unfoldable pub coverage_with : Style → List Edge → List ℕ → ℕ → ℕ → ℕ
coverage_with s es scissors x y = scissored_by s.scissors scissors x y (coverage es s.nonzero x y)

-- premultiplied bytes by a colour transformation, or as they are
unfoldable pub tinted_by : Option FixedTransform → Pixel → Pixel
tinted_by None p = p
tinted_by (Some t) p = transformed t p

-- the paint, with a ramp in a run of numbers
abbrev pub gradient_tinted : TintedGradient → List ℕ → ℕ → ℕ → Pixel
gradient_tinted g ramp x y = tinted_by g.tint (gradient_at g.gradient ramp x y)

unfoldable pub shade_at : Shade → List ℕ → ℕ → ℕ → Pixel
shade_at (Solid p) ramp x y = p
shade_at (Gradient g) ramp x y = gradient_tinted g ramp x y

-- m, of the mask's byte
abbrev pub mask_with : Style → ℕ → ℕ
mask_with s m = cond s.masked m 255

-- what is stored, with the mask's byte m
unfoldable pub step_with : Style → List Edge → List ℕ → List ℕ → ℕ → ℕ → ℕ → Pixel → Pixel
step_with s es scissors ramp m x y q = composite_on s.mode (coverage_with s es scissors x y) (mask_with s m) (shade_at s.shade ramp x y) q

-- pixels outside of which a draw's scissors leave nothing of it
abbrev pub clip_of : List ℕ → Rect
clip_of d = cond (scissoring d) (scissor_box (scissors_of d) (scissor_count d)) (whole 1024 1024)

-- ---- what is asked
-- of the scissors
abbrev pub Few : Option ℕ → Type 0
Few None = Unit
Few (Some n) = n ≤ 4

abbrev pub Scissors : Style → List ℕ → Type 0
Scissors s scissors = Few s.scissors × (64 ≤ length scissors)

-- of the run that a gradient's ramp lies in
abbrev pub Shaded : Shade → List ℕ → Type 0
Shaded (Solid p) ramp = Unit
Shaded (Gradient g) ramp = HeldGradient g.gradient ramp

-- of what is lent for a row of n pixels: four bytes for each, and a run
abbrev pub RowRoom : ℕ → List ℕ → List ℕ → Type 0
RowRoom n buffer runs = (length buffer ≡ n * 4) × (length runs ≡ n)

-- the rows of a target from y to before end
abbrev pub rows_of : Target → ℕ → ℕ → Target
rows_of t y end = record {
  width = t.width;
  height = t.height;
  area = record { x0 = t.area.x0; y0 = y; x1 = t.area.x1; y1 = end };
}

-- k of each pixel, by the runs of a row
abbrev pub levels : List ℕ → List ℕ
levels runs = expand runs (length runs)

-- of the runs of a row of n pixels
abbrev pub RowCoverage : ℕ → List ℕ → Type 0
RowCoverage n runs = Runs runs (length runs) n × Coverage (levels runs)

-- of a surface of width by height pixels, and a rectangle on it
abbrev pub Area : ℕ → ℕ → Rect → List ℕ → Type 0
Area width height a surface = (length surface ≡ height * (width * 4)) × (On width height a × ((width ≤ 1024) × (height ≤ 1024)))

-- of the mask's bytes, n of them, where they are asked for
abbrev pub MaskFor : Bool → ℕ → List ℕ → Type 0
MaskFor masked n mask = masked ≡ true → length mask ≡ n

-- by any draw of a scene
abbrev pub MaskForScene : List ℕ → ℕ → List ℕ → Type 0
MaskForScene s n mask = (i : ℕ) → i < count_of s → MaskFor (uses_mask (draw_of s i)) n mask

-- of the scratch before and after a draw: enough numbers, all zero
abbrev pub Blank : List ℤ → Type 0
Blank scratch = (12300 ≤ length scratch) × (scratch ≡ replicate (length scratch) (pos 0))

-- the scratch holds the n edges of draw d, and zeros after them
pub record Laid (edition : ℕ) (d : List ℕ) (scratch : List ℤ) (n : ℕ) : Type 0 where
  pub ready : Outlined scratch n
  pub edges : edges_of scratch n ≡ draw_edges edition d

-- ---- a draw decoded, by its bytes d
abbrev pub style_of : List ℕ → ℕ → Shade → Style
style_of d n shade = record {
  edges = n;
  nonzero = non_zero_rule d;
  scissors = then_some (scissoring d) (scissor_count d);
  masked = uses_mask d;
  mode = blend_of d;
  shade = shade;
}

-- a style with another mode
abbrev pub in_mode : Style → ℕ → Style
in_mode s mode = record {
  edges = s.edges;
  nonzero = s.nonzero;
  scissors = s.scissors;
  masked = s.masked;
  mode = mode;
  shade = s.shade;
}

-- two modes under which a paint is blended alike, whatever k, the mask's byte and the pixel that stands there
abbrev pub SameBlend : ℕ → ℕ → (ℕ → ℕ → Pixel) → Type 0
SameBlend a b paint = (x y k m : ℕ) (p : Pixel) → UnderAlpha (paint x y) → composite_on a k m (paint x y) p ≡ composite_on b k m (paint x y) p

-- its colour transformation
abbrev pub Tints : List ℕ → Option FixedTransform → Type 0
Tints d t = (p : Pixel) → tinted_by t p ≡ draw_transform d p

-- the ramp of its stops, written to the run `before`
pub record MadeRamp (d : List ℕ) (count : ℕ) (before after : List ℕ) : Type 0 where
  pub written : Written before after count (ramp_of (ramp_premultiplied d) (stops_of d) (stop_count d))
  pub held : HeldRamp after count

-- a linear gradient with these points
pub record MadeLinear (d : List ℕ) (p : LinearPoints) (g : LinearGradient) (before after : List ℕ) : Type 0 where
  pub points : g.points ≡ fixed_points p
  pub spread : g.spread ≡ spread_of d
  pub premultiply : g.premultiply ≡ ramp_premultiplied d
  pub ramp : MadeRamp d g.count before after
  pub limited : LimitedPoints g.points

-- a radial gradient with this circle
pub record MadeRadial (d : List ℕ) (p : RadialPoints) (g : RadialGradient) (before after : List ℕ) : Type 0 where
  pub circle : g.circle ≡ fixed_circle p
  pub spread : g.spread ≡ spread_of d
  pub premultiply : g.premultiply ≡ ramp_premultiplied d
  pub ramp : MadeRamp d g.count before after
  pub limited : LimitedCircle g.circle
  pub focal : focal_allowed g.circle ≡ true

abbrev pub ramp_count : AnyGradient → ℕ
ramp_count (Linear g) = g.count
ramp_count (Radial g) = g.count

-- the run after a shade was decoded: a gradient's ramp is written to it
abbrev pub RampBy : List ℕ → Shade → List ℕ → List ℕ → Type 0
RampBy d (Solid p) before after = after ≡ before
RampBy d (Gradient g) before after = Written before after (ramp_count g.gradient) (ramp_of (ramp_premultiplied d) (stops_of d) (stop_count d))

-- a shade of the draw's paint
pub record Shades (d : List ℕ) (s : Shade) (before after : List ℕ) : Type 0 where
  pub paint : (x y : ℕ) → shade_at s after x y ≡ draw_paint d x y
  pub asked : Shaded s after
  pub run : RampBy d s before after
