-- The rows of a rectangle band after band.
use mathlib.Core.Path.{◌≡◌, sym, ap, ◌∙◌}
use mathlib.Core.List.{List}
use Prim.Native.Nat.{ℕ, ◌*◌, ◌≤◌, ◌<◌}
use native.Mathlib.Omega.{arith}
use lib.ListN.{length}
use Rattle.color.specs.declared.Pixel.{Pixel}
use Rattle.rect.specs.Rects.{Inside}
use Rattle.raster.specs.declared.Target.{Target}
use Rattle.raster.specs.Surface.{pixel_of}
use Rattle.raster.specs.Rows.{Part, stepped, rows_to, Rows}
use Rattle.raster.proofs.Overlay.{less_or, overlay_length, overlay_in, overlay_out, overlay_is}
use Rattle.engine.specs.Rows.{rows_of}

module _ (t : Target) (g : ℕ → ℕ → Pixel → Pixel) (d : List ℕ) (part : Part t d) {y : ℕ} {s : List ℕ} (o : Rows t g d y s) (e : ℕ) (low : y ≤ e)
    (high : e ≤ t.area.y1) where
  -- a band is a rectangle on the surface
  pub band_part : Part (rows_of t y e) s
  band_part = record {
    placed = record {
      on = record { across = part.placed.on.across; up = low; wide = part.placed.on.wide; high = omega (arith, part.placed.on.high) };
      wide = part.placed.wide;
      high = part.placed.high;
    };
    long = o.long ∙ part.long;
  }

  abbrev drawn : ℕ → ℕ → Pixel
  drawn u v = g u v (pixel_of t.width d u v)

  abbrev band : ℕ → ℕ → Pixel
  band u v = g u v (pixel_of t.width s u v)

  before_in : (x v : ℕ) → x < t.width → v < t.height → Inside (rows_to t.area y) x v → pixel_of t.width s x v ≡ drawn x v
  before_in x v k l i = rw o.same (overlay_in t.width t.height (rows_to t.area y) drawn d x v k l i)

  before_out : (x v : ℕ) → x < t.width → v < t.height → (Inside (rows_to t.area y) x v → ⊥) → pixel_of t.width s x v ≡ pixel_of t.width d x v
  before_out x v k l i = rw o.same (overlay_out t.width t.height (rows_to t.area y) drawn d x v k l i)

  -- one band more
  pub rows_band : (r : List ℕ) → r ≡ stepped (rows_of t y e) g s → Rows t g d e r
  rows_band r q = record {
    low = omega (arith, o.low);
    high = high;
    long = long ∙ sym part.long;
    same = overlay_is w h (rows_to t.area e) drawn d r long
        (λ x v k l i.
        less_or v y
        (λ c. out x v k l (λ u. omega (arith, u.below))
        ∙ before_in x v k l (record { left = i.left; right = i.right; below = i.below; above = c }))
        (λ c. within x v k l (record { left = i.left; right = i.right; below = c; above = i.above })
        ∙ ap (g x v) (before_out x v k l (λ u. omega (arith, u.above)))))
        (λ x v k l i. out x v k l (λ u. i (record { left = u.left; right = u.right; below = omega (arith, u.below, o.low); above = u.above }))
        ∙ before_out x v k l (λ u. i (record { left = u.left; right = u.right; below = u.below; above = omega (arith, u.above) })));
  }
    where
      w : ℕ
      w = t.width

      h : ℕ
      h = t.height

      long : length r ≡ h * (w * 4)
      long = ap length q ∙ overlay_length w h (rows_of t y e).area band s

      within : (x v : ℕ) → x < w → v < h → Inside (rows_of t y e).area x v → pixel_of w r x v ≡ band x v
      within x v k l i = rw q (overlay_in w h (rows_of t y e).area band s x v k l i)

      out : (x v : ℕ) → x < w → v < h → (Inside (rows_of t y e).area x v → ⊥) → pixel_of w r x v ≡ pixel_of w s x v
      out x v k l i = rw q (overlay_out w h (rows_of t y e).area band s x v k l i)
