-- A rectangle filled around a hole: below it, left of it, right of it and above it.
use mathlib.Core.Path.{◌≡◌, ap, ◌∙◌}
use mathlib.Core.Bool.{true, false, cond}
use mathlib.Core.List.{List}
use Prim.Native.Nat.{ℕ, ◌<◌}
use native.Mathlib.Omega.{arith}
use lib.ListN.{length}
use Rattle.rect.specs.declared.Rect.{Rect}
use Rattle.rect.specs.Rects.{Inside, inside, Holds, empty_of, meet_of}
use Rattle.rect.proofs.Laws.{in_or_out, inside_yes, inside_no, empty_out, not_empty, meet_in, meet_right}
use Rattle.color.specs.declared.Pixel.{Pixel}
use Rattle.raster.specs.Surface.{pixel_of, overlay}
use Rattle.raster.specs.Rows.{cut, Framed, filled_around}
use Rattle.raster.specs.declared.Target.{Target}
use Rattle.raster.proofs.Overlay.{less_or, overlay_length, overlay_in, overlay_out, overlay_is, overlay_same}

-- what is laid where
abbrev made : Target → Pixel → List ℕ → Rect → ℕ → ℕ → Pixel
made t p s hole x y = cond (inside hole x y) (pixel_of t.width s x y) p

-- ---- a hole that is cut to the rectangle
module _ (t : Target) (hole : Rect) (p : Pixel) (s : List ℕ) where
  -- nothing is left of it
  pub around_none : empty_of (meet_of t.area hole) ≡ true → overlay t.width t.height t.area (λ x y. p) s ≡ filled_around t hole p s
  around_none e =
      overlay_same t.width t.height t.area (λ x y. p) (made t p s hole) s
      (λ x y k l i. rw (inside_no hole x y (λ j. empty_out (meet_of t.area hole) x y e (meet_in t.area hole x y i j))))

  -- or something, which is as good
  pub around_meet : filled_around t (meet_of t.area hole) p s ≡ filled_around t hole p s
  around_meet =
      overlay_same t.width t.height t.area (made t p s (meet_of t.area hole)) (made t p s hole) s
      (λ x y k l i.
      in_or_out hole x y
      (λ j. rw (inside_yes hole x y j, inside_yes (meet_of t.area hole) x y (meet_in t.area hole x y i j)))
      (λ j. rw (inside_no hole x y j, inside_no (meet_of t.area hole) x y (λ v. j (meet_right t.area hole x y v)))))

pub meet_framed : (a hole : Rect) → empty_of (meet_of a hole) ≡ false → Framed a (meet_of a hole)
meet_framed a hole e =
    let n = not_empty (meet_of a hole) e in
    record { left = omega arith; across = n.wide; right = omega arith; below = omega arith; up = n.high; above = omega arith }

-- ---- the four parts
module _ (t : Target) (hole : Rect) (f : Framed t.area hole) where
  abbrev below : Target
  below = cut t t.area.x0 t.area.y0 t.area.x1 hole.y0

  abbrev left : Target
  left = cut t t.area.x0 hole.y0 hole.x0 hole.y1

  abbrev right : Target
  right = cut t hole.x1 hole.y0 t.area.x1 hole.y1

  abbrev above : Target
  above = cut t t.area.x0 hole.y1 t.area.x1 t.area.y1

  below_in : Holds t.area below.area
  below_in x y i = record { left = i.left; right = i.right; below = i.below; above = omega arith }

  left_in : Holds t.area left.area
  left_in x y i = record { left = i.left; right = omega arith; below = omega arith; above = omega arith }

  right_in : Holds t.area right.area
  right_in x y i = record { left = omega arith; right = i.right; below = omega arith; above = omega arith }

  above_in : Holds t.area above.area
  above_in x y i = record { left = i.left; right = i.right; below = omega arith; above = i.above }

  module _ (p : Pixel) where
    -- s with p in a rectangle
    abbrev filled : Rect → List ℕ → List ℕ
    filled a s = overlay t.width t.height a (λ x y. p) s

    module _ (x y : ℕ) (k : x < t.width) (l : y < t.height) (a : Rect) (s u : List ℕ) (o : u ≡ filled a s) where
      comes : Inside a x y → pixel_of t.width u x y ≡ p
      comes i = rw o (overlay_in t.width t.height a (λ x y. p) s x y k l i)

      keeps : (Inside a x y → ⊥) → pixel_of t.width u x y ≡ pixel_of t.width s x y
      keeps i = rw o (overlay_out t.width t.height a (λ x y. p) s x y k l i)

      stays : pixel_of t.width s x y ≡ p → pixel_of t.width u x y ≡ p
      stays e = in_or_out a x y comes (λ i. keeps i ∙ e)

    module _ (s s1 s2 s3 s4 : List ℕ) (o1 : s1 ≡ filled below.area s) (o2 : s2 ≡ filled left.area s1) (o3 : s3 ≡ filled right.area s2)
        (o4 : s4 ≡ filled above.area s3) where
      -- a pixel in none of them, and one in the rectangle and not in the hole
      kept : (x y : ℕ) → x < t.width → y < t.height → (Inside t.area x y → Inside hole x y) → pixel_of t.width s4 x y ≡ pixel_of t.width s x y
      kept x y k l n =
          keeps x y k l above.area s3 s4 o4 (λ i. omega (arith, n (above_in x y i)))
          ∙ keeps x y k l right.area s2 s3 o3 (λ i. omega (arith, n (right_in x y i)))
          ∙ keeps x y k l left.area s1 s2 o2 (λ i. omega (arith, n (left_in x y i)))
          ∙ keeps x y k l below.area s s1 o1 (λ i. omega (arith, n (below_in x y i)))

      laid : (x y : ℕ) → x < t.width → y < t.height → Inside t.area x y → (Inside hole x y → ⊥) → pixel_of t.width s4 x y ≡ p
      laid x y k l i n =
          less_or y hole.y0
          (λ c. stays x y k l above.area s3 s4 o4 (stays x y k l right.area s2 s3 o3 (stays x y k l left.area s1 s2 o2
          (comes x y k l below.area s s1 o1 (record { left = i.left; right = i.right; below = i.below; above = c })))))
          (λ c.
          less_or y hole.y1
          (λ d.
          less_or x hole.x0
          (λ b. stays x y k l above.area s3 s4 o4 (stays x y k l right.area s2 s3 o3
          (comes x y k l left.area s1 s2 o2 (record { left = i.left; right = b; below = c; above = d }))))
          (λ b.
          less_or x hole.x1
          (λ m. absurd (n (record { left = b; right = m; below = c; above = d })))
          (λ m. stays x y k l above.area s3 s4 o4 (comes x y k l right.area s2 s3 o3 (record { left = m; right = i.right; below = c; above = d })))))
          (λ d. comes x y k l above.area s3 s4 o4 (record { left = i.left; right = i.right; below = d; above = i.above })))

      pub frame_filled : s4 ≡ filled_around t hole p s
      frame_filled =
          overlay_is t.width t.height t.area (made t p s hole) s s4 (ap length o4 ∙ overlay_length t.width t.height above.area (λ x y. p) s3)
          (λ x y k l i.
          in_or_out hole x y
          (λ j. kept x y k l (λ u. j) ∙ rw (inside_yes hole x y j))
          (λ j. laid x y k l i j ∙ rw (inside_no hole x y j)))
          (λ x y k l i. kept x y k l (λ u. absurd (i u)))
