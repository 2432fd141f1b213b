-- A loop over the rows of a rectangle: before the first row, a turn, after the last. A row is lent as a part of the surface.
use mathlib.Core.Path.{◌≡◌, refl, sym, ap, ◌∙◌}
use mathlib.Core.List.{List, ◌++◌}
use Prim.Native.Nat.{ℕ, ◌+◌, ◌-◌, ◌*◌, ◌≤◌, ◌<◌}
use native.Mathlib.Omega.{arith}
use lib.ListN.{length, take, drop, length-append, length-drop, length-take}
use Rattle.lists.proofs.Laws.{run_fits, part_length}
use Rattle.rect.specs.declared.Rect.{Rect}
use Rattle.rect.specs.Rects.{Inside}
use Rattle.color.specs.declared.Pixel.{Pixel}
use Rattle.raster.specs.Surface.{run, pixel_in, pixel_of, overlay}
use Rattle.raster.specs.Rows.{Part, stepped, rows_to, Rows}
use Rattle.raster.specs.declared.Target.{Target}
use Rattle.raster.proofs.Pixels.{run_length, pixel_before_lem, pixel_after, pixel_take, pixel_drop, run_at}
use Rattle.raster.proofs.Runs.{run_same}
use Rattle.raster.proofs.Overlay.{less_or, overlay_length, overlay_in, overlay_out, overlay_is, overlay_none}

-- ---- one part put back into a list: the pixels before it, in it and after it
module _ (s q : List ℕ) (n m : ℕ) (e : length q ≡ m * 4) (b : (n + m) * 4 ≤ length s) where
  taken : length (take (n * 4) s) ≡ n * 4
  taken = simp length-take (omega arith)

  put_before : (i : ℕ) → i < n → pixel_in (take (n * 4) s ++ (q ++ drop (m * 4) (drop (n * 4) s))) i ≡ pixel_in s i
  put_before i h = pixel_before_lem (take (n * 4) s) (q ++ drop (m * 4) (drop (n * 4) s)) n i taken h ∙ pixel_take s n i h

  put_in : (i j : ℕ) → i < m → j ≡ n + i → pixel_in (take (n * 4) s ++ (q ++ drop (m * 4) (drop (n * 4) s))) j ≡ pixel_in q i
  put_in i j h g = pixel_after (take (n * 4) s) (q ++ drop (m * 4) (drop (n * 4) s)) n i j taken g ∙ pixel_before_lem q (drop (m * 4) (drop (n * 4) s)) m i e h

  put_after : (j : ℕ) → n + m ≤ j → pixel_in (take (n * 4) s ++ (q ++ drop (m * 4) (drop (n * 4) s))) j ≡ pixel_in s j
  put_after j h =
      pixel_after (take (n * 4) s) (q ++ drop (m * 4) (drop (n * 4) s)) n (j - n) j taken (omega arith)
      ∙ pixel_after q (drop (m * 4) (drop (n * 4) s)) m (j - n - m) (j - n) e (omega arith)
      ∙ pixel_drop (drop (n * 4) s) m (j - n - m) (j - n) (omega arith)
      ∙ pixel_drop s n (j - n) j (omega arith)

  put_length : length (take (n * 4) s ++ (q ++ drop (m * 4) (drop (n * 4) s))) ≡ length s
  put_length = simp (length-append, length-take, length-drop) (omega arith)

-- ---- a turn of a loop over the rows of a: the row y is lent as a part, and given back as q
module _ (w h : ℕ) (a : Rect) (f : ℕ → ℕ → Pixel) (s d : List ℕ) (y : ℕ) (long : length d ≡ h * (w * 4)) (across : a.x0 ≤ a.x1) (wide : a.x1 ≤ w)
    (low : a.y0 ≤ y) (high : y < h) (o : s ≡ overlay w h (rows_to a y) f d) where
  s_length : length s ≡ h * (w * 4)
  s_length = ap length o ∙ overlay_length w h (rows_to a y) f d

  fits : (y * w + a.x0 + (a.x1 - a.x0)) * 4 ≤ length s
  fits = omega (arith, s_length, run_fits w y h high)

  s_out : (x v : ℕ) → x < w → v < h → (Inside (rows_to a y) x v → ⊥) → pixel_of w s x v ≡ pixel_of w d x v
  s_out x v k l i = rw o (overlay_out w h (rows_to a y) f d x v k l i)

  s_in : (x v : ℕ) → x < w → v < h → Inside (rows_to a y) x v → pixel_of w s x v ≡ f x v
  s_in x v k l i = rw o (overlay_in w h (rows_to a y) f d x v k l i)

  -- what the part holds is as it was
  row_read : (at e k : ℕ) → at ≡ (y * w + a.x0) * 4 → e ≡ (y * w + a.x1) * 4 → k < a.x1 - a.x0
      → pixel_in (take (e - at) (drop at s)) k ≡ pixel_of w d (a.x0 + k) y
  row_read at e k p q l =
      let r : e - at ≡ (a.x1 - a.x0) * 4 = omega arith in
      rw (r, p)
      (pixel_take (drop ((y * w + a.x0) * 4) s) (a.x1 - a.x0) k l
      ∙ pixel_drop s (y * w + a.x0) k (y * w + (a.x0 + k)) (omega arith)
      ∙ s_out (a.x0 + k) y (omega arith) high (λ i. omega (arith, i.above)))

  row_turn : (q : List ℕ) (at e : ℕ) → at ≡ (y * w + a.x0) * 4 → e ≡ (y * w + a.x1) * 4 → q ≡ run (a.x1 - a.x0) (λ k. f (a.x0 + k) y)
      → take at s ++ (q ++ drop (e - at) (drop at s)) ≡ overlay w h (rows_to a (y + 1)) f d
  row_turn q at e g j z =
      let n = y * w + a.x0 in
      let m = a.x1 - a.x0 in
      let r : e - at ≡ m * 4 = omega arith in
      let b : length q ≡ m * 4 = ap length z ∙ run_length m (λ k. f (a.x0 + k) y) in
      let t = take (n * 4) s ++ (q ++ drop (m * 4) (drop (n * 4) s)) in
      rw (r, g)
      (overlay_is w h (rows_to a (y + 1)) f d t (put_length s q n m b fits ∙ s_length)
      (λ x v k l i.
      less_or v y
      (λ c. put_before s q n m b fits (v * w + x) (omega (arith, run_fits w v y c))
      ∙ s_in x v k l (record { left = i.left; right = i.right; below = i.below; above = c }))
      (λ c.
      let u : v ≡ y = omega (arith, i.above) in
      let w0 : a.x0 + (x - a.x0) ≡ x = omega (arith, i.left) in
      put_in s q n m b fits (x - a.x0) (v * w + x) (omega (arith, i.left, i.right)) (rw u (omega (arith, i.left)))
      ∙ ap (λ (p : List ℕ). pixel_in p (x - a.x0)) z
      ∙ run_at m (λ k. f (a.x0 + k) y) (x - a.x0) (omega (arith, i.left, i.right))
      ∙ rw (w0, u)))
      (λ x v k l i.
      less_or v y
      (λ c. put_before s q n m b fits (v * w + x) (omega (arith, run_fits w v y c))
      ∙ s_out x v k l (λ u. i (record { left = u.left; right = u.right; below = u.below; above = omega arith })))
      (λ c.
      less_or y v
      (λ c2. put_after s q n m b fits (v * w + x) (omega (arith, run_fits w y v c2)) ∙ s_out x v k l (λ u. omega (arith, u.above)))
      (λ c2.
      let u : v ≡ y = omega arith in
      less_or x a.x0
      (λ c3. put_before s q n m b fits (v * w + x) (rw u (omega arith)) ∙ s_out x v k l (λ u. omega (arith, u.above)))
      (λ c3.
      less_or x a.x1
      (λ c4. absurd (i (record { left = c3; right = c4; below = omega arith; above = omega arith })))
      (λ c4. put_after s q n m b fits (v * w + x) (rw u (omega arith)) ∙ s_out x v k l (λ u. omega (arith, u.above))))))))

-- ---- the loop
-- what a turn has of row y, whose bytes from `from` to before `to` are lent, and given back as q with g done at each pixel
pub record Lent (t : Target) (g : ℕ → ℕ → Pixel → Pixel) (d : List ℕ) (y : ℕ) (s : List ℕ) (from to : ℕ) : Type 0 where
  pub across : from ≤ to
  pub within : to ≤ length s
  pub long : length (take (to - from) (drop from s)) ≡ (t.area.x1 - t.area.x0) * 4
  pub turn : (q : List ℕ) → q ≡ run (t.area.x1 - t.area.x0) (λ k. g (t.area.x0 + k) y (pixel_in (take (to - from) (drop from s)) k))
      → Rows t g d (y + 1) (take from s ++ (q ++ drop (to - from) (drop from s)))

module _ (t : Target) (g : ℕ → ℕ → Pixel → Pixel) (d : List ℕ) (part : Part t d) where
  pub rows_none : Rows t g d t.area.y0 d
  rows_none = record {
    low = omega arith;
    high = part.placed.on.up;
    long = refl;
    same = overlay_none t.width t.height _ _ d part.long (λ x y i. omega (arith, i.below, i.above));
  }

  module _ {y : ℕ} {s : List ℕ} (o : Rows t g d y s) where
    pub rows_all : t.area.y1 ≤ y → s ≡ stepped t g d
    rows_all l =
        let e : y ≡ t.area.y1 = omega (arith, o.high) in
        rw e at o.same

    module _ (l : y < t.area.y1) (from to : ℕ) (a : from ≡ (y * t.width + t.area.x0) * 4) (b : to ≡ (y * t.width + t.area.x1) * 4) where
      within : to ≤ length s
      within =
          let high : y < t.height = omega (arith, part.placed.on.high) in
          omega (arith, o.long, part.long, part.placed.on.wide, run_fits t.width y t.height high)

      turn : (q : List ℕ) → q ≡ run (t.area.x1 - t.area.x0) (λ k. g (t.area.x0 + k) y (pixel_in (take (to - from) (drop from s)) k))
          → Rows t g d (y + 1) (take from s ++ (q ++ drop (to - from) (drop from s)))
      turn q z =
          let w = t.width in
          let h = t.height in
          let on = part.placed.on in
          let f : ℕ → ℕ → Pixel = λ u v. g u v (pixel_of w d u v) in
          let high : y < h = omega (arith, on.high) in
          let read = row_read w h t.area f s d y part.long on.across on.wide o.low high o.same from to in
          let made = z ∙ run_same (t.area.x1 - t.area.x0) _ _ (λ k i. ap (g (t.area.x0 + k) y) (read k a b i)) in
          let same = row_turn w h t.area f s d y part.long on.across on.wide o.low high o.same q from to a b made in
          record { low = omega (arith, o.low); high = omega arith; long = ap length same ∙ overlay_length w h _ f d ∙ sym part.long; same = same }

      pub row_lent : Lent t g d y s from to
      row_lent =
          let across : from ≤ to = omega (arith, part.placed.on.across) in
          record { across = across; within = within; long = part_length s from to across within ∙ omega arith; turn = turn }
