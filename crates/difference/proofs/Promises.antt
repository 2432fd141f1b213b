-- What a comparison promises (paper 02, P7), in its words: which calls are refused, and what the nine numbers say of the pictures.
use mathlib.Core.Path.{◌≡◌, refl, sym, ap, ◌∙◌}
use mathlib.Core.Bool.{true, false, not, cond, ◌&&◌, true≢false}
use mathlib.Core.List.Memᴰ
use mathlib.Core.List.{List, [], ◌∷◌, Memᴰ}
use mathlib.Core.Logic.{⊎_elim}
use Prim.Native.Nat.{ℕ, suc, ◌+◌, ◌*◌, ◌-◌, ◌/◌, ◌%◌, ◌≤◌, ◌<◌}
use native.Mathlib.Nat.{le_of_lt, mul-le-mul}
use native.Mathlib.Omega.{arith}
use lib.Dec.{eqb}
use lib.ListN.{length}
use borrow.Author.Tests.{eq-eqb, ne_eqb, eqb-true, not-true}
use Rattle.rect.specs.declared.Rect.{Rect}
use Rattle.rect.specs.Rects.{Inside, Holds, On}
use Rattle.rect.proofs.Laws.{either, both, not_true_is}
use Rattle.color.specs.declared.Pixel.{Pixel}
use Rattle.raster.specs.Surface.{pixel_in}
use Rattle.raster.proofs.Pixels.{pixels_same}
use Rattle.difference.specs.declared.Comparison.{Comparison}
use Rattle.codes.specs.Codes.{illegal_argument, unsupported_image_format}
use Rattle.difference.specs.Compare.{allowed_side, refusal_code, same_pixel, differs, differing, first_of}
use Rattle.difference.specs.Compare.{pixels_rect, gap_at, greatest, largest_gap, refused, report_of, compare_answer}
use Rattle.difference.specs.Compare.{Allowed, Comparable, Rising, area_of, equal_answer}
use Rattle.difference.proofs.Refusals.{sides_allowed, allowed_sides, sides_refused, first_refused, second_refused}
use Rattle.difference.proofs.Refusals.{comparable, not_refused, answer_refused, answer_report}
use Rattle.difference.proofs.Picked.{picked_none, picked_has, picked_only, picked_rises}
use Rattle.difference.proofs.Greatest.{greatest_bounds, greatest_reached, equal_no_gap}
use Rattle.difference.proofs.Boxes.{rect_holds, rect_least, rect_on}
use Rattle.difference.proofs.Exchanged.{differing_turned, largest_turned, refusal_turned}

-- ---- pixels
pub same_pixel_lem : (p q : Pixel) → same_pixel p q ≡ true → p ≡ q
unfolding same_pixel
same_pixel_lem p q e =
    let r = both _ _ e in
    let g = both _ _ r.1 in
    let b = both _ _ g.1 in
    rw (eqb-true p.r q.r r.0, eqb-true p.g q.g g.0, eqb-true p.b q.b b.0, eqb-true p.a q.a b.1)

pixel_same : (p q : Pixel) → p ≡ q → same_pixel p q ≡ true
unfolding same_pixel
pixel_same p q e = rw (e, eq-eqb q.r q.r refl, eq-eqb q.g q.g refl, eq-eqb q.b q.b refl, eq-eqb q.a q.a refl)

module _ (w h : ℕ) (a b : List ℕ) where
  -- ---- refusals: 0x1001 for a width or height outside 1..1,024, before 0x1004 for a surface of a wrong size; the code and zeros
  pub refused_outside : (Allowed w h → ⊥) → compare_answer w h a b ≡ refused illegal_argument
  refused_outside n =
      let e = sides_refused w h (length a) (length b) (not_true_is (allowed_side w && allowed_side h) (λ t. n (allowed_sides w h t))) in
      sym (answer_refused w h a b illegal_argument (refused illegal_argument) (sym e) (λ z. omega arith) refl)

  pub refused_wrong_size : Allowed w h → (length a ≡ 4 * (w * h) → length b ≡ 4 * (w * h) → ⊥) → compare_answer w h a b ≡ refused unsupported_image_format
  refused_wrong_size s n =
      let t = sides_allowed w h s in
      let e : refusal_code w h (length a) (length b) ≡ unsupported_image_format
      = either (eqb (length a) (4 * (w * h)))
      (λ f. let g = eqb-true _ _ f in second_refused w h (length a) (length b) t g (n g))
      (λ f. first_refused w h (length a) (length b) t (λ g. true≢false (sym (eq-eqb _ _ g) ∙ f))) in
      sym (answer_refused w h a b unsupported_image_format (refused unsupported_image_format) (sym e) (λ z. omega arith) refl)

  said : Comparable w h a b → compare_answer w h a b ≡ report_of w (differing w h a b) (largest_gap w h a b)
  said s = sym (answer_report w h a b (not_refused w h a b s))

  -- ---- the others are compared
  pub compared : Comparable w h a b → (compare_answer w h a b).code ≡ 0
  compared s = ap (λ (r : Comparison). r.code) (said s)

  pub only_comparable : (compare_answer w h a b).code ≡ 0 → Comparable w h a b
  unfolding compare_answer
  only_comparable e =
      comparable w h a b
      (either (eqb (refusal_code w h (length a) (length b)) 0) (λ t. eqb-true _ _ t) (λ t. rw t at e))

  -- ---- the numbers of the differing pixels: those and no others, each once
  pub differing_has : (i : ℕ) → i < w * h → (pixel_in a i ≡ pixel_in b i → ⊥) → Memᴰ i (differing w h a b)
  unfolding differing
  differing_has i l n =
      picked_has (differs a b) 0 (w * h) i (omega arith) (omega arith)
      (ap not (not_true_is (same_pixel (pixel_in a i) (pixel_in b i)) (λ t. n (same_pixel_lem (pixel_in a i) (pixel_in b i) t))))

  pub differing_only : (i : ℕ) → Memᴰ i (differing w h a b) → (i < w * h) × (pixel_in a i ≡ pixel_in b i → ⊥)
  unfolding differing
  differing_only i m =
      let p = picked_only (differs a b) 0 (w * h) i m in
      (omega (arith, p.below), λ e. true≢false (sym (pixel_same (pixel_in a i) (pixel_in b i) e) ∙ not-true _ p.passed))

  pub differing_rises : Rising (differing w h a b)
  unfolding differing
  differing_rises = picked_rises (differs a b) 0 (w * h)

  -- ---- the count is their count
  pub count_is_count : Comparable w h a b → (compare_answer w h a b).count ≡ length (differing w h a b)
  count_is_count s = ap (λ (r : Comparison). r.count) (said s)

  -- ---- the rectangle holds them, every rectangle that holds them holds it, and it lies on the surface
  rect_on_surface : On w h (pixels_rect w (differing w h a b))
  rect_on_surface = rect_on w h (differing w h a b) (λ i m. (differing_only i m).0)

  area_is : Comparable w h a b → area_of (compare_answer w h a b) ≡ pixels_rect w (differing w h a b)
  area_is s = ap area_of (said s) ∙ whole (pixels_rect w (differing w h a b)) rect_on_surface.across rect_on_surface.up
    where
      back : (m n : ℕ) → m ≤ n → m + (n - m) ≡ n
      back m n l = omega arith

      whole : (r : Rect) → r.x0 ≤ r.x1 → r.y0 ≤ r.y1 → record { x0 = r.x0; y0 = r.y0; x1 = r.x0 + (r.x1 - r.x0); y1 = r.y0 + (r.y1 - r.y0) } ≡ r
      whole r l m = rw (back r.x0 r.x1 l, back r.y0 r.y1 m)

  pub rectangle_holds : Comparable w h a b → (i : ℕ) → Memᴰ i (differing w h a b) → Inside (area_of (compare_answer w h a b)) (i % w) (i / w)
  rectangle_holds s i m =
      rw (area_is s)
      (rect_holds w (differing w h a b) i m (i % w) (i / w)
      (record { left = omega arith; right = omega arith; below = omega arith; above = omega arith }))

  pub rectangle_least : Comparable w h a b → (r : Rect) → ((i : ℕ) → Memᴰ i (differing w h a b) → Inside r (i % w) (i / w))
      → Holds r (area_of (compare_answer w h a b))
  rectangle_least s r k =
      rw (area_is s) (rect_least w (differing w h a b) r (λ i m x y j. alone r (i % w) (i / w) x y (k i m) j))
    where
      alone : (r : Rect) (u v x y : ℕ) → Inside r u v → Inside (record { x0 = u; y0 = v; x1 = u + 1; y1 = v + 1 }) x y → Inside r x y
      alone r u v x y p j =
          let e : x ≡ u = omega (arith, j.left, j.right) in
          let f : y ≡ v = omega (arith, j.below, j.above) in
          rw (e, f) p

  pub rectangle_on_surface : Comparable w h a b → On w h (area_of (compare_answer w h a b))
  rectangle_on_surface s = rw (area_is s) rect_on_surface

  -- ---- the largest difference of any channel bounds each, and is one
  pub largest_bounds : Comparable w h a b → (j : ℕ) → j < 4 * (w * h) → gap_at a b j ≤ (compare_answer w h a b).largest
  unfolding largest_gap
  largest_bounds s j l = rw (said s) (greatest_bounds (4 * (w * h)) (gap_at a b) j l)

  pub largest_reached : Comparable w h a b → (j : ℕ) × (j < 4 * (w * h)) × (gap_at a b j ≡ (compare_answer w h a b).largest)
  unfolding largest_gap
  largest_reached s =
      let n : 4 * (w * h) ≡ suc (4 * (w * h) - 1) = omega (arith, mul-le-mul s.sides.some_wide s.sides.some_high) in
      let r = greatest_reached (4 * (w * h) - 1) (gap_at a b) in
      (r.0, omega (arith, r.1), r.2 ∙ ap (λ (k : ℕ). greatest k (gap_at a b)) (sym n) ∙ sym (ap (λ (r : Comparison). r.largest) (said s)))

  -- ---- the least number is one of theirs where there is one, and none is below it
  first_among : (is : List ℕ) (i : ℕ) → Rising is → Memᴰ i is → Memᴰ (first_of is) is × (first_of is ≤ i)
  first_among [] i o m = absurd (Memᴰ.not-nil m)
  first_among (k ∷ is) i o m =
      (Memᴰ.head refl, ⊎_elim (λ e. omega arith) (λ n. le_of_lt (o.0 i n)) (Memᴰ.cases_cons m))

  pub least_is_least : Comparable w h a b → (i : ℕ) → Memᴰ i (differing w h a b)
      → Memᴰ (compare_answer w h a b).least (differing w h a b) × ((compare_answer w h a b).least ≤ i)
  least_is_least s i m = rw (said s) (first_among (differing w h a b) i differing_rises m)

  -- ---- equal is said exactly if the bytes are the same, and then all else is zero
  pub same_is_equal : Comparable w h a b → a ≡ b → compare_answer w h a b ≡ equal_answer
  unfolding differing largest_gap pixels_rect
  same_is_equal s e =
      said s
      ∙ rw (
        picked_none (differs a b) 0 (w * h) (λ k l m. ap not (pixel_same (pixel_in a k) (pixel_in b k) (ap (λ t. pixel_in t k) e))),
        equal_no_gap (4 * (w * h)) a b e,
      )

  not_said : eqb (refusal_code w h (length a) (length b)) 0 ≡ false → (compare_answer w h a b).equal ≡ 1 → ⊥
  unfolding compare_answer
  not_said t q = let z : ◌≡◌ {A = ℕ} 0 1 = rw t at q in omega arith

  pub equal_is_same : (compare_answer w h a b).equal ≡ 1 → Comparable w h a b × (a ≡ b)
  equal_is_same e =
      let s = comparable w h a b
      (either (eqb (refusal_code w h (length a) (length b)) 0) (λ t. eqb-true _ _ t) (λ t. absurd (not_said t e))) in
      let none = no_length (differing w h a b) (sym (ap (λ (r : Comparison). r.equal) (said s)) ∙ e) in (
        s,
        pixels_same a b (w * h) (s.first ∙ omega arith) (s.second ∙ omega arith)
            (λ i l.
            either (same_pixel (pixel_in a i) (pixel_in b i)) (same_pixel_lem (pixel_in a i) (pixel_in b i))
            (λ t.
            absurd (Memᴰ.not-nil
            (rw none at (differing_has i l (λ q. true≢false (sym (pixel_same (pixel_in a i) (pixel_in b i) q) ∙ t))))))),
      )
    where
      no_length : (is : List ℕ) → ◌≡◌ {A = ℕ} (cond (eqb (length is) 0) 1 0) 1 → is ≡ []
      no_length [] q = refl
      no_length (i ∷ is) q = absurd (let z : ◌≡◌ {A = ℕ} 0 1 = rw (ne_eqb (suc (length is)) 0 (λ r. omega arith)) at q in omega arith)

  -- ---- the answer of the pictures exchanged is the same
  pub exchanged_is_same : compare_answer w h b a ≡ compare_answer w h a b
  unfolding compare_answer
  exchanged_is_same = rw (differing_turned w h a b, largest_turned w h a b, refusal_turned w h a b)
