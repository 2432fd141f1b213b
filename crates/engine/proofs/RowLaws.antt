-- A row's coverage and a row of pixels, taken apart and put together.
use mathlib.Core.Path.{◌≡◌, refl, sym, ap, ap₂, ◌∙◌}
use mathlib.Core.List.{List, [], ◌∷◌, ◌++◌}
use mathlib.Core.Bool.{Bool, true}
use Prim.Native.Nat.{ℕ, ◌+◌, ◌-◌, ◌*◌, ◌≤◌, ◌<◌}
use native.Mathlib.Nat.{le_trans}
use native.Mathlib.Omega.{arith}
use lib.ListN.{length, get_or, take, drop, length-append, length-drop}
use lib.IntN.{ℤ}
use lib.Seq.{take_at}
use Rattle.std.specs.Prelude.{Option, Some, None}
use Rattle.lists.specs.Lists.{tab}
use Rattle.lists.proofs.Laws.{upto_same, tab_at, tab_length}
use Rattle.color.specs.declared.Pixel.{Pixel}
use Rattle.raster.specs.declared.Target.{Target}
use Rattle.raster.specs.Surface.{run, pixel_in}
use Rattle.raster.specs.Rows.{stepped}
use Rattle.raster.proofs.Pixels.{run_at}
use Rattle.blend.specs.PorterDuff.{composite_on}
use Rattle.blend.specs.Rows.{Coverage, composite_row}
use Rattle.raster.proofs.Runs.{run_same, run_is}
use Rattle.path.specs.declared.Edge.{Edge}
use Rattle.path.specs.Stored.{edges_of}
use Rattle.coverage.specs.Winding.{coverage}
use Rattle.coverage.specs.Scissors.{scissored}
use Rattle.coverage.proofs.Limits.{coverage_at_most_16, scissored_at_most}
use Rattle.transform.specs.declared.FixedTransform.{FixedTransform}
use Rattle.transform.specs.Transforms.{transformed}
use Rattle.engine.specs.declared.Style.{Style}
use Rattle.engine.specs.declared.TintedGradient.{TintedGradient}
use Rattle.engine.specs.declared.Shade.{Shade}
use Rattle.engine.specs.declared.Shade.TheVariants.{Solid, Gradient}
use Rattle.engine.specs.Picture.{mask_at}
use Rattle.engine.specs.Rows.{scissored_by, coverage_with, mask_with, step_with, tinted_by, gradient_tinted, shade_at}

tab_same : {A : Type 0} (n : ℕ) (f g : ℕ → A) → ((k : ℕ) → k < n → f k ≡ g k) → tab n f ≡ tab n g
tab_same n f g h = upto_same n (λ k. f k ∷ []) (λ k. g k ∷ []) (λ k l. ap (λ a. a ∷ []) (h k l))

tab_fits : (n : ℕ) (f : ℕ → ℕ) (c : List ℕ) → c ≡ tab n f → ((i : ℕ) → f i ≤ 16) → Coverage c
tab_fits n f c o h i l =
    let m : i < n = rw (ap length o ∙ tab_length n f) at l in
    rw (ap (λ (s : List ℕ). get_or s i 0) o ∙ tab_at n f i 0 m) (h i)

pub coverage_fits : (es : List Edge) (nonzero : Bool) (x y n : ℕ) (c : List ℕ) → c ≡ tab n (λ i. coverage es nonzero (x + i) y) → Coverage c
coverage_fits es nonzero x y n c o = tab_fits n (λ i. coverage es nonzero (x + i) y) c o (λ i. coverage_at_most_16 es nonzero (x + i) y)

-- scissors only take away
pub cut_at_most : (s : Option ℕ) (scissors : List ℕ) (x y k : ℕ) → scissored_by s scissors x y k ≤ k
cut_at_most None scissors x y k = omega arith
cut_at_most (Some n) scissors x y k = scissored_at_most true scissors n x y k

module _ (style : Style) (es : List Edge) (scissors : List ℕ) (x y : ℕ) where
  pub with_at_most : (i : ℕ) → coverage_with style es scissors i y ≤ 16
  unfolding coverage_with
  with_at_most i =
      le_trans (cut_at_most style.scissors scissors i y (coverage es style.nonzero i y))
      (coverage_at_most_16 es style.nonzero i y)

  -- without scissoring
  pub cover_plain : (n : ℕ) (c : List ℕ) → style.scissors ≡ None → c ≡ tab n (λ i. coverage es style.nonzero (x + i) y)
      → c ≡ tab n (λ i. coverage_with style es scissors (x + i) y)
  unfolding coverage_with
  cover_plain n c e o = o ∙ tab_same n _ _ (λ i l. rw e)

  -- with it
  pub cover_scissored : (n count : ℕ) (c b : List ℕ) → style.scissors ≡ Some count → b ≡ tab n (λ i. coverage es style.nonzero (x + i) y)
      → c ≡ tab n (λ i. scissored true scissors count (x + i) y (get_or b i 0))
      → c ≡ tab n (λ i. coverage_with style es scissors (x + i) y)
  unfolding coverage_with
  cover_scissored n count c b e o q =
      q
      ∙ tab_same n _ _
      (λ i l.
      ap (scissored true scissors count (x + i) y) (ap (λ (s : List ℕ). get_or s i 0) o ∙ tab_at n _ i 0 l)
      ∙ ap (λ (t : Option ℕ). scissored_by t scissors (x + i) y (coverage es style.nonzero (x + i) y)) (sym e))

  -- every k is at most 16
  pub cover_fits : (n : ℕ) (c : List ℕ) → c ≡ tab n (λ i. coverage_with style es scissors (x + i) y) → Coverage c
  cover_fits n c o = tab_fits n (λ i. coverage_with style es scissors (x + i) y) c o (λ i. with_at_most (x + i))

  -- a row of pixels under that coverage
  pub row_steps : (n : ℕ) (c d ramp mask r : List ℕ) → c ≡ tab n (λ i. coverage_with style es scissors (x + i) y)
      → r ≡ composite_row style.mode c (λ i. mask_with style (get_or mask i 0)) (λ i. shade_at style.shade ramp (x + i) y) d
      → r ≡ run n (λ i. step_with style es scissors ramp (get_or mask i 0) (x + i) y (pixel_in d i))
  unfolding step_with
  row_steps n c d ramp mask r o q =
      let f : ℕ → ℕ → Pixel = λ i z.
      composite_on style.mode z (mask_with style (get_or mask i 0)) (shade_at style.shade ramp (x + i) y) (pixel_in d i) in
      q
      ∙ ap (λ (m : ℕ). run m (λ i. f i (get_or c i 0))) (ap length o ∙ tab_length n _)
      ∙ run_same n _ _ (λ i l. ap (f i) (ap (λ (z : List ℕ). get_or z i 0) o ∙ tab_at n _ i 0 l))

-- ---- scissors on a row of k's
module _ (scissors : List ℕ) (count x y : ℕ) (m b : List ℕ) (e : m ≡ tab (length b) (λ i. scissored true scissors count (x + i) y (get_or b i 0))) where
  pub cut_small : Coverage b → (i : ℕ) → i < length m → get_or m i 0 < 32
  cut_small h i l =
      let k : i < length b = rw (ap length e ∙ tab_length (length b) _) at l in
      let v : get_or m i 0 ≡ scissored true scissors count (x + i) y (get_or b i 0) = ap (λ (z : List ℕ). get_or z i 0) e ∙ tab_at (length b) _ i 0 k in
      omega (arith, v, scissored_at_most true scissors count (x + i) y (get_or b i 0), h i k)

  pub cut_row : (n : ℕ) (ks : List ℕ) → b ≡ ks → length b ≡ n → m ≡ tab n (λ i. scissored true scissors count (x + i) y (get_or ks i 0))
  cut_row n ks o l =
      e
      ∙ ap (λ (k : ℕ). tab k (λ i. scissored true scissors count (x + i) y (get_or b i 0))) l
      ∙ ap (λ (z : List ℕ). tab n (λ i. scissored true scissors count (x + i) y (get_or z i 0))) o

-- ---- a row's buffer
pub first_of : (b : List ℕ) (n : ℕ) → take (n - 0) (drop 0 b) ≡ take n b
first_of b n =
    let e : n - 0 ≡ n = omega arith in
    rw e

-- what is given back first stands first
pub first_part : (q rest : List ℕ) (n : ℕ) → length q ≡ n → take n (q ++ rest) ≡ q
first_part q rest n e = take_at q rest n e

pub first_given : (b q : List ℕ) (n : ℕ) → length q ≡ n → n ≤ length b → length (q ++ drop (n - 0) b) ≡ length b
first_given b q n e h = simp (length-append, length-drop) (omega arith)

-- ---- pixels by a colour transformation
module _ (n : ℕ) (row : List ℕ) (t : Option FixedTransform) where
  pub plain_row : t ≡ None → length row ≡ n * 4 → row ≡ run n (λ i. tinted_by t (pixel_in row i))
  unfolding tinted_by
  plain_row e l = rw e (run_is n (pixel_in row) row l (λ i k. refl))

  pub transformed_row : (f : FixedTransform) (r : List ℕ) → t ≡ Some f → r ≡ run n (λ i. transformed f (pixel_in row i))
      → r ≡ run n (λ i. tinted_by t (pixel_in row i))
  unfolding tinted_by
  transformed_row f r e o = o ∙ rw e

  -- where the pixels are f's
  pub tinted_pixels : (f : ℕ → Pixel) (r : List ℕ) → row ≡ run n f → r ≡ run n (λ i. tinted_by t (pixel_in row i)) → r ≡ run n (λ i. tinted_by t (f i))
  tinted_pixels f r e o = o ∙ run_same n _ _ (λ i l. ap (tinted_by t) (ap (λ (z : List ℕ). pixel_in z i) e ∙ run_at n f i l))

-- ---- a shade's row
module _ (n x y : ℕ) (ramp q : List ℕ) (s : Shade) where
  pub solid_pixels : (p : Pixel) → s ≡ Solid p → q ≡ run n (λ i. p) → q ≡ run n (λ i. shade_at s ramp (x + i) y)
  unfolding shade_at
  solid_pixels p e o = o ∙ rw e

  pub gradient_pixels : (g : TintedGradient) → s ≡ Gradient g → q ≡ run n (λ i. gradient_tinted g ramp (x + i) y)
      → q ≡ run n (λ i. shade_at s ramp (x + i) y)
  unfolding shade_at
  gradient_pixels g e o = o ∙ rw e

-- blended, through any mask
module _ (mode x y : ℕ) (mask : ℕ → ℕ) (ks row ramp r : List ℕ) (s : Shade) where
  pub solid_row : (p : Pixel) → s ≡ Solid p → r ≡ composite_row mode ks mask (λ i. p) row
      → r ≡ composite_row mode ks mask (λ i. shade_at s ramp (x + i) y) row
  unfolding shade_at
  solid_row p e o = o ∙ rw e

  pub gradient_blended : (g : TintedGradient) → s ≡ Gradient g → r ≡ composite_row mode ks mask (λ i. gradient_tinted g ramp (x + i) y) row
      → r ≡ composite_row mode ks mask (λ i. shade_at s ramp (x + i) y) row
  unfolding shade_at
  gradient_blended g e o = o ∙ rw e

  -- the paint's pixels come from q
  pub painted_row : (n k : ℕ) (q : List ℕ) → length ks ≡ n → k ≡ n → q ≡ run n (λ i. shade_at s ramp (x + i) y)
      → r ≡ run k (λ i. composite_on mode (get_or ks (0 + i) 0) (mask i) (pixel_in q i) (pixel_in row i))
      → r ≡ composite_row mode ks mask (λ i. shade_at s ramp (x + i) y) row
  painted_row n k q l e o u =
      let f : ℕ → Pixel = λ i. shade_at s ramp (x + i) y in
      u
      ∙ ap (λ (j : ℕ). run j (λ i. composite_on mode (get_or ks (0 + i) 0) (mask i) (pixel_in q i) (pixel_in row i))) (e ∙ sym l)
      ∙ run_same (length ks) _ _
      (λ i h.
      let z : 0 + i ≡ i = omega arith in
      ap₂ (λ (c : ℕ) (p : Pixel). composite_on mode c (mask i) p (pixel_in row i)) (ap (λ (j : ℕ). get_or ks j 0) z)
      (ap (λ (t : List ℕ). pixel_in t i) o ∙ run_at n f i (rw l at h)))

-- ---- a rectangle drawn with the same edges and the same rows
pub same_steps : (style : Style) (n : ℕ) (scissors ramp mask s r : List ℕ) {t u : Target} {z e : List ℤ} → t ≡ u → z ≡ e
    → r ≡ stepped t (λ x y. step_with style (edges_of z n) scissors ramp (mask_at t.width mask x y) x y) s
    → r ≡ stepped u (λ x y. step_with style (edges_of e n) scissors ramp (mask_at u.width mask x y) x y) s
same_steps style n scissors ramp mask s r {t = t} {u = u} {z = z} {e = e} a b o =
    o
    ∙ ap (λ (w : Target). stepped w (λ x y. step_with style (edges_of z n) scissors ramp (mask_at w.width mask x y) x y) s) a
    ∙ ap (λ (w : List ℤ). stepped u (λ x y. step_with style (edges_of w n) scissors ramp (mask_at u.width mask x y) x y) s) b
