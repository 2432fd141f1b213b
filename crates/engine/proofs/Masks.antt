-- The mask's bytes along a row, and whether a draw asks for them.
use mathlib.Core.Path.{◌≡◌, refl, sym, ap, ◌∙◌}
use mathlib.Core.Bool.{Bool, true, false, cond, true≢false}
use mathlib.Core.List.{List}
use Prim.Native.Nat.{ℕ, ◌+◌, ◌-◌, ◌*◌, ◌/◌, ◌≤◌, ◌<◌}
use native.Mathlib.Omega.{arith}
use lib.ListN.{length, get_or, take, drop}
use lib.Seq.{get_or-drop, get_or-take}
use Rattle.lists.proofs.Laws.{run_fits, part_length}
use Rattle.color.specs.declared.Pixel.{Pixel}
use Rattle.raster.specs.declared.Target.{Target}
use Rattle.raster.specs.Surface.{run}
use Rattle.raster.specs.Rows.{Placed}
use Rattle.raster.proofs.Runs.{run_same}
use Rattle.path.specs.declared.Edge.{Edge}
use Rattle.blend.specs.PorterDuff.{composite_on}
use Rattle.blend.specs.Rows.{composite_row}
use Rattle.engine.specs.declared.Style.{Style}
use Rattle.engine.specs.Picture.{mask_at}
use Rattle.engine.specs.Rows.{coverage_with, shade_at, step_with, MaskFor}

-- a row blended through the mask or without it
pub mask_chosen : (mode : ℕ) (ks : List ℕ) (m : ℕ → ℕ) (paint : ℕ → Pixel) (d r : List ℕ) (t u : Bool) → t ≡ u
    → r ≡ composite_row mode ks (λ i. cond u (m i) 255) paint d → r ≡ composite_row mode ks (λ i. cond t (m i) 255) paint d
mask_chosen mode ks m paint d r t u e o = o ∙ ap (λ (z : Bool). composite_row mode ks (λ i. cond z (m i) 255) paint d) (sym e)

-- the step is that of the mask's byte, where it is asked for
byte_chosen : (t : Bool) (m n : ℕ) → (t ≡ true → m ≡ n) → cond t m 255 ≡ cond t n 255
byte_chosen true m n h = h refl
byte_chosen false m n h = refl

step_masked : (style : Style) (es : List Edge) (scissors ramp : List ℕ) (m n x y : ℕ) (q : Pixel) → (style.masked ≡ true → m ≡ n)
    → step_with style es scissors ramp m x y q ≡ step_with style es scissors ramp n x y q
unfolding step_with
step_masked style es scissors ramp m n x y q h =
    ap (λ (k : ℕ). composite_on style.mode (coverage_with style es scissors x y) k (shade_at style.shade ramp x y) q) (byte_chosen style.masked m n h)

-- the bytes from f to before e of the mask are those of the row y, where they are asked for
pub record MaskRow (t : Target) (masked : Bool) (mask : List ℕ) (y f e : ℕ) : Type 0 where
  pub across : f ≤ e
  pub within : e ≤ length mask
  pub long : MaskFor masked (t.area.x1 - t.area.x0) (take (e - f) (drop f mask))
  pub read : masked ≡ true → (k : ℕ) → k < t.area.x1 - t.area.x0 → get_or (take (e - f) (drop f mask)) k 0 ≡ mask_at t.width mask (t.area.x0 + k) y

module _ (t : Target) (placed : Placed t) (mask : List ℕ) (y from to f e : ℕ) (l : y < t.area.y1) (a : from ≡ (y * t.width + t.area.x0) * 4)
    (b : to ≡ (y * t.width + t.area.x1) * 4) where
  pub mask_row : (masked : Bool) → f ≡ cond masked (from / 4) 0 → e ≡ cond masked (to / 4) 0 → MaskFor masked (t.height * t.width) mask
      → MaskRow t masked mask y f e
  mask_row true g h asked =
      let size = asked refl in
      let start : f ≡ y * t.width + t.area.x0 = omega arith in
      let end : e ≡ y * t.width + t.area.x1 = omega arith in
      let across : f ≤ e = omega (arith, placed.on.across) in
      let high : y < t.height = omega (arith, placed.on.high) in
      let within : e ≤ length mask = omega (arith, size, placed.on.wide, run_fits t.width y t.height high) in
      record {
        across = across;
        within = within;
        long = λ _. part_length mask f e across within ∙ omega arith;
        read = λ _ k i.
            get_or-take (e - f) (drop f mask) k 0 (omega arith)
            ∙ get_or-drop f mask k 0
            ∙ ap (λ (j : ℕ). get_or mask j 0) (omega arith);
      }
  mask_row false g h asked = record {
    across = omega arith;
    within = omega arith;
    long = λ q. absurd (true≢false (sym q));
    read = λ q. absurd (true≢false (sym q));
  }

-- a row by the mask's bytes of that row is a row by the mask
pub mask_turn : (t : Target) (style : Style) (es : List Edge) (scissors ramp mask r : List ℕ) (p : ℕ → Pixel) (y f e : ℕ)
    → MaskRow t style.masked mask y f e
    → r ≡ run (t.area.x1 - t.area.x0) (λ k. step_with style es scissors ramp (get_or (take (e - f) (drop f mask)) k 0) (t.area.x0 + k) y (p k))
    → r ≡ run (t.area.x1 - t.area.x0) (λ k. step_with style es scissors ramp (mask_at t.width mask (t.area.x0 + k) y) (t.area.x0 + k) y (p k))
mask_turn t style es scissors ramp mask r p y f e o q =
    q ∙ run_same (t.area.x1 - t.area.x0) _ _ (λ k i. step_masked style es scissors ramp _ _ (t.area.x0 + k) y (p k) (λ h. o.read h k i))
