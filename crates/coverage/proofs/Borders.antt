-- The scissors along a row: a column before which a span holds all columns or none, and a row cut stretch by stretch.
use mathlib.Core.Path.{◌≡◌, refl, sym, ap, subst, ◌∙◌}
use mathlib.Core.List.{List, ◌++◌}
use mathlib.Core.Bool.{Bool, true, false, cond, ◌&&◌, and-false}
use Prim.Native.Nat.{ℕ, ◌+◌, ◌-◌, ◌≤◌, ◌<◌, ◌^◌}
use native.Mathlib.Omega.{arith}
use lib.Dec.{T}
use lib.IntN.{ℤ, pos, negsuc, nat_abs}
use lib.ListN.{length, get_or, take, drop}
use lib.Seq.{get_or-append-add, get_or-take, get_or-drop}
use lib.Signed.{le_z, lt_z, non_neg}
use mir.Syntax.{w64}
use mir.Val.{to_z, of_z, SFits, Fits}
use mir.Facts.{to_z-of_z, to_z_pos}
use borrow.Author.Tests.{ltb-true, ltb-false, leb-true, lt-ltb, le-ltb, le-leb, lt-leb}
use Rattle.lists.specs.Lists.{tab, over}
use Rattle.lists.proofs.Laws.{tab_ext, tab_length, over_part, part_length}
use Rattle.coverage.specs.declared.Span.{Span}
use Rattle.coverage.specs.Scissors.{in_scissors, scissored}
use Rattle.coverage.specs.Scanline.{in_span}
use Rattle.coverage.proofs.Laid.{tab_same}
use Rattle.coverage.proofs.Window.{tab_join}
use Rattle.coverage.proofs.Rectangles.{kept_is}

-- columns before r, which is not right of z, and from x on, which is not left of z
not_begun : (z : ℤ) (r j : ℕ) → le_z (pos r) z ≡ true → j < r → le_z z (pos j) ≡ false
not_begun (pos n) r j h l = lt-leb n j (omega (arith, leb-true r n h))
not_begun (negsuc n) r j h l = absurd (subst T (sym h) tt)

begun : (z : ℤ) (x j : ℕ) → lt_z (pos x) z ≡ false → x ≤ j → le_z z (pos j) ≡ true
begun (pos n) x j h l = le-leb n j (omega (arith, ltb-false x n h))
begun (negsuc n) x j h l = refl

not_ended : (z : ℤ) (r j : ℕ) → le_z (pos r) z ≡ true → j < r → lt_z (pos j) z ≡ true
not_ended (pos n) r j h l = lt-ltb j n (omega (arith, leb-true r n h))
not_ended (negsuc n) r j h l = absurd (subst T (sym h) tt)

ended : (z : ℤ) (x j : ℕ) → lt_z (pos x) z ≡ false → x ≤ j → lt_z (pos j) z ≡ false
ended (pos n) x j h l = le-ltb j n (omega (arith, ltb-false x n h))
ended (negsuc n) x j h l = refl

-- a part of a row, made 0 or kept
module _ (s : List ℕ) (keep : Bool) where
  pub cut_away : (t : List ℕ) → keep ≡ false → t ≡ tab (length s) (λ i. 0) → t ≡ tab (length s) (λ i. cond keep (get_or s i 0) 0)
  cut_away t e o = o ∙ ap (λ (b : Bool). tab (length s) (λ i. cond b (get_or s i 0) 0)) (sym e)

  pub cut_nothing : keep ≡ true → s ≡ tab (length s) (λ i. cond keep (get_or s i 0) 0)
  cut_nothing e = tab_ext 0 s (length s) (λ i. get_or s i 0) refl (λ i l. refl) ∙ ap (λ (b : Bool). tab (length s) (λ i. cond b (get_or s i 0) 0)) (sym e)

-- what is not stored yet is as it was
beyond : (f : ℕ → ℕ) (s d : List ℕ) (i m : ℕ) → s ≡ over (tab i f) d → get_or s (i + m) 0 ≡ get_or d (i + m) 0
beyond f s d i m o =
    ap (λ (t : List ℕ). get_or t (i + m) 0) o ∙ ap (λ (k : ℕ). get_or (over (tab i f) d) (k + m) 0) (sym (tab_length i f))
    ∙ get_or-append-add (tab i f) (drop (length (tab i f)) d) m 0 ∙ get_or-drop (length (tab i f)) d m 0 ∙ ap (λ (k : ℕ). get_or d (k + m) 0) (tab_length i f)

module _ (scissors : List ℕ) (n x y : ℕ) (d : List ℕ) where
  -- what a pixel is to have
  abbrev pub pixel : ℕ → ℕ
  pixel i = scissored true scissors n (x + i) y (get_or d i 0)

  -- the part from i to e, all of it in a rectangle or none of it, lent and given back after the pixels before it
  pub stretch_cut : (s q : List ℕ) (i e : ℕ) (keep : Bool) → i ≤ e → e ≤ length d → length s ≡ length d → s ≡ over (tab i pixel) d
      → ((m : ℕ) → i ≤ m → m < e → keep ≡ in_scissors scissors n (x + m) y)
      → q ≡ tab (length (take (e - i) (drop i s))) (λ m. cond keep (get_or (take (e - i) (drop i s)) m 0) 0)
      → take i s ++ (q ++ drop (e - i) (drop i s)) ≡ over (tab e pixel) d
  stretch_cut s q i e keep a b w o h g =
      ap (λ (t : List ℕ). take i t ++ (q ++ drop (e - i) (drop i t))) o
      ∙ over_part (tab i pixel) d q i (e - i) (tab_length i pixel) (ap length part ∙ tab_length (e - i) (λ m. pixel (i + m))) (omega arith)
      ∙ ap (λ (t : List ℕ). over t d)
      (ap (λ (t : List ℕ). tab i pixel ++ t) part ∙ tab_join i (e - i) pixel ∙ let k : i + (e - i) ≡ e = omega arith in ap (λ (m : ℕ). tab m pixel) k)
    where
      each : (m : ℕ) → m < e - i → cond keep (get_or (take (e - i) (drop i s)) m 0) 0 ≡ pixel (i + m)
      each m l =
          ap (λ (v : ℕ). cond keep v 0) (get_or-take (e - i) (drop i s) m 0 l ∙ get_or-drop i s m 0 ∙ beyond pixel s d i m o)
          ∙ kept_is scissors n (x + (i + m)) y (get_or d (i + m) 0) keep (h (i + m) (omega arith) (omega arith))

      part : q ≡ tab (e - i) (λ m. pixel (i + m))
      part =
          g ∙ ap (λ (k : ℕ). tab k (λ m. cond keep (get_or (take (e - i) (drop i s)) m 0) 0)) (part_length s i e a (omega arith))
          ∙ tab_same (e - i) (λ m. cond keep (get_or (take (e - i) (drop i s)) m 0) 0) (λ m. pixel (i + m)) each
