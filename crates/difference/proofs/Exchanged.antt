-- The pictures exchanged.
use mathlib.Core.Path.{◌≡◌, refl, sym, ap, ◌∙◌}
use mathlib.Core.Bool.{Bool, true, false, not, ◌&&◌}
use mathlib.Core.List.{List}
use Prim.Native.Nat.{ℕ, ◌*◌}
use native.Mathlib.Omega.{arith}
use lib.Dec.{eqb}
use lib.ListN.{length, get_or}
use borrow.Author.Tests.{eq-eqb, ne_eqb, eqb-true, eqb-false}
use Rattle.rect.proofs.Laws.{either}
use Rattle.color.specs.declared.Pixel.{Pixel}
use Rattle.raster.specs.Surface.{pixel_in}
use Rattle.difference.specs.Compare.{refusal_code, same_pixel, differs, differing, apart, gap_at, largest_gap}
use Rattle.difference.proofs.Picked.{picked_same}
use Rattle.difference.proofs.Greatest.{greatest_same}

eqb_turned : (m n : ℕ) → eqb m n ≡ eqb n m
eqb_turned m n =
    either (eqb m n)
    (λ t. t ∙ sym (eq-eqb n m (sym (eqb-true m n t))))
    (λ t. t ∙ sym (ne_eqb n m (λ e. eqb-false m n t (sym e))))

and_turned : (s t : Bool) → (s && t) ≡ (t && s)
and_turned true true = refl
and_turned true false = refl
and_turned false true = refl
and_turned false false = refl

same_turned : (p q : Pixel) → same_pixel p q ≡ same_pixel q p
unfolding same_pixel
same_turned p q = rw (eqb_turned p.r q.r, eqb_turned p.g q.g, eqb_turned p.b q.b, eqb_turned p.a q.a)

apart_turned : (m n : ℕ) → apart m n ≡ apart n m
apart_turned m n = omega arith

module _ (w h : ℕ) (a b : List ℕ) where
  pub differing_turned : differing w h a b ≡ differing w h b a
  unfolding differing
  differing_turned = picked_same (differs a b) (differs b a) 0 (w * h) (λ k l m. ap not (same_turned (pixel_in a k) (pixel_in b k)))

  pub largest_turned : largest_gap w h a b ≡ largest_gap w h b a
  unfolding largest_gap
  largest_turned = greatest_same (4 * (w * h)) (gap_at a b) (gap_at b a) (λ k l. apart_turned (get_or a k 0) (get_or b k 0))

  pub refusal_turned : refusal_code w h (length a) (length b) ≡ refusal_code w h (length b) (length a)
  unfolding refusal_code
  refusal_turned = rw (and_turned (eqb (length a) (4 * (w * h))) (eqb (length b) (4 * (w * h))))
