-- The rectangle round the scissors: outside it they leave no pixel open.
use mathlib.Core.Path.{◌≡◌}
use mathlib.Core.Bool.{true, false≢true}
use mathlib.Core.List.{List}
use Prim.Native.Nat.{ℕ, zero, suc, ◌+◌, ◌*◌, ◌≤◌, ◌<◌}
use native.Mathlib.Omega.{arith}
use lib.IntN.{ℤ, pos, negsuc, ◌+ℤ◌}
use lib.Signed.{le_z, lt_z}
use lib.Dec.{leb}
use borrow.Author.Tests.{leb-true, ltb-true, lt-leb}
use Rattle.fixed.specs.Little.{i32_at}
use Rattle.rect.specs.Rects.{Inside}
use Rattle.rect.proofs.Laws.{both, either, not_true_is, join_left, join_right}
use Rattle.path.specs.Boxes.{within}
use Rattle.coverage.specs.Scissors.{in_scissor, in_scissors, scissored}
use Rattle.coverage.specs.Clips.{scissor_rect, scissor_box}

from_within : (z : ℤ) (x : ℕ) → le_z z (pos x) ≡ true → within 1024 z ≤ x
from_within (pos n) x e = either (leb n 0) (λ t. rw t (omega arith)) (λ f. rw f (omega (arith, leb-true n x e)))
from_within (negsuc n) x e = omega arith

up_to_within : (z : ℤ) (x : ℕ) → x < 1024 → lt_z (pos x) z ≡ true → x < within 1024 z
up_to_within (pos n) x k e = let l = ltb-true x n e in rw (lt-leb n 0 (omega (arith, l))) (omega (arith, k, l))
up_to_within (negsuc n) x k e = absurd (false≢true e)

rect_holds : (scissors : List ℕ) (i x y : ℕ) → x < 1024 → y < 1024 → in_scissor scissors i x y ≡ true → Inside (scissor_rect scissors i) x y
unfolding scissor_rect
rect_holds scissors i x y k l e =
    let p = both _ _ e in
    let across = both _ _ p.0 in
    let up = both _ _ p.1 in
    record {
      left = from_within (i32_at scissors (16 * i)) x across.0;
      right = up_to_within (i32_at scissors (16 * i) +ℤ i32_at scissors (16 * i + 8)) x k across.1;
      below = from_within (i32_at scissors (16 * i + 4)) y up.0;
      above = up_to_within (i32_at scissors (16 * i + 4) +ℤ i32_at scissors (16 * i + 12)) y l up.1;
    }

box_holds : (scissors : List ℕ) (n x y : ℕ) → x < 1024 → y < 1024 → in_scissors scissors n x y ≡ true → Inside (scissor_box scissors n) x y
box_holds scissors zero x y k l e = absurd (false≢true e)
box_holds scissors (suc n) x y k l e =
    either (in_scissors scissors n x y) (λ t. join_left (scissor_box scissors n) (scissor_rect scissors n) x y (box_holds scissors n x y k l t))
    (λ f. join_right (scissor_box scissors n) (scissor_rect scissors n) x y (rect_holds scissors n x y k l (rw f at e)))

pub clipped_away : (scissors : List ℕ) (n x y k : ℕ) → x < 1024 → y < 1024 → (Inside (scissor_box scissors n) x y → ⊥) → scissored true scissors n x y k ≡ 0
unfolding scissored
clipped_away scissors n x y k p q out = rw (not_true_is (in_scissors scissors n x y) (λ e. out (box_holds scissors n x y p q e)))
