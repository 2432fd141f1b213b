-- The numbers of a proposal that names given rectangles.
use mathlib.Core.Path.{◌≡◌, refl, sym, ap, ◌∙◌}
use mathlib.Core.Bool.{true, false}
use mathlib.Core.List.{List, [], ◌∷◌}
use mathlib.Core.Logic.{⊎_elim}
use Prim.Native.Nat.{ℕ, zero, suc, ◌+◌, ◌*◌, ◌-◌, ◌/◌, ◌≤◌, ◌<◌}
use native.Mathlib.Nat.{eq-or-lt_of_le, le_of_suc-le-suc, not-suc-le-zero}
use native.Mathlib.Omega.{arith}
use lib.ListN.{length, get_or, get_or-append}
use lib.Seq.{get_or-append-add}
use lib.IntN.{ℤ, pos, nat_abs}
use borrow.Author.Tests.{le-leb, lt-ltb}
use Rattle.lists.specs.Lists.{upto, tab, over}
use Rattle.lists.proofs.Laws.{upto_length, run_fits, upto_same, emit_four}
use Rattle.rect.specs.declared.Rect.{Rect}
use Rattle.rect.specs.Rects.{Inside, inside}
use Rattle.rect.proofs.Laws.{not_true_is, inside_true, inside_yes}
use Rattle.regions.specs.Pixels.{in_any}
use Rattle.regions.specs.Runs.{in_one}
use Rattle.regions.specs.Proposals.{x_at, y_at, width_at, height_at, lies, lies_in, proposed_at, proposed}
use Rattle.regions.proofs.Every.{any_tab, some_yes, some_at}
use Rattle.planner.specs.Runs.{four_of, numbers_of, put_four}

-- ---- lists of m elements each, one behind another
upto_at : {A : Type 0} (m n : ℕ) (f : ℕ → List A) (d : A) → ((k : ℕ) → length (f k) ≡ m) → (x k i : ℕ) → x < n → k < m → i ≡ x * m + k
    → get_or (upto n f) i d ≡ get_or (f x) k d
upto_at m zero f d h x k i l b e = absurd (not-suc-le-zero l)
upto_at m (suc n) f d h x k i l b e =
    let long = upto_length m n f h in
    ⊎_elim
    (λ q.
    let at : i ≡ length (upto n f) + k = e ∙ ap (λ j. j + k) (ap (λ y. y * m) q ∙ sym long) in
    rw (at, q) (get_or-append-add (upto n f) (f n) k d))
    (λ q.
    let r = run_fits m x n q in
    let t : i < length (upto n f) = omega arith in
    get_or-append (upto n f) (f n) d i t ∙ upto_at m n f d h x k i q b e)
    (eq-or-lt_of_le (le_of_suc-le-suc l))

-- ---- a loop that writes them
pub write_none : (rs : ℕ → Rect) (d : List ℤ) → d ≡ over (numbers_of 0 rs) d
unfolding numbers_of
write_none rs d = refl

pub write_turn : (rs : ℕ → Rect) (k : ℕ) (s d t : List ℤ) (a : Rect) → a ≡ rs k → s ≡ over (numbers_of k rs) d → k * 4 + 3 < length d
    → t ≡ put_four s (k * 4) a → t ≡ over (numbers_of (k + 1) rs) d
unfolding numbers_of put_four
write_turn rs k s d t a e o l q =
    q ∙ rw e (emit_four (λ k. four_of (rs k)) s d k (k * 4) (k + 1) (pos (rs k).x0) (pos (rs k).y0) (pos ((rs k).x1 - (rs k).x0)) (pos ((rs k).y1 - (rs k).y0))
    (λ k. refl) refl o refl refl l)

-- ---- one of several rectangles has a pixel
module _ (n : ℕ) (rs : ℕ → Rect) (x y : ℕ) where
  pub any_yes : (k : ℕ) → k < n → Inside (rs k) x y → in_any (tab n rs) x y ≡ true
  unfolding in_one
  any_yes k l i = any_tab n rs x y ∙ some_yes (λ k. inside (rs k) x y) n k l (inside_yes (rs k) x y i)

  pub any_at : {C : Type 0} → in_any (tab n rs) x y ≡ true → ((k : ℕ) → k < n → Inside (rs k) x y → C) → C
  unfolding in_one
  any_at h f = some_at (λ k. inside (rs k) x y) n (sym (any_tab n rs x y) ∙ h) (λ k l e. f k l (inside_true (rs k) x y e))

  pub any_no : ((k : ℕ) → k < n → Inside (rs k) x y → ⊥) → in_any (tab n rs) x y ≡ false
  any_no f = not_true_is (in_any (tab n rs) x y) (λ h. any_at h f)

-- ---- the numbers of n rectangles
module _ (n : ℕ) (rs : ℕ → Rect) where
  pub numbers_length : length (numbers_of n rs) ≡ n * 4
  unfolding numbers_of
  numbers_length = upto_length 4 n (λ k. four_of (rs k)) (λ k. refl)

  pub numbers_count : length (numbers_of n rs) / 4 ≡ n
  numbers_count = rw numbers_length (omega arith)

  number_at : (k j i : ℕ) → k < n → j < 4 → i ≡ k * 4 + j → get_or (numbers_of n rs) i (pos 0) ≡ get_or (four_of (rs k)) j (pos 0)
  unfolding numbers_of
  number_at k j i l b e = upto_at 4 n (λ k. four_of (rs k)) (pos 0) (λ k. refl) k j i l b e

  module _ (k : ℕ) (l : k < n) where
    x_at_lem : x_at (numbers_of n rs) k ≡ pos (rs k).x0
    x_at_lem = number_at k 0 (k * 4) l (omega arith) (omega arith)

    y_at_lem : y_at (numbers_of n rs) k ≡ pos (rs k).y0
    y_at_lem = number_at k 1 (k * 4 + 1) l (omega arith) refl

    width_at_lem : width_at (numbers_of n rs) k ≡ pos ((rs k).x1 - (rs k).x0)
    width_at_lem = number_at k 2 (k * 4 + 2) l (omega arith) refl

    height_at_lem : height_at (numbers_of n rs) k ≡ pos ((rs k).y1 - (rs k).y0)
    height_at_lem = number_at k 3 (k * 4 + 3) l (omega arith) refl

    pub rect_back : (rs k).x0 < (rs k).x1 → (rs k).y0 < (rs k).y1 → proposed_at (numbers_of n rs) k ≡ rs k
    rect_back w h =
        let ex : nat_abs (x_at (numbers_of n rs) k) ≡ (rs k).x0 = ap nat_abs x_at_lem in
        let ey : nat_abs (y_at (numbers_of n rs) k) ≡ (rs k).y0 = ap nat_abs y_at_lem in
        let ew : nat_abs (width_at (numbers_of n rs) k) ≡ (rs k).x1 - (rs k).x0 = ap nat_abs width_at_lem in
        let eh : nat_abs (height_at (numbers_of n rs) k) ≡ (rs k).y1 - (rs k).y0 = ap nat_abs height_at_lem in
        let fx : nat_abs (x_at (numbers_of n rs) k) + nat_abs (width_at (numbers_of n rs) k) ≡ (rs k).x1 = omega (arith, ex, ew, w) in
        let fy : nat_abs (y_at (numbers_of n rs) k) + nat_abs (height_at (numbers_of n rs) k) ≡ (rs k).y1 = omega (arith, ey, eh, h) in
        λ i. record { x0 = ex i; y0 = ey i; x1 = fx i; y1 = fy i }

    lies_one : (a b limit : ℕ) → a < b → b ≤ limit → lies (pos a) (pos (b - a)) limit ≡ true
    lies_one a b limit o p =
        rw (le-leb 0 a (omega arith), lt-ltb 0 (b - a) (omega arith), le-leb (a + (b - a)) limit (omega arith))

    pub rect_lies : (w h : ℕ) → (rs k).x0 < (rs k).x1 → (rs k).y0 < (rs k).y1 → (rs k).x1 ≤ w → (rs k).y1 ≤ h → lies_in w h (numbers_of n rs) k ≡ true
    unfolding lies_in
    rect_lies w h p q a b =
        rw (x_at_lem, width_at_lem, y_at_lem, height_at_lem, lies_one (rs k).x0 (rs k).x1 w p a, lies_one (rs k).y0 (rs k).y1 h q b)

  -- all of them
  pub proposed_back : ((k : ℕ) → k < n → (rs k).x0 < (rs k).x1) → ((k : ℕ) → k < n → (rs k).y0 < (rs k).y1) → proposed (numbers_of n rs) ≡ tab n rs
  proposed_back w h =
      rw numbers_count
      (upto_same n (λ k. proposed_at (numbers_of n rs) k ∷ []) (λ k. rs k ∷ []) (λ k l. ap (λ (a : Rect). a ∷ []) (rect_back k l (w k l) (h k l))))
