-- Lists of equal parts, joined and taken apart.
use mathlib.Core.Path.{◌≡◌, sym, ap, ◌∙◌}
use mathlib.Core.List.{List}
use mathlib.Core.Logic.{⊎_elim}
use Prim.Native.Nat.{ℕ, zero, suc, ◌+◌, ◌*◌, ◌≤◌, ◌<◌}
use native.Mathlib.Nat.{eq-or-lt_of_le, le_of_suc-le-suc, not-suc-le-zero}
use native.Mathlib.Omega.{arith}
use lib.ListN.{length, take, drop, length-append, length-drop, take-append-drop}
use lib.Seq.{length-take-le, drop_at, take-add, take_all, take-append-le, drop-append-le}
use Rattle.lists.specs.Lists.{upto}
use Rattle.lists.proofs.Laws.{run_fits}

-- the parts of a list are the list
pub parts_join : (m n : ℕ) (d : List ℕ) → upto n (λ j. take m (drop (m * j) d)) ≡ take (m * n) d
parts_join m zero d = let e : m * 0 ≡ 0 = omega arith in rw e
parts_join m (suc n) d =
    let e : m * suc n ≡ m * n + m = omega arith in
    rw (parts_join m n d, e, take-add)

-- part b of n parts of m elements each
module _ (m : ℕ) (f : ℕ → List ℕ) where
  pub joined_length : (n : ℕ) → ((k : ℕ) → k < n → length (f k) ≡ m) → length (upto n f) ≡ m * n
  joined_length zero h = omega arith
  joined_length (suc n) h = rw (length-append, joined_length n (λ k l. h k (omega arith)), h n (omega arith)) (omega arith)

  pub chunk : (n : ℕ) → ((k : ℕ) → k < n → length (f k) ≡ m) → (b : ℕ) → b < n → take m (drop (m * b) (upto n f)) ≡ f b
  chunk zero h b l = absurd (not-suc-le-zero l)
  chunk (suc n) h b l =
      let e : length (upto n f) ≡ m * n = joined_length n (λ k l. h k (omega arith)) in
      ⊎_elim
      (λ q. rw q (ap (take m) (drop_at (upto n f) (f n) (m * n) e) ∙ take_all m (f n) (rw (h n (omega arith)) (omega arith))))
      (λ q.
      let r = run_fits m b n q in
      ap (take m) (drop-append-le (m * b) (upto n f) (f n) (omega arith))
      ∙ take-append-le m (drop (m * b) (upto n f)) (f n) (rw length-drop (omega arith))
      ∙ chunk n (λ k l. h k (omega arith)) b q)
      (eq-or-lt_of_le (le_of_suc-le-suc l))

-- what is read within the first m elements
pub within : (l : List ℕ) (k m n : ℕ) → m ≤ length l → k + n ≤ m → take n (drop k (take m l)) ≡ take n (drop k l)
within l k m n a b =
    let w : length (take m l) ≡ m = length-take-le m l a in
    sym (take-append-le n (drop k (take m l)) (drop m l) (rw length-drop (omega arith)))
    ∙ ap (take n) (sym (drop-append-le k (take m l) (drop m l) (omega arith)))
    ∙ ap (λ (x : List ℕ). take n (drop k x)) (take-append-drop m l)
