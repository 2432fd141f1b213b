-- A rule that fails only where one of n ends lies holds from lo up to hi if it holds at lo and at the ends between.
use mathlib.Core.Path.{◌≡◌, sym, ap, ◌∙◌}
use mathlib.Core.Bool.{Bool, true, false, cond, ◌&&◌, true≢false}
use Prim.Native.Nat.{ℕ, zero, suc, ◌+◌, ◌-◌, ◌≤◌, ◌<◌}
use native.Mathlib.Omega.{arith}
use lib.Dec.{leb, ltb}
use borrow.Author.Tests.{le-leb, lt-ltb, leb-true, ltb-true}
use mathlib.Core.Logic.{⊎_elim}
use native.Mathlib.Nat.{eq-or-lt_of_le, le_of_suc-le-suc}
use Rattle.rect.specs.declared.Rect.{Rect}
use Rattle.rect.specs.Rects.{inside}
use Rattle.rect.proofs.Laws.{either, inside_true, inside_yes}
use Rattle.regions.specs.Pixels.{every}
use Rattle.regions.specs.Runs.{in_one}
use Rattle.regions.proofs.Every.{every_at, every_yes, every_no, some_yes, some_at}

-- the test of a number that counts only from lo up to hi
abbrev pub within : ℕ → ℕ → (ℕ → Bool) → ℕ → Bool
within lo hi p x = cond (leb lo x && ltb x hi) (p x) true

pub within_at : (lo hi : ℕ) (p : ℕ → Bool) (x : ℕ) → lo ≤ x → x < hi → within lo hi p x ≡ p x
within_at lo hi p x l m = rw (le-leb lo x l, lt-ltb x hi m)

-- p goes on where none of the n ends lies
abbrev pub GoesOn : ℕ → (ℕ → ℕ) → (ℕ → Bool) → Type 0
GoesOn n e p = (x : ℕ) → ((k : ℕ) → k < n → e k ≡ suc x → ⊥) → p x ≡ true → p (suc x) ≡ true

module _ (n : ℕ) (e : ℕ → ℕ) (p : ℕ → Bool) (goes : GoesOn n e p) (lo hi : ℕ) where
  at_start : (x : ℕ) → within lo hi p lo ≡ true → lo ≡ x → x < hi → p x ≡ true
  at_start x s q l = rw q at (sym (within_at lo hi p lo (omega arith) (omega arith)) ∙ s)

  pub holds_between : within lo hi p lo ≡ true → ((k : ℕ) → k < n → within lo hi p (e k) ≡ true) → (x : ℕ) → lo ≤ x → x < hi → p x ≡ true
  holds_between s h zero m l = at_start 0 s (omega arith) l
  holds_between s h (suc x) m l =
      ⊎_elim (λ q. at_start (suc x) s q l)
      (λ o.
      either (p (suc x)) (λ q. q)
      (λ q.
      goes x
      (λ k b g. true≢false (sym (h k b) ∙ within_at lo hi p (e k) (omega arith) (omega arith) ∙ ap p g ∙ q))
      (holds_between s h x (le_of_suc-le-suc o) (omega arith))))
      (eq-or-lt_of_le m)

-- ---- the rows of a column, and the columns of a box
module _ (n : ℕ) (rs : ℕ → Rect) where
  pub row_goes : (x : ℕ) → GoesOn n (λ k. (rs k).y1) (in_one n rs x)
  unfolding in_one
  row_goes x y none h =
      some_at (λ k. inside (rs k) x y) n h
      (λ k l q.
      let i = inside_true (rs k) x y q in
      some_yes (λ k. inside (rs k) x (suc y)) n k l
      (inside_yes (rs k) x (suc y) (record { left = i.left; right = i.right; below = omega (arith, i.below); above = above k l i.above })))
    where
      above : (k : ℕ) → k < n → y < (rs k).y1 → suc y < (rs k).y1
      above k l a = ⊎_elim (λ e. absurd (none k l (sym e))) (λ m. m) (eq-or-lt_of_le a)

  pub column_goes : (y0 m : ℕ) → GoesOn n (λ k. (rs k).x1) (λ x. every m (λ j. in_one n rs x (y0 + j)))
  unfolding in_one
  column_goes y0 m x none h =
      every_yes (λ j. in_one n rs (suc x) (y0 + j)) m
      (λ j l.
      some_at (λ k. inside (rs k) x (y0 + j)) n (every_at (λ j. in_one n rs x (y0 + j)) m h j l)
      (λ k o q.
      let i = inside_true (rs k) x (y0 + j) q in
      some_yes (λ k. inside (rs k) (suc x) (y0 + j)) n k o
      (inside_yes (rs k) (suc x) (y0 + j) (record { left = omega (arith, i.left); right = right k o i.right; below = i.below; above = i.above }))))
    where
      right : (k : ℕ) → k < n → x < (rs k).x1 → suc x < (rs k).x1
      right k l a = ⊎_elim (λ e. absurd (none k l (sym e))) (λ m. m) (eq-or-lt_of_le a)

-- ---- what a loop over the ends has found: all of them pass, or one does not
module _ (n : ℕ) (e : ℕ → ℕ) (p : ℕ → Bool) (goes : GoesOn n e p) (lo hi : ℕ) where
  pub ends_enough : within lo hi p lo ≡ true → every n (λ k. within lo hi p (e k)) ≡ true → every (hi - lo) (λ i. p (lo + i)) ≡ true
  ends_enough s h =
      every_yes (λ i. p (lo + i)) (hi - lo)
      (λ i l. holds_between n e p goes lo hi s (every_at (λ k. within lo hi p (e k)) n h) (lo + i) (omega arith) (omega arith))

-- one that does not pass is one of lo up to hi
pub end_fails : (p : ℕ → Bool) (lo hi x : ℕ) → within lo hi p x ≡ false → every (hi - lo) (λ i. p (lo + i)) ≡ false
end_fails p lo hi x h =
    either (leb lo x)
    (λ a.
    either (ltb x hi)
    (λ b.
    let g : lo + (x - lo) ≡ x = omega (arith, leb-true lo x a) in
    let q : p x ≡ false = rw (a, b) at h in
    every_no (λ i. p (lo + i)) (hi - lo) (x - lo) (omega (arith, leb-true lo x a, ltb-true x hi b)) (rw g q))
    (λ b. absurd (true≢false (rw (a, b) at h))))
    (λ a. absurd (true≢false (rw a at h)))
