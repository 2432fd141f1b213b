-- Sums over edges and over columns, and their exchange.
use mathlib.Core.Path.{◌≡◌, refl, sym, ap, ap₂, subst, ◌∙◌}
use mathlib.Core.List.{List, [], ◌∷◌, ◌++◌}
use mathlib.Core.Bool.{Bool, true, false, cond}
use Prim.Native.Nat.{ℕ, zero, suc, ◌+◌, ◌≤◌, ◌<◌}
use native.Mathlib.Omega.{arith}
use native.Mathlib.Decide.{ℕ_discrete}
use lib.Dec.{T, leb, ltb, eqb, leb-suc-suc}
use borrow.Author.Tests.{lt-ltb, le-ltb, eq-eqb, ne_eqb, ltb-true, ltb-false}
use lib.ListN.{length}
use lib.IntN.{ℤ, pos, nat_abs, ◌+ℤ◌, +ℤ_assoc, +ℤ_idl, +ℤ_idr}
use lib.Signed.{le_z, lt_z, ◌≤ℤ◌, ◌<ℤ◌, le_z_yes, lt_z_yes}
use Rattle.fixed.proofs.Poly.{var, ◌⊕◌, eq, lt, from_le, from_lt}
use Rattle.fixed.proofs.Within.{Within, within_add}
use Rattle.path.specs.declared.Edge.{Edge}
use Rattle.coverage.specs.Winding.{upward, spans_up, left_up, spans, at_or_left, sign, sum_of, weight, counts, winding, sample}
use Rattle.coverage.specs.Scanline.{first_column, place, start_at, starts, running}
use Rattle.fixed.proofs.Tests.{both_left, both_right}
use Rattle.coverage.proofs.Crossing.{first_column_law, place_law}

-- ---- sums over edges
pub sum_append : (f : Edge → ℤ) (a b : List Edge) → sum_of f (a ++ b) ≡ sum_of f a +ℤ sum_of f b
sum_append f [] b = sym (+ℤ_idl (sum_of f b))
sum_append f (e ∷ a) b = rw (sum_append f a b, +ℤ_assoc)

pub sum_more : (f : Edge → ℤ) (a : List Edge) (e : Edge) → sum_of f (a ++ (e ∷ [])) ≡ sum_of f a +ℤ f e
sum_more f a e = rw (sum_append f a (e ∷ []), +ℤ_idr (f e))

-- a sum of numbers of size 1 is at most as large as they are many
pub sum_small : (f : Edge → ℤ) (a : List Edge) → ((e : Edge) → nat_abs (f e) ≤ 1) → nat_abs (sum_of f a) ≤ length a
sum_small f [] h = omega arith
sum_small f (e ∷ a) h =
    let w : Within (1 + length a) (f e +ℤ sum_of f a) = within_add {a = f e} {b = sum_of f a} (record { size = h e }) (record { size = sum_small f a h }) in
    omega (arith, w.size)

-- ---- sums over columns
swap : (a b c d : ℤ) → a +ℤ b +ℤ (c +ℤ d) ≡ a +ℤ c +ℤ (b +ℤ d)
swap a b c d = eq (var a ⊕ var b ⊕ (var c ⊕ var d)) (var a ⊕ var c ⊕ (var b ⊕ var d)) (omega arith)

run_add : (f g : ℕ → ℤ) (n : ℕ) → running (λ i. f i +ℤ g i) n ≡ running f n +ℤ running g n
run_add f g zero = refl
run_add f g (suc n) = ap (λ (z : ℤ). z +ℤ (f n +ℤ g n)) (run_add f g n) ∙ swap (running f n) (running g n) (f n) (g n)

run_zero : (n : ℕ) → running (λ i. pos 0) n ≡ pos 0
run_zero zero = refl
run_zero (suc n) = ap (λ (z : ℤ). z +ℤ pos 0) (run_zero n)

-- a lone number v at p
run_lone : (p : ℕ) (v : ℤ) (n : ℕ) → running (λ i. cond (eqb p i) v (pos 0)) n ≡ cond (ltb p n) v (pos 0)
run_lone p v zero = ap (λ (t : Bool). cond t v (pos 0)) (sym (le-ltb p 0 (omega arith)))
run_lone p v (suc n) = ap (λ (z : ℤ). z +ℤ cond (eqb p n) v (pos 0)) (run_lone p v n) ∙ by (ℕ_discrete p n)
  where
    by : Dec (p ≡ n) → cond (ltb p n) v (pos 0) +ℤ cond (eqb p n) v (pos 0) ≡ cond (ltb p (suc n)) v (pos 0)
    by (yes e) = rw (le-ltb p n (omega arith), eq-eqb p n e, lt-ltb p (suc n) (omega arith)) (+ℤ_idl v)
    by (no d) = rw (ne_eqb p n d, +ℤ_idr) (ap (λ (t : Bool). cond t v (pos 0)) (less (ltb p n) refl))
      where
        less : (t : Bool) → ltb p n ≡ t → ltb p n ≡ ltb p (suc n)
        less true q = q ∙ sym (lt-ltb p (suc n) (omega (arith, ltb-true p n q)))
        less false q = q ∙ sym (le-ltb p (suc n) (omega (arith, ltb-false p n q, d)))

-- ---- an edge's counts in a window
pub span_rises : (u : Edge) (Y : ℤ) → T (spans_up u Y) → u.y0 <ℤ u.y1
span_rises u Y t =
    let h : u.y0 ≤ℤ Y = le_z_yes (both_left (le_z u.y0 Y) (lt_z Y u.y1) t) in
    let k : Y <ℤ u.y1 = lt_z_yes (both_right (le_z u.y0 Y) (lt_z Y u.y1) t) in
    lt (var u.y0) (var u.y1) (omega (arith, from_le (var u.y0) (var Y) h, from_lt (var Y) (var u.y1) k))

zero_twice : (t : Bool) → cond t (pos 0) (pos 0) ≡ pos 0
zero_twice true = refl
zero_twice false = refl

pub counts_law : (c k : ℕ) (Y : ℤ) (e : Edge) (j : ℕ) → j < k → counts (sample (c + j)) Y e ≡ cond (leb (start_at c k Y e) j) (weight Y e) (pos 0)
unfolding counts weight start_at spans at_or_left
counts_law c k Y e j h = by (spans_up (upward e) Y) refl
  where
    by : (t : Bool) → spans_up (upward e) Y ≡ t
        → cond (left_up (upward e) (sample (c + j)) Y) (cond t (sign e) (pos 0)) (pos 0)
        ≡ cond (leb (cond t (place c k (first_column (upward e) Y)) k) j) (cond t (sign e) (pos 0)) (pos 0)
    by true q =
        ap (λ (b : Bool). cond b (sign e) (pos 0))
        (first_column_law (upward e) Y (pos (c + j)) (span_rises (upward e) Y (subst T (sym q) tt)) ∙ sym (place_law c k (first_column (upward e) Y) j h))
    by false q = zero_twice (left_up (upward e) (sample (c + j)) Y) ∙ sym (zero_twice (leb k j))

-- THE EXCHANGE: the running sum of what begins in the window is the winding number
pub running_starts : (c k : ℕ) (Y : ℤ) (es : List Edge) (j : ℕ) → j < k → running (starts c k Y es) (suc j) ≡ winding es (sample (c + j)) Y
unfolding starts winding
running_starts c k Y [] j h = run_zero (suc j)
running_starts c k Y (e ∷ es) j h =
    run_add (λ i. cond (eqb (start_at c k Y e) i) (weight Y e) (pos 0)) (starts c k Y es) (suc j)
    ∙ ap₂ ◌+ℤ◌ (run_lone (start_at c k Y e) (weight Y e) (suc j) ∙ ap (λ (t : Bool). cond t (weight Y e) (pos 0)) (leb-suc-suc (start_at c k Y e) j)
    ∙ sym (counts_law c k Y e j h))
    (running_starts c k Y es j h)
