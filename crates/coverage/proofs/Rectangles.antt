-- The columns that the scissors' rectangles have in a row.
use mathlib.Core.Path.{◌≡◌, refl, sym, ap, ◌∙◌}
use mathlib.Core.List.{List}
use mathlib.Core.Bool.{Bool, true, false, not, cond, ◌&&◌, ◌||◌, and-true, and-false, or-false}
use Prim.Native.Nat.{ℕ, zero, suc, ◌+◌, ◌*◌, ◌≤◌, ◌<◌}
use native.Mathlib.Omega.{arith}
use lib.IntN.{pos}
use lib.Signed.{le_z}
use borrow.Author.Tests.{le-leb, lt-leb, le-ltb}
use Rattle.fixed.specs.Little.{i32_at}
use Rattle.coverage.specs.declared.Span.{Span}
use Rattle.coverage.specs.Scissors.{in_scissor, in_scissors, scissored}
use Rattle.coverage.specs.Scanline.{in_span, no_span, run_of, span_of}

not_in_none : (x : ℕ) → in_span no_span x ≡ false
not_in_none x = ap (λ (t : Bool). le_z (pos 0) (pos x) && t) (le-ltb x 0 (omega arith)) ∙ and-false (le_z (pos 0) (pos x))

-- the span of a rectangle: past the count none, in a row that it has its columns, in another none
module _ (scissors : List ℕ) (n r y : ℕ) where
  abbrev rows : Span
  rows = run_of (i32_at scissors (16 * r + 4)) (i32_at scissors (16 * r + 12))

  abbrev columns : Span
  columns = run_of (i32_at scissors (16 * r)) (i32_at scissors (16 * r + 8))

  pub span_past : n ≤ r → no_span ≡ span_of scissors n r y
  unfolding span_of
  span_past h = ap (λ (t : Bool). cond t no_span (cond (in_span rows y) columns no_span)) (sym (le-leb n r h))

  pub span_of_lem : r < n → (t : Bool) → in_span rows y ≡ t → cond t columns no_span ≡ span_of scissors n r y
  unfolding span_of
  span_of_lem h t e = ap (λ (b : Bool). cond b columns no_span) (sym e)
      ∙ ap (λ (b : Bool). cond b no_span (cond (in_span rows y) columns no_span)) (sym (lt-leb n r h))

module _ (scissors : List ℕ) (n x y : ℕ) where
  past_none : (r : ℕ) → n ≤ r → in_span (span_of scissors n r y) x ≡ false
  past_none r h = ap (λ (s : Span). in_span s x) (sym (span_past scissors n r y h)) ∙ not_in_none x

  span_is : (r : ℕ) → r < n → in_span (span_of scissors n r y) x ≡ in_scissor scissors r x y
  span_is r h = ap (λ (s : Span). in_span s x) (sym (span_of_lem scissors n r y h (in_span (rows scissors n r y) y) refl))
      ∙ by (in_span (rows scissors n r y) y)
    where
      by : (t : Bool) → in_span (cond t (columns scissors n r y) no_span) x ≡ (in_span (columns scissors n r y) x && t)
      by true = sym (and-true (in_span (columns scissors n r y) x))
      by false = not_in_none x ∙ sym (and-false (in_span (columns scissors n r y) x))

pub four : {a b c d e f g h : Bool} → a ≡ e → b ≡ f → c ≡ g → d ≡ h → (a || b || c || d) ≡ (e || f || g || h)
four p q r s = rw (p, q, r, s)

pub four_same : {a b c d e f g h : Span} (x : ℕ) → a ≡ e → b ≡ f → c ≡ g → d ≡ h
    → (in_span a x || in_span b x || in_span c x || in_span d x) ≡ (in_span e x || in_span f x || in_span g x || in_span h x)
four_same x p q r s = four (in_same p) (in_same q) (in_same r) (in_same s)
  where
    in_same : {a b : Span} → a ≡ b → in_span a x ≡ in_span b x
    in_same p = ap (λ (s : Span). in_span s x) p

-- the four spans are the rectangles
pub spans_are : (scissors : List ℕ) (n x y : ℕ) → n ≤ 4
    → (in_span (span_of scissors n 0 y) x || in_span (span_of scissors n 1 y) x || in_span (span_of scissors n 2 y) x || in_span (span_of scissors n 3 y) x)
    ≡ in_scissors scissors n x y
spans_are s zero x y h =
    four (past_none s 0 x y 0 (omega arith)) (past_none s 0 x y 1 (omega arith)) (past_none s 0 x y 2 (omega arith)) (past_none s 0 x y 3 (omega arith))
spans_are s (suc zero) x y h =
    four (span_is s 1 x y 0 (omega arith)) (past_none s 1 x y 1 (omega arith)) (past_none s 1 x y 2 (omega arith)) (past_none s 1 x y 3 (omega arith))
    ∙ simp or-false
spans_are s (suc (suc zero)) x y h =
    four (span_is s 2 x y 0 (omega arith)) (span_is s 2 x y 1 (omega arith)) (past_none s 2 x y 2 (omega arith)) (past_none s 2 x y 3 (omega arith))
    ∙ simp or-false
spans_are s (suc (suc (suc zero))) x y h =
    four (span_is s 3 x y 0 (omega arith)) (span_is s 3 x y 1 (omega arith)) (span_is s 3 x y 2 (omega arith)) (past_none s 3 x y 3 (omega arith))
    ∙ simp or-false
spans_are s (suc (suc (suc (suc zero)))) x y h =
    four (span_is s 4 x y 0 (omega arith)) (span_is s 4 x y 1 (omega arith)) (span_is s 4 x y 2 (omega arith)) (span_is s 4 x y 3 (omega arith))
spans_are s (suc (suc (suc (suc (suc n))))) x y h = absurd (omega arith)

-- k is kept in a rectangle
pub kept_is : (scissors : List ℕ) (n x y k : ℕ) (t : Bool) → t ≡ in_scissors scissors n x y → cond t k 0 ≡ scissored true scissors n x y k
unfolding scissored
kept_is scissors n x y k t e = by t ∙ ap (λ (b : Bool). cond (true && not b) 0 k) e
  where
    by : (b : Bool) → cond b k 0 ≡ cond (true && not b) 0 k
    by true = refl
    by false = refl
