-- Which code a comparison has.
use mathlib.Core.Path.{◌≡◌, ◌∙◌}
use mathlib.Core.Bool.{true, false, ◌&&◌}
use mathlib.Core.List.{List}
use Prim.Native.Nat.{ℕ, ◌*◌, ◌<◌}
use native.Mathlib.Omega.{arith}
use lib.ListN.{length}
use lib.Dec.{eqb}
use borrow.Author.Tests.{leb-true, le-leb, eqb-true, eqb-false, eq-eqb, ne_eqb}
use Rattle.rect.proofs.Laws.{both, either}
use Rattle.difference.specs.declared.Comparison.{Comparison}
use Rattle.codes.specs.Codes.{illegal_argument, unsupported_image_format}
use Rattle.difference.specs.Compare.{allowed_side, refusal_code, differing, largest_gap}
use Rattle.difference.specs.Compare.{refused, report_of, compare_answer, Allowed, Comparable}

-- ---- sides
module _ (w h : ℕ) where
  pub allowed_sides : (allowed_side w && allowed_side h) ≡ true → Allowed w h
  allowed_sides e =
      let p = both _ _ e in
      let q = both _ _ p.0 in
      let r = both _ _ p.1 in
      record { some_wide = leb-true _ _ q.0; wide = leb-true _ _ q.1; some_high = leb-true _ _ r.0; high = leb-true _ _ r.1 }

  pub sides_allowed : Allowed w h → (allowed_side w && allowed_side h) ≡ true
  sides_allowed s = rw (le-leb 1 w s.some_wide, le-leb w 1024 s.wide, le-leb 1 h s.some_high, le-leb h 1024 s.high)

-- ---- codes, in their order
module _ (w h a b : ℕ) where
  pub sides_refused : (allowed_side w && allowed_side h) ≡ false → refusal_code w h a b ≡ illegal_argument
  unfolding refusal_code
  sides_refused e = rw e

  pub first_refused : (allowed_side w && allowed_side h) ≡ true → (a ≡ 4 * (w * h) → ⊥) → refusal_code w h a b ≡ unsupported_image_format
  unfolding refusal_code
  first_refused e n = rw (e, ne_eqb a (4 * (w * h)) n)

  pub second_refused : (allowed_side w && allowed_side h) ≡ true → a ≡ 4 * (w * h) → (b ≡ 4 * (w * h) → ⊥) → refusal_code w h a b ≡ unsupported_image_format
  unfolding refusal_code
  second_refused e f n = rw (e, eq-eqb a (4 * (w * h)) f, ne_eqb b (4 * (w * h)) n)

  pub passes : (allowed_side w && allowed_side h) ≡ true → a ≡ 4 * (w * h) → b ≡ 4 * (w * h) → refusal_code w h a b ≡ 0
  unfolding refusal_code
  passes e f g = rw (e, eq-eqb a (4 * (w * h)) f, eq-eqb b (4 * (w * h)) g)

-- ---- what is answered
module _ (w h : ℕ) (a b : List ℕ) where
  nonzero : (code : ℕ) → refusal_code w h (length a) (length b) ≡ code → 0 < code → refusal_code w h (length a) (length b) ≡ 0 → ⊥
  nonzero code e l z = omega arith

  pub comparable : refusal_code w h (length a) (length b) ≡ 0 → Comparable w h a b
  comparable z =
      either (allowed_side w && allowed_side h)
      (λ e.
      either (eqb (length a) (4 * (w * h)))
      (λ f.
      either (eqb (length b) (4 * (w * h)))
      (λ g.
      record { sides = allowed_sides w h e; first = eqb-true _ _ f; second = eqb-true _ _ g })
      (λ g. absurd (nonzero _ (second_refused w h (length a) (length b) e (eqb-true _ _ f) (eqb-false _ _ g)) (omega arith) z)))
      (λ f. absurd (nonzero _ (first_refused w h (length a) (length b) e (eqb-false _ _ f)) (omega arith) z)))
      (λ e. absurd (nonzero _ (sides_refused w h (length a) (length b) e) (omega arith) z))

  pub not_refused : Comparable w h a b → refusal_code w h (length a) (length b) ≡ 0
  not_refused c = passes w h (length a) (length b) (sides_allowed w h c.sides) c.first c.second

  pub answer_refused : (code : ℕ) (r : Comparison) → code ≡ refusal_code w h (length a) (length b) → (code ≡ 0 → ⊥) → r ≡ refused code
      → r ≡ compare_answer w h a b
  unfolding compare_answer
  answer_refused code r e n q = q ∙ rw (← e, ne_eqb code 0 n)

  pub answer_report : refusal_code w h (length a) (length b) ≡ 0 → report_of w (differing w h a b) (largest_gap w h a b) ≡ compare_answer w h a b
  unfolding compare_answer
  answer_report z = rw z
