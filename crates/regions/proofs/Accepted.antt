-- A proposal is accepted exactly if the facts hold that the paper asks for.
use mathlib.Core.Path.{◌≡◌, refl}
use mathlib.Core.List.{List, [], ◌∷◌}
use mathlib.Core.Bool.{true, not, false≢true}
use Prim.Native.Nat.{ℕ, ◌/◌, ◌%◌}
use lib.ListN.{length}
use lib.IntN.{ℤ}
use borrow.Author.Tests.{eqb-true, eq-eqb, leb-true, le-leb}
use Rattle.rect.specs.declared.Rect.{Rect}
use Rattle.rect.specs.Rects.{Inside, inside}
use Rattle.rect.proofs.Laws.{both, inside_true, inside_yes, inside_no, inside_false}
use Rattle.regions.specs.Pixels.{every, each, every_pixel, apart, in_any, covers}
use Rattle.regions.specs.Proposals.{lies_in, proposed_at, proposed, counted, all_apart, acceptable, Acceptable}
use Rattle.regions.proofs.Every.{every_at, every_yes, pixels_at, pixels_yes, not_of, of_not, or_cases, second_true}

-- ---- one pair
apart_facts : (a b : Rect) → apart a b ≡ true → (x y : ℕ) → Inside a x y → Inside b x y → ⊥
unfolding apart
apart_facts a b h x y i j = inside_false b x y (of_not (inside b x y) (pixels_at a (λ x y. not (inside b x y)) h x y i)) j

apart_test : (a b : Rect) → ((x y : ℕ) → Inside a x y → Inside b x y → ⊥) → apart a b ≡ true
unfolding apart
apart_test a b h = pixels_yes a (λ x y. not (inside b x y)) (λ x y i. not_of (inside b x y) (inside_no b x y (h x y i)))

-- ---- the boxes
module _ (rs : List Rect) where
  pub covers_facts : (bs : List Rect) → each (covers rs) bs ≡ true → (x y : ℕ) → in_any bs x y ≡ true → in_any rs x y ≡ true
  unfolding covers
  covers_facts [] h x y i = absurd (false≢true i)
  covers_facts (b ∷ bs) h x y i =
      let p = both _ _ h in
      or_cases (inside b x y) (in_any bs x y) (λ e. pixels_at b (in_any rs) p.0 x y (inside_true b x y e)) (covers_facts bs p.1 x y) i

  covers_test : (bs : List Rect) → ((x y : ℕ) → in_any bs x y ≡ true → in_any rs x y ≡ true) → each (covers rs) bs ≡ true
  unfolding covers
  covers_test [] h = refl
  covers_test (b ∷ bs) h =
      let first : every_pixel b (in_any rs) ≡ true = pixels_yes b (in_any rs) (λ x y i. h x y (rw (inside_yes b x y i))) in
      rw first (covers_test bs (λ x y i. h x y (rw i (second_true (inside b x y)))))

-- ---- the whole
module _ (w h : ℕ) (boxes : List Rect) (l : List ℤ) where
  pub accepted_has : acceptable w h boxes l ≡ true → Acceptable w h boxes l
  unfolding acceptable
  accepted_has t =
      let p = both _ _ t in
      let q = both _ _ p.1 in
      let r = both _ _ q.1 in
      let c = both _ _ p.0 in
      let d = both _ _ c.1 in
      let n = length l / 4 in
      record {
        whole = eqb-true _ _ c.0;
        some = leb-true _ _ d.0;
        few = leb-true _ _ d.1;
        lying = every_at (lies_in w h l) n q.0;
        disjoint = λ i j x y a b e f. apart_facts (proposed_at l i) (proposed_at l j)
            (every_at (λ j. apart (proposed_at l i) (proposed_at l j)) i
            (every_at (λ i. every i (λ j. apart (proposed_at l i) (proposed_at l j))) n r.0 i a) j b)
            x y e f;
        covering = covers_facts (proposed l) boxes r.1;
      }

  pub has_accepted : Acceptable w h boxes l → acceptable w h boxes l ≡ true
  unfolding acceptable
  has_accepted f =
      let n = length l / 4 in
      let c : counted (length l) ≡ true = rw (eq-eqb (length l % 4) 0 f.whole, le-leb 4 (length l) f.some, le-leb (length l) 16 f.few) in
      let a : every n (lies_in w h l) ≡ true = every_yes (lies_in w h l) n f.lying in
      let b : all_apart n (proposed_at l) ≡ true = every_yes (λ i. every i (λ j. apart (proposed_at l i) (proposed_at l j))) n
      (λ i k.
      every_yes (λ j. apart (proposed_at l i) (proposed_at l j)) i
      (λ j o. apart_test (proposed_at l i) (proposed_at l j) (λ x y. f.disjoint i j x y k o))) in
      let e : each (covers (proposed l)) boxes ≡ true = covers_test (proposed l) boxes f.covering in
      rw (c, a, b, e)
