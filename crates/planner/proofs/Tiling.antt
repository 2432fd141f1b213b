-- Rectangles planned, one more for each cut.
use mathlib.Core.Path.{◌≡◌, sym, ◌∙◌}
use mathlib.Core.Bool.{Bool}
use mathlib.Core.Logic.{⊎_elim}
use Prim.Native.Nat.{ℕ, ◌+◌, ◌≤◌, ◌<◌}
use native.Mathlib.Nat.{eq-or-lt_of_le}
use native.Mathlib.Omega.{arith}
use lib.Dec.{eqb}
use borrow.Author.Tests.{eqb-true, eqb-false}
use Rattle.rect.specs.declared.Rect.{Rect}
use Rattle.rect.specs.Rects.{Inside, Holds}
use Rattle.rect.proofs.Laws.{either, Wide}
use Rattle.planner.specs.Cuts.{before, beyond, shrunk}
use Rattle.planner.specs.Tilings.{Tiling, Spared}
use Rattle.planner.proofs.Parts.{first_in, second_in, parts_apart, one_part}

-- a case for equal numbers, and one for others
pub same_or : {C : Type 0} (i j : ℕ) → (i ≡ j → C) → ((i ≡ j → ⊥) → C) → C
same_or i j f g = either (eqb i j) (λ e. f (eqb-true i j e)) (λ e. g (eqb-false i j e))

-- the last of n + 1, or one before it
pub last_or : {C : Type 0} (k n : ℕ) → k < n + 1 → (k ≡ n → C) → (k < n → C) → C
last_or k n l f g = ⊎_elim f g (eq-or-lt_of_le (upto_last k n l))
  where
    upto_last : (k n : ℕ) → k < n + 1 → k ≤ n
    upto_last k n l = omega arith

-- rectangle i of n cut at a line: its first part stands in its place, its second one behind them all
module _
    (m : ℕ) (boxes : ℕ → Rect) (n : ℕ) (rs ts : ℕ → Rect) (i : ℕ) (upright : Bool) (c : ℕ) (is : i < n)
    (first : ts i ≡ shrunk m boxes (before upright (rs i) c))
    (second : ts n ≡ shrunk m boxes (beyond upright (rs i) c))
    (others : (k : ℕ) → k < n → (k ≡ i → ⊥) → ts k ≡ rs k)
  where
    kept_in : (k : ℕ) → k < n → Holds (rs k) (ts k)
    kept_in k l x y h =
        same_or k i
        (λ e. rw e (first_in m boxes (rs i) upright c x y (rw (e, first) at h)))
        (λ e. rw (others k l e) at h)

    last_in : Holds (rs i) (ts n)
    last_in x y h = second_in m boxes (rs i) upright c x y (rw second at h)

    -- each is a part of one that was there
    pub part_of_lem : (k : ℕ) → k < n + 1 → (j : ℕ) × ((j < n) × Holds (rs j) (ts k))
    part_of_lem k l = last_or k n l (λ e. (i, (is, rw e last_in))) (λ h. (k, (h, kept_in k h)))

    not_both : (x y : ℕ) → Inside (ts i) x y → Inside (ts n) x y → ⊥
    not_both x y h q = parts_apart m boxes (rs i) upright c x y (rw first at h) (rw second at q)

    module _ (area : Rect) (t : Tiling m boxes area n rs) (few : n < 4) (w : Wide (ts i)) (v : Wide (ts n)) where
      alone_before : (k x y : ℕ) → k < n → Inside (ts k) x y → Inside (ts n) x y → ⊥
      alone_before k x y l h q =
          let e : k ≡ i = t.alone k i x y l is (kept_in k l x y h) (last_in x y q) in
          not_both x y (rw e at h) q

      cut_alone : (k j x y : ℕ) → k < n + 1 → j < n + 1 → Inside (ts k) x y → Inside (ts j) x y → k ≡ j
      cut_alone k j x y a b h q =
          last_or k n a
          (λ e. last_or j n b (λ f. e ∙ sym f) (λ f. absurd (alone_before j x y f q (rw e at h))))
          (λ e. last_or j n b (λ f. absurd (alone_before k x y e h (rw f at q))) (λ f. t.alone k j x y e f (kept_in k e x y h) (kept_in j f x y q)))

      cut_covering : (k x y : ℕ) → k < m → Inside (boxes k) x y → (j : ℕ) × ((j < n + 1) × Inside (ts j) x y)
      cut_covering k x y l h =
          let found = t.covering k x y l h in
          let j = found.0 in
          same_or j i
          (λ e.
          one_part m boxes (rs i) upright c k x y l h (rw e at found.1.1)
          (λ q. (i, (omega (arith, is), rw first q)))
          (λ q. (n, (omega arith, rw second q))))
          (λ e. (j, (omega (arith, found.1.0), rw (others j found.1.0 e) found.1.1)))

      of_each : (P : Rect → Type 0) → P (ts i) → P (ts n) → ((k : ℕ) → k < n → P (rs k)) → (k : ℕ) → k < n + 1 → P (ts k)
      of_each P p q r k l =
          last_or k n l (λ e. rw e q) (λ h. same_or k i (λ e. rw e p) (λ e. rw (others k h e) (r k h)))

      pub cut_tiling : Tiling m boxes area (n + 1) ts
      cut_tiling =
          record {
            some = omega arith;
            few = omega arith;
            lying = λ k l x y h. (let o = part_of_lem k l in t.lying o.0 o.1.0 x y (o.1.1 x y h));
            wide = of_each (λ a. a.x0 < a.x1) w.wide v.wide t.wide;
            tall = of_each (λ a. a.y0 < a.y1) w.high v.high t.tall;
            alone = cut_alone;
            covering = cut_covering;
          }

    pub cut_spares : (other : Bool) (d : ℕ) → Spared n rs other d → Spared (n + 1) ts other d
    cut_spares other d s k x y l e h =
        let o = part_of_lem k l in
        s o.0 x y o.1.0 e (o.1.1 x y h)
