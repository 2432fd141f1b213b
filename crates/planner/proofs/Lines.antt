-- Lines that no box touches. The first line of the area is touched, and what is free begins where a box ends: so where a line of the area is
-- free, one at which a box ends is.
use mathlib.Core.Path.{◌≡◌, refl, sym, ◌∙◌}
use mathlib.Core.Bool.{Bool, true, false, not, ◌&&◌, true≢false}
use mathlib.Core.Logic.{⊎_elim}
use Prim.Native.Nat.{ℕ, zero, suc, ◌+◌, ◌-◌, ◌≤◌, ◌<◌}
use native.Mathlib.Nat.{eq-or-lt_of_le, le_of_suc-le-suc, not-suc-le-zero}
use native.Mathlib.Omega.{arith}
use lib.Dec.{leb, ltb}
use borrow.Author.Tests.{ltb-true, leb-true, le-leb, lt-ltb, not-true}
use Rattle.lists.specs.Lists.{tab}
use Rattle.rect.specs.declared.Rect.{Rect}
use Rattle.rect.specs.Rects.{Inside, Holds, empty_of, smallest}
use Rattle.rect.proofs.Laws.{both, not_true_is, empty_out, not_empty, Wide}
use Rattle.regions.specs.Planned.{along, lowest, past}
use Rattle.planner.specs.Cuts.{before, beyond, shrunk, touches, free, opens}
use Rattle.planner.proofs.Parts.{round_each, round_least, in_beyond, line_before, line_beyond, one_half, shrunk_has, shrunk_in, shrunk_least}
use Rattle.planner.proofs.Tiling.{same_or}

-- ---- a box and a line
in_lines : (upright : Bool) (b : Rect) (x y : ℕ) → Inside b x y → (lowest upright b ≤ along upright x y) × (along upright x y < past upright b)
in_lines true b x y i = (i.left, i.right)
in_lines false b x y i = (i.below, i.above)

pixel_touches : (upright : Bool) (b : Rect) (x y : ℕ) → Inside b x y → touches upright b (along upright x y) ≡ true
unfolding touches
pixel_touches upright b x y i =
    let e : empty_of b ≡ false = not_true_is (empty_of b) (λ q. empty_out b x y q i) in
    let l = in_lines upright b x y i in
    rw (e, le-leb (lowest upright b) (along upright x y) l.0, lt-ltb (along upright x y) (past upright b) l.1)

corner_line : (upright : Bool) (a : Rect) → along upright a.x0 a.y0 ≡ lowest upright a
corner_line true a = refl
corner_line false a = refl

-- it goes on to the next line unless it ends there
touches_next : (upright : Bool) (b : Rect) (c : ℕ) → touches upright b c ≡ true → (past upright b ≡ suc c → ⊥) → touches upright b (suc c) ≡ true
unfolding touches
touches_next upright b c h n =
    let p = both (not (empty_of b)) (leb (lowest upright b) c && ltb c (past upright b)) h in
    let q = both (leb (lowest upright b) c) (ltb c (past upright b)) p.1 in
    let o : lowest upright b ≤ c = leb-true (lowest upright b) c q.0 in
    let l : lowest upright b ≤ suc c = omega arith in
    let r : suc c < past upright b = ⊎_elim (λ e. absurd (n (sym e))) (λ k. k) (eq-or-lt_of_le (ltb-true c (past upright b) q.1)) in
    rw (p.0, le-leb (lowest upright b) (suc c) l, lt-ltb (suc c) (past upright b) r)

-- ---- m boxes and a line
module _ (upright : Bool) (boxes : ℕ → Rect) (c : ℕ) where
  free_at : (m : ℕ) → free upright m boxes c ≡ true → (k : ℕ) → k < m → touches upright (boxes k) c ≡ false
  free_at zero h k l = absurd (not-suc-le-zero l)
  free_at (suc m) h k l =
      let p = both _ _ h in
      ⊎_elim (λ e. rw e (not-true _ p.1)) (λ j. free_at m p.0 k j) (eq-or-lt_of_le (le_of_suc-le-suc l))

  free_yes : (m : ℕ) → ((k : ℕ) → k < m → touches upright (boxes k) c ≡ false) → free upright m boxes c ≡ true
  free_yes zero h = refl
  free_yes (suc m) h = rw (free_yes m (λ k l. h k (omega arith)), h m (omega arith))

  pub free_no : (m k : ℕ) → k < m → touches upright (boxes k) c ≡ true → free upright m boxes c ≡ false
  free_no m k l e = not_true_is (free upright m boxes c) (λ h. true≢false (sym e ∙ free_at m h k l))

  pub untouched : (m : ℕ) → free upright m boxes c ≡ true → (k x y : ℕ) → k < m → along upright x y ≡ c → Inside (boxes k) x y → ⊥
  untouched m h k x y l e i = true≢false (sym (pixel_touches upright (boxes k) x y i) ∙ rw e (free_at m h k l))

free_before : (upright : Bool) (m : ℕ) (boxes : ℕ → Rect) (c : ℕ) → free upright m boxes (suc c) ≡ true → ((k : ℕ) → k < m → past upright (boxes k) ≡ suc c → ⊥)
    → free upright m boxes c ≡ true
free_before upright m boxes c h n =
    free_yes upright boxes c m
    (λ k l.
    not_true_is (touches upright (boxes k) c)
    (λ t. true≢false (sym (touches_next upright (boxes k) c t (n k l)) ∙ free_at upright boxes (suc c) m h k l)))

-- one of m numbers is c, or none
one_is : {C : Type 0} (m : ℕ) (f : ℕ → ℕ) (c : ℕ) → ((k : ℕ) → k < m → f k ≡ c → C) → (((k : ℕ) → k < m → f k ≡ c → ⊥) → C) → C
one_is zero f c one none = none (λ k l e. not-suc-le-zero l)
one_is (suc m) f c one none =
    same_or (f m) c (λ e. one m (omega arith) e)
    (λ e.
    one_is m f c (λ k l q. one k (omega arith) q)
    (λ n. none (λ k l q. ⊎_elim (λ s. e (rw s at q)) (λ j. n k j q) (eq-or-lt_of_le (le_of_suc-le-suc l)))))

-- ---- lines of the area
module _ (m : ℕ) (boxes : ℕ → Rect) (area : Rect) (upright : Bool) (c : ℕ) where
  pub opens_true : opens m boxes area upright c ≡ true → (lowest upright area ≤ c) × ((c < past upright area) × (free upright m boxes c ≡ true))
  unfolding opens
  opens_true h =
      let p = both _ _ h in
      let q = both _ _ p.1 in
      (leb-true _ _ p.0, (ltb-true _ _ q.0, q.1))

  opens_yes : lowest upright area ≤ c → c < past upright area → free upright m boxes c ≡ true → opens m boxes area upright c ≡ true
  unfolding opens
  opens_yes l h f = rw (le-leb (lowest upright area) c l, lt-ltb c (past upright area) h, f)

-- a line of the area in which no box has a pixel
touched_pixel : {C : Type 0} (upright : Bool) (b : Rect) (c : ℕ) → touches upright b c ≡ true → ((x y : ℕ) → along upright x y ≡ c → Inside b x y → C) → C
unfolding touches
touched_pixel {C} upright b c h found =
    let p = both (not (empty_of b)) (leb (lowest upright b) c && ltb c (past upright b)) h in
    let q = both (leb (lowest upright b) c) (ltb c (past upright b)) p.1 in
    at upright (not_empty b (not-true (empty_of b) p.0)) (leb-true (lowest upright b) c q.0) (ltb-true c (past upright b) q.1) found
  where
    at : (upright : Bool) → Wide b → lowest upright b ≤ c → c < past upright b → ((x y : ℕ) → along upright x y ≡ c → Inside b x y → C) → C
    at true w l r f = f c b.y0 refl (record { left = l; right = r; below = omega arith; above = w.high })
    at false w l r f = f b.x0 c refl (record { left = omega arith; right = w.wide; below = l; above = r })

pub line_opens : (m : ℕ) (boxes : ℕ → Rect) (area : Rect) (upright : Bool) (c : ℕ) → lowest upright area ≤ c → c < past upright area
    → ((k x y : ℕ) → k < m → along upright x y ≡ c → Inside (boxes k) x y → ⊥) → opens m boxes area upright c ≡ true
line_opens m boxes area upright c l h f =
    opens_yes m boxes area upright c l h
    (free_yes upright boxes c m
    (λ k j. not_true_is (touches upright (boxes k) c) (λ t. touched_pixel upright (boxes k) c t (λ x y e i. f k x y j e i))))

module _ (m : ℕ) (boxes : ℕ → Rect) (area : Rect) (is : area ≡ smallest (tab m boxes)) (wide : Wide area) (upright : Bool) where
  box_in_lem : (k : ℕ) → k < m → Holds area (boxes k)
  box_in_lem k l = rw is (round_each m boxes k l)

  -- a rectangle that holds what the boxes have of the area holds the area
  held : (a : Rect) → ((k x y : ℕ) → k < m → Inside (boxes k) x y → Inside area x y → Inside a x y) → Holds a area
  held a h x y i = round_least m boxes a (λ k l u v j. h k u v l j (box_in_lem k l u v j)) x y (rw is at i)

  first_corner : Inside area area.x0 area.y0
  first_corner = record { left = omega arith; right = wide.wide; below = omega arith; above = wide.high }

  last_corner : Inside area (area.x1 - 1) (area.y1 - 1)
  last_corner =
      record {
        left = omega (arith, wide.wide);
        right = omega (arith, wide.wide);
        below = omega (arith, wide.high);
        above = omega (arith, wide.high);
      }

  -- its first line is touched
  first_touched : free upright m boxes (lowest upright area) ≡ true → ⊥
  first_touched f =
      let h = held (beyond upright area (lowest upright area + 1))
      (λ k x y l i j. in_beyond area (lowest upright area + 1) upright x y j
      (next x y (in_lines upright area x y j).0 (λ e. untouched upright boxes (lowest upright area) m f k x y l e i))) in
      let o = line_beyond area (lowest upright area + 1) upright area.x0 area.y0 (h area.x0 area.y0 first_corner) in
      omega (arith, o, corner_line upright area)
    where
      next : (x y : ℕ) → lowest upright area ≤ along upright x y → (along upright x y ≡ lowest upright area → ⊥) → lowest upright area + 1 ≤ along upright x y
      next x y l n = ⊎_elim (λ e. absurd (n (sym e))) (λ k. omega (arith, k)) (eq-or-lt_of_le l)

  -- where a line is free, a box ends at one that is
  pub free_end : {C : Type 0} (c : ℕ) → lowest upright area ≤ c → c < past upright area → free upright m boxes c ≡ true
      → ((k : ℕ) → k < m → opens m boxes area upright (past upright (boxes k)) ≡ true → C) → C
  free_end c l h f found =
      one_is m (λ k. past upright (boxes k)) c (λ k j e. found k j (rw e (opens_yes m boxes area upright c l h f))) (λ none. down c l h f none found)
    where
      down : {C : Type 0} (c : ℕ) → lowest upright area ≤ c → c < past upright area → free upright m boxes c ≡ true
          → ((k : ℕ) → k < m → past upright (boxes k) ≡ c → ⊥) → ((k : ℕ) → k < m → opens m boxes area upright (past upright (boxes k)) ≡ true → C) → C
      down zero l h f none found =
          let e : lowest upright area ≡ 0 = omega (arith, l) in
          absurd (first_touched (rw e f))
      down (suc c) l h f none found =
          ⊎_elim (λ e. absurd (first_touched (rw e f)))
          (λ s.
          let g = free_before upright m boxes c f none in
          let o : lowest upright area ≤ c = le_of_suc-le-suc s in
          let q : c < past upright area = omega (arith, h) in
          one_is m (λ k. past upright (boxes k)) c (λ k j e. found k j (rw e (opens_yes m boxes area upright c o q g))) (λ n. down c o q g n found))
          (eq-or-lt_of_le l)

  -- ---- the area cut at a free line: both parts have a pixel, and none in that line
  module _ (c : ℕ) (o : opens m boxes area upright c ≡ true) where
    abbrev lines : (lowest upright area ≤ c) × ((c < past upright area) × (free upright m boxes c ≡ true))
    lines = opens_true m boxes area upright c o

    pub first_there : empty_of (shrunk m boxes (before upright area c)) ≡ false
    first_there =
        not_true_is _
        (λ e.
        let h = held (beyond upright area c)
        (λ k x y l i j.
        one_half area c upright x y j (λ q. absurd (empty_out _ x y e (shrunk_has m boxes (before upright area c) k x y l i q))) (λ q. q)) in
        let q = line_beyond area c upright area.x0 area.y0 (h area.x0 area.y0 first_corner) in
        let s : lowest upright area ≡ c = omega (arith, q, lines.0, corner_line upright area) in
        first_touched (rw s lines.1.1))

    pub second_there : empty_of (shrunk m boxes (beyond upright area c)) ≡ false
    second_there =
        not_true_is _
        (λ e.
        let h = held (before upright area c)
        (λ k x y l i j.
        one_half area c upright x y j (λ q. q) (λ q. absurd (empty_out _ x y e (shrunk_has m boxes (beyond upright area c) k x y l i q)))) in
        let q = line_before area c upright (area.x1 - 1) (area.y1 - 1) (h (area.x1 - 1) (area.y1 - 1) last_corner) in
        last_line upright q lines.1.0)
      where
        last_line : (upright : Bool) → along upright (area.x1 - 1) (area.y1 - 1) < c → c < past upright area → ⊥
        last_line true l h = omega (arith, l, h)
        last_line false l h = omega (arith, l, h)

    pub first_spared : (x y : ℕ) → along upright x y ≡ c → Inside (shrunk m boxes (before upright area c)) x y → ⊥
    first_spared x y e i =
        let l = line_before area c upright x y (shrunk_in m boxes (before upright area c) x y i) in
        omega (arith, l, e)

    pub second_spared : (x y : ℕ) → along upright x y ≡ c → Inside (shrunk m boxes (beyond upright area c)) x y → ⊥
    second_spared x y e i =
        let h = shrunk_least m boxes (beyond upright area c) (beyond upright area (c + 1))
        (λ k u v l j q.
        in_beyond area (c + 1) upright u v (box_in_lem k l u v j)
        (next u v (line_beyond area c upright u v q) (λ s. untouched upright boxes c m lines.1.1 k u v l s j))) in
        let l = line_beyond area (c + 1) upright x y (h x y i) in
        omega (arith, l, e)
      where
        next : (u v : ℕ) → c ≤ along upright u v → (along upright u v ≡ c → ⊥) → c + 1 ≤ along upright u v
        next u v l n = ⊎_elim (λ s. absurd (n (sym s))) (λ k. omega (arith, k)) (eq-or-lt_of_le l)
