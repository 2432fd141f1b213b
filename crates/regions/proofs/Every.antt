-- Tests of every number below n, of one of them, and of every pixel of a rectangle.
use mathlib.Core.Path.{◌≡◌, refl, sym, ap, ap₂, ◌∙◌}
use mathlib.Core.List.{List, [], ◌∷◌, ◌++◌}
use mathlib.Core.Bool.{Bool, true, false, not, ◌&&◌, ◌||◌, true≢false, false≢true}
use mathlib.Core.Logic.{⊎_elim}
use Prim.Native.Nat.{ℕ, zero, suc, ◌+◌, ◌-◌, ◌<◌}
use native.Mathlib.Nat.{eq-or-lt_of_le, le_of_suc-le-suc, not-suc-le-zero}
use native.Mathlib.Numerals.{add-one}
use native.Mathlib.Omega.{arith}
use Rattle.lists.specs.Lists.{tab, upto}
use Rattle.rect.specs.declared.Rect.{Rect}
use Rattle.rect.specs.Rects.{Inside, inside, empty_of, meet_of}
use Rattle.rect.proofs.Laws.{both, either, not_true_is, inside_no, inside_false, meet_in, empty_out, not_empty}
use Rattle.regions.specs.Pixels.{every, each, every_pixel, in_any, covers, apart}
use Rattle.regions.specs.Runs.{some, in_one}

-- a test is what it decides
pub same : (a b : Bool) → (a ≡ true → b ≡ true) → (b ≡ true → a ≡ true) → a ≡ b
same true b f g = sym (f refl)
same false b f g = sym (not_true_is b (λ e. false≢true (g e)))

second_false : (p : Bool) → (p && false) ≡ false
second_false true = refl
second_false false = refl

pub second_true : (p : Bool) → (p || true) ≡ true
second_true true = refl
second_true false = refl

pub or_cases : {C : Type 0} (a b : Bool) → (a ≡ true → C) → (b ≡ true → C) → (a || b) ≡ true → C
or_cases true b f g h = f refl
or_cases false b f g h = g h

module _ (f : ℕ → Bool) where
  pub every_at : (n : ℕ) → every n f ≡ true → (i : ℕ) → i < n → f i ≡ true
  every_at zero h i l = absurd (not-suc-le-zero l)
  every_at (suc n) h i l =
      let p = both (every n f) (f n) h in
      ⊎_elim (λ e. rw e p.1) (λ k. every_at n p.0 i k) (eq-or-lt_of_le (le_of_suc-le-suc l))

  pub every_yes : (n : ℕ) → ((i : ℕ) → i < n → f i ≡ true) → every n f ≡ true
  every_yes zero h = refl
  every_yes (suc n) h = rw (every_yes n (λ i l. h i (omega arith)), h n (omega arith))

  pub every_no : (n i : ℕ) → i < n → f i ≡ false → every n f ≡ false
  every_no n i l e = not_true_is (every n f) (λ h. true≢false (sym (every_at n h i l) ∙ e))

  pub every_turn : (n : ℕ) → every n f ≡ true → f n ≡ true → every (n + 1) f ≡ true
  every_turn n h e = rw (add-one, h, e)

  pub some_yes : (n i : ℕ) → i < n → f i ≡ true → some n f ≡ true
  some_yes zero i l e = absurd (not-suc-le-zero l)
  some_yes (suc n) i l e =
      ⊎_elim (λ q. rw (← q, e) (second_true (some i f))) (λ k. rw (some_yes n i k e)) (eq-or-lt_of_le (le_of_suc-le-suc l))

  -- one at which it holds
  pub some_at : {C : Type 0} (n : ℕ) → some n f ≡ true → ((i : ℕ) → i < n → f i ≡ true → C) → C
  some_at zero h k = absurd (false≢true h)
  some_at (suc n) h k = or_cases (some n f) (f n) (λ q. some_at n q (λ i l e. k i (omega arith) e)) (λ q. k n (omega arith) q) h

  pub some_turn : (n : ℕ) → some n f ≡ false → f n ≡ false → some (n + 1) f ≡ false
  some_turn n h e = rw (add-one, h, e)

module _ (b : Rect) (f : ℕ → ℕ → Bool) where
  pub pixels_at : every_pixel b f ≡ true → (x y : ℕ) → Inside b x y → f x y ≡ true
  unfolding every_pixel
  pixels_at h x y i =
      let e : b.x0 + (x - b.x0) ≡ x = omega (arith, i.left) in
      let g : b.y0 + (y - b.y0) ≡ y = omega (arith, i.below) in
      rw (e, g) at (every_at (λ j. f (b.x0 + (x - b.x0)) (b.y0 + j)) (b.y1 - b.y0)
      (every_at (λ i. every (b.y1 - b.y0) (λ j. f (b.x0 + i) (b.y0 + j))) (b.x1 - b.x0) h (x - b.x0) (omega (arith, i.left, i.right)))
      (y - b.y0) (omega (arith, i.below, i.above)))

  pub pixels_yes : ((x y : ℕ) → Inside b x y → f x y ≡ true) → every_pixel b f ≡ true
  unfolding every_pixel
  pixels_yes h =
      every_yes (λ i. every (b.y1 - b.y0) (λ j. f (b.x0 + i) (b.y0 + j))) (b.x1 - b.x0)
      (λ i l. every_yes (λ j. f (b.x0 + i) (b.y0 + j)) (b.y1 - b.y0)
      (λ j m. h (b.x0 + i) (b.y0 + j) (record { left = omega arith; right = omega arith; below = omega arith; above = omega arith })))

pub not_of : (t : Bool) → t ≡ false → not t ≡ true
not_of t e = rw e

-- what a test of `!t` tells
pub of_not : (t : Bool) → not t ≡ true → t ≡ false
of_not true h = absurd (false≢true h)
of_not false h = refl

pub of_not_no : (t : Bool) → not t ≡ false → t ≡ true
of_not_no true h = refl
of_not_no false h = absurd (true≢false h)

-- no pixel of a is in b where what both hold is empty
pub apart_is : (a b : Rect) → empty_of (meet_of a b) ≡ apart a b
unfolding apart
apart_is a b =
    same (empty_of (meet_of a b)) (every_pixel a (λ x y. not (inside b x y)))
    (λ e. pixels_yes a (λ x y. not (inside b x y)) (λ x y i. not_of (inside b x y)
    (inside_no b x y (λ j. empty_out (meet_of a b) x y e (meet_in a b x y i j)))))
    (λ e.
    either (empty_of (meet_of a b)) (λ q. q)
    (λ q.
    let w = not_empty (meet_of a b) q in
    let x = (meet_of a b).x0 in
    let y = (meet_of a b).y0 in
    absurd (inside_false b x y
    (of_not (inside b x y) (pixels_at a (λ x y. not (inside b x y)) e x y
    (record { left = omega arith; right = omega (arith, w.wide); below = omega arith; above = omega (arith, w.high) })))
    (record { left = omega arith; right = omega (arith, w.wide); below = omega arith; above = omega (arith, w.high) }))))

-- ---- rectangles as a list, and as a count and a function
or_assoc : (a b c : Bool) → (a || (b || c)) ≡ ((a || b) || c)
or_assoc true b c = refl
or_assoc false b c = refl

pub or_none : (a : Bool) → (a || false) ≡ a
or_none true = refl
or_none false = refl

pub any_more : (rs qs : List Rect) (x y : ℕ) → in_any (rs ++ qs) x y ≡ (in_any rs x y || in_any qs x y)
any_more [] qs x y = refl
any_more (a ∷ rs) qs x y = ap (λ (t : Bool). inside a x y || t) (any_more rs qs x y) ∙ or_assoc (inside a x y) (in_any rs x y) (in_any qs x y)

pub any_tab : (n : ℕ) (rs : ℕ → Rect) (x y : ℕ) → in_any (tab n rs) x y ≡ in_one n rs x y
unfolding in_one
any_tab zero rs x y = refl
any_tab (suc n) rs x y = any_more (tab n rs) (rs n ∷ []) x y ∙ ap₂ ◌||◌ (any_tab n rs x y) (or_none (inside (rs n) x y))

pub covers_is : (n : ℕ) (rs : ℕ → Rect) (b : Rect) → every_pixel b (in_one n rs) ≡ covers (tab n rs) b
unfolding covers
covers_is n rs b = ap (every_pixel b) (λ i x y. sym (any_tab n rs x y) i)

-- ---- each of a list
each_more : {A : Type 0} (f : A → Bool) (s t : List A) → each f (s ++ t) ≡ (each f s && each f t)
each_more f [] t = refl
each_more f (a ∷ s) t = ap (λ (b : Bool). f a && b) (each_more f s t) ∙ and_assoc (f a) (each f s) (each f t)
  where
    and_assoc : (a b c : Bool) → (a && (b && c)) ≡ ((a && b) && c)
    and_assoc true b c = refl
    and_assoc false b c = refl

pub each_upto : {A : Type 0} (f : A → Bool) (n : ℕ) (g : ℕ → List A) → every n (λ i. each f (g i)) ≡ each f (upto n g)
each_upto f zero g = refl
each_upto f (suc n) g = ap (λ (b : Bool). b && each f (g n)) (each_upto f n g) ∙ sym (each_more f (upto n g) (g n))
