-- The two parts of a rectangle that is cut at a line: they lie in it and share no pixel, and what the boxes have of it is in one of them.
use mathlib.Core.Path.{refl}
use mathlib.Core.Bool.{Bool, true, false}
use mathlib.Core.List.Memᴰ
use mathlib.Core.List.{[], ◌∷◌, Memᴰ}
use Prim.Native.Nat.{ℕ, ◌*◌, ◌≤◌, ◌<◌}
use native.Mathlib.Nat.{mul-le-mul}
use native.Mathlib.Omega.{arith}
use lib.Dec.{ltb}
use borrow.Author.Tests.{ltb-true, ltb-false}
use Rattle.lists.specs.Lists.{tab}
use Rattle.rect.specs.declared.Rect.{Rect}
use Rattle.rect.specs.Rects.{Inside, Holds, meet_of, smallest}
use Rattle.rect.proofs.Laws.{either, meet_in, meet_left, meet_right, smallest_holds, smallest_least}
use Rattle.damage.proofs.Members.{upto_has, upto_cases}
use Rattle.regions.specs.Planned.{along}
use Rattle.planner.specs.Cuts.{before, beyond, shrunk}

-- ---- the smallest rectangle round m of them

pub round_each : (m : ℕ) (f : ℕ → Rect) (k : ℕ) → k < m → Holds (smallest (tab m f)) (f k)
round_each m f k l = smallest_holds (tab m f) (f k) (upto_has m (λ i. f i ∷ []) (f k) k l (Memᴰ.head refl))

pub round_least : (m : ℕ) (f : ℕ → Rect) (a : Rect) → ((k : ℕ) → k < m → Holds a (f k)) → Holds a (smallest (tab m f))
round_least m f a h =
    smallest_least (tab m f) a
    (λ b e x y i. upto_cases m (λ k. f k ∷ []) b (λ k l q. h k l x y (rw (Memᴰ.eq_of_singleton q) at i)) e)

-- ---- the lines before c, and those from c on
module _ (a : Rect) (c : ℕ) where
  pub before_in : (upright : Bool) → Holds a (before upright a c)
  unfolding before
  before_in false x y i = record { left = i.left; right = i.right; below = i.below; above = omega (arith, i.above) }
  before_in true x y i = record { left = i.left; right = omega (arith, i.right); below = i.below; above = i.above }

  pub beyond_in : (upright : Bool) → Holds a (beyond upright a c)
  unfolding beyond
  beyond_in false x y i = record { left = i.left; right = i.right; below = omega (arith, i.below); above = i.above }
  beyond_in true x y i = record { left = omega (arith, i.left); right = i.right; below = i.below; above = i.above }

  -- which lines they are
  pub line_before : (upright : Bool) (x y : ℕ) → Inside (before upright a c) x y → along upright x y < c
  unfolding before
  line_before false x y i = omega (arith, i.above)
  line_before true x y i = omega (arith, i.right)

  pub line_beyond : (upright : Bool) (x y : ℕ) → Inside (beyond upright a c) x y → c ≤ along upright x y
  unfolding beyond
  line_beyond false x y i = omega (arith, i.below)
  line_beyond true x y i = omega (arith, i.left)

  pub in_before : (upright : Bool) (x y : ℕ) → Inside a x y → along upright x y < c → Inside (before upright a c) x y
  unfolding before
  in_before false x y i l = record { left = i.left; right = i.right; below = i.below; above = omega (arith, i.above) }
  in_before true x y i l = record { left = i.left; right = omega (arith, i.right); below = i.below; above = i.above }

  pub in_beyond : (upright : Bool) (x y : ℕ) → Inside a x y → c ≤ along upright x y → Inside (beyond upright a c) x y
  unfolding beyond
  in_beyond false x y i l = record { left = i.left; right = i.right; below = omega (arith, i.below); above = i.above }
  in_beyond true x y i l = record { left = omega (arith, i.left); right = i.right; below = i.below; above = i.above }

  -- a pixel of it is in one or the other
  pub one_half : {C : Type 0} (upright : Bool) (x y : ℕ) → Inside a x y → (Inside (before upright a c) x y → C) → (Inside (beyond upright a c) x y → C) → C
  one_half upright x y i f g =
      either (ltb (along upright x y) c) (λ e. f (in_before upright x y i (ltb-true _ _ e))) (λ e. g (in_beyond upright x y i (ltb-false _ _ e)))

-- ---- shrunk to what the boxes have of it
module _ (m : ℕ) (boxes : ℕ → Rect) (a : Rect) where
  pub shrunk_in : Holds a (shrunk m boxes a)
  unfolding shrunk
  shrunk_in = round_least m (λ k. meet_of a (boxes k)) a (λ k l. meet_left a (boxes k))

  pub shrunk_has : (k x y : ℕ) → k < m → Inside (boxes k) x y → Inside a x y → Inside (shrunk m boxes a) x y
  unfolding shrunk
  shrunk_has k x y l i j = round_each m (λ k. meet_of a (boxes k)) k l x y (meet_in a (boxes k) x y j i)

  pub shrunk_least : (b : Rect) → ((k x y : ℕ) → k < m → Inside (boxes k) x y → Inside a x y → Inside b x y) → Holds b (shrunk m boxes a)
  unfolding shrunk
  shrunk_least b h =
      round_least m (λ k. meet_of a (boxes k)) b (λ k l x y i. h k x y l (meet_right a (boxes k) x y i) (meet_left a (boxes k) x y i))

-- no pixel is in both parts, and each pixel of a box that is in the whole is in one of them
module _ (m : ℕ) (boxes : ℕ → Rect) (a : Rect) (upright : Bool) (c : ℕ) where
  pub first_in : Holds a (shrunk m boxes (before upright a c))
  first_in x y i = before_in a c upright x y (shrunk_in m boxes (before upright a c) x y i)

  pub second_in : Holds a (shrunk m boxes (beyond upright a c))
  second_in x y i = beyond_in a c upright x y (shrunk_in m boxes (beyond upright a c) x y i)

  pub parts_apart : (x y : ℕ) → Inside (shrunk m boxes (before upright a c)) x y → Inside (shrunk m boxes (beyond upright a c)) x y → ⊥
  parts_apart x y i j =
      let l = line_before a c upright x y (shrunk_in m boxes (before upright a c) x y i) in
      let h = line_beyond a c upright x y (shrunk_in m boxes (beyond upright a c) x y j) in
      omega (arith, l, h)

  pub one_part : {C : Type 0} (k x y : ℕ) → k < m → Inside (boxes k) x y → Inside a x y → (Inside (shrunk m boxes (before upright a c)) x y → C)
      → (Inside (shrunk m boxes (beyond upright a c)) x y → C) → C
  one_part k x y l i j f g =
      one_half a c upright x y j (λ q. f (shrunk_has m boxes (before upright a c) k x y l i q)) (λ q. g (shrunk_has m boxes (beyond upright a c) k x y l i q))

-- ---- two sides of at most 1,024
pub square : (m n : ℕ) → m ≤ 1024 → n ≤ 1024 → m * n ≤ 1048576
square m n h k = mul-le-mul h k
