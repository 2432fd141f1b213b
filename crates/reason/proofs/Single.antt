-- A row of one pixel: its one sample is kept where the pixel lies in a scissor.
use mathlib.Core.Path.{◌≡◌, refl, ap, ◌∙◌}
use mathlib.Core.List.{List, [], ◌∷◌}
use mathlib.Core.Bool.{Bool, true, false, cond, not, ◌&&◌}
use Prim.Native.Nat.{ℕ, ◌+◌}
use native.Mathlib.Omega.{arith}
use lib.Dec.{eqb}
use lib.ListN.{get_or}
use Rattle.lists.specs.Lists.{tab}
use Rattle.coverage.specs.Scissors.{scissored, in_scissors}

first_place : (x : ℕ) → x + 0 ≡ x
first_place x = omega arith

-- one sample is kept in a scissor only
kept_in : (t : Bool) → eqb (cond (true && not t) 0 1) 0 ≡ not t
kept_in true = refl
kept_in false = refl

pub missed : (scissors : List ℕ) (n x y : ℕ) (c : List ℕ) → c ≡ tab 1 (λ i. scissored true scissors n (x + i) y (get_or (1 ∷ []) i 0))
    → eqb (get_or c 0 0) 0 ≡ not (in_scissors scissors n x y)
unfolding scissored
missed scissors n x y c o =
    let first = ap (λ (l : List ℕ). get_or l 0 0) o ∙ ap (λ (v : ℕ). scissored true scissors n v y 1) (first_place x) in
    ap (λ (v : ℕ). eqb v 0) first ∙ kept_in (in_scissors scissors n x y)
