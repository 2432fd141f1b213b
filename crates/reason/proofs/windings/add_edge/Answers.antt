-- `windings::add_edge` meets its contract: at each sample what the edge counts there is added to what stood there.
use mathlib.Core.Path.{◌≡◌, sym, ap₂, subst, ◌∙◌}
use mathlib.Core.List.{List, [], ◌∷◌}
use Prim.Native.Nat.{ℕ, ◌+◌, ◌*◌, ◌/◌, ◌%◌, ◌≤◌, ◌<◌}
use native.Mathlib.Omega.{arith}
use lib.ListN.{get_or}
use lib.IntN.{ℤ, pos, nat_abs, ◌+ℤ◌}
use mir.Syntax.{w32}
use Rattle.lists.specs.Lists.{tab, over}
use Rattle.lists.proofs.Laws.{tab_turn, tab_read}
use Rattle.fixed.proofs.Signed.{back}
use Rattle.fixed.proofs.Means.{Num, need, keep, add}
use Rattle.path.specs.declared.Edge.{Edge}
use Rattle.coverage.specs.Winding.{counts, sample}
use Rattle.coverage.proofs.Begin.{sized}
use Rattle.plain.proofs.Wound.{counts_small}
use Rattle.reason.specs.Summed.{winding_at, Sums}
use Rattle.reason.proofs.Summed.{wound_all, winding_one}
use Rattle.reason.proofs.windings.add_edge.Goals as goal

-- a turn of the loop: what stands at sample j is what stood there, and n is what the edge counts
module _ (x y j : ℕ) (e : Edge) (s q : List ℤ) (begun : Sums s 4096) (few : j < 16)
    (so_far : q ≡ over (tab j (λ i. get_or s i (pos 0) +ℤ winding_at x y (e ∷ []) i)) s) (n X Y : ℤ) (counted : n ≡ counts X Y e)
    (across : X ≡ sample (4 * x + j % 4)) (up : Y ≡ sample (4 * y + j / 4)) where
  read : get_or q j (pos 0) ≡ get_or s j (pos 0)
  read = tab_read (λ i. get_or s i (pos 0) +ℤ winding_at x y (e ∷ []) i) q s j (pos 0) so_far

  abbrev sum : Num
  sum =
      add (sized 4096 (get_or q j (pos 0)) tt (subst (λ (z : ℤ). nat_abs z ≤ 4096) (sym read) (begun.small j few)))
      (sized 1 n tt (subst (λ (z : ℤ). nat_abs z ≤ 1) (sym counted) (counts_small X Y e)))

  added : get_or q j (pos 0) +ℤ n ≡ get_or s j (pos 0) +ℤ winding_at x y (e ∷ []) j
  added =
      ap₂ ◌+ℤ◌ read (counted ∙ ap₂ (λ (a b : ℤ). counts a b e) across up ∙ winding_one e (sample (4 * x + j % 4)) (sample (4 * y + j / 4)))

pub overflow_add-sums : goal.overflow_add-sums
overflow_add-sums c =
    let across = c.place in
    let up = c.place-in-loop-j in
    let l = c.loop-j in
    let a = c.args in
    need
    (sum a.x a.y l.j a.e a.sums.now l.sums c.requires.sums.0 (omega arith) l.invariant c.count-by.result _ _ c.count-by.ensures
    (back w32 across.result across.type_inv ∙ across.ensures) (back w32 up.result up.type_inv ∙ up.ensures))
    tt

pub loop-j-preserved : goal.loop-j-preserved
loop-j-preserved c =
    let across = c.place in
    let up = c.place-in-loop-j in
    let l = c.loop-j in
    let a = c.args in
    let here = back w32 across.result across.type_inv ∙ across.ensures in
    let there = back w32 up.result up.type_inv ∙ up.ensures in
    tab_turn (λ i. get_or a.sums.now i (pos 0) +ℤ winding_at a.x a.y (a.e ∷ []) i) l.sums a.sums.now l.j _
    ((keep w32 (sum a.x a.y l.j a.e a.sums.now l.sums c.requires.sums.0 (omega arith) l.invariant c.count-by.result _ _ c.count-by.ensures here there) tt).same
    ∙ added a.x a.y l.j a.e a.sums.now l.sums c.requires.sums.0 (omega arith) l.invariant c.count-by.result _ _ c.count-by.ensures here there)
    l.invariant (omega (arith, c.requires.sums.0.room))

pub returns : goal.returns
returns c =
    let l = c.loop-j in
    let a = c.args in
    wound_all a.x a.y a.sums.now (a.e ∷ []) l.sums l.j l.invariant (omega arith) c.requires.sums.0.room
