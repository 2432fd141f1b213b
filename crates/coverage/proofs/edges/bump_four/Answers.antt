-- `coverage::edges::bump_four` meets its contract. Assumes nothing.
use mathlib.Core.Path.{◌≡◌, sym, ap, ap₂, subst, ◌∙◌}
use mathlib.Core.List.{List}
use Prim.Native.Nat.{ℕ, ◌+◌, ◌<◌}
use native.Mathlib.Omega.{arith}
use lib.IntN.{ℤ, pos, ◌+ℤ◌}
use lib.ListN.{get_or}
use lib.Seq.{get_or-set_other}
use mir.Syntax.{w32}
use mir.Val.{to_z, of_z}
use Rattle.coverage.specs.Scanline.{bumped, bumped_four, Low}
use Rattle.coverage.proofs.Begin.{clean}
use Rattle.coverage.proofs.edges.bump_four.Goals.{Start}
use Rattle.coverage.proofs.edges.bump_four.Goals as goal

-- the numbers after the one that is added to
later : (l r : List ℤ) (i j : ℕ) (v : ℤ) → r ≡ bumped l i v → i < j → Low (get_or l j (pos 0)) → Low (get_or r j (pos 0))
later l r i j v e h =
    subst Low (sym (ap (λ (t : List ℤ). get_or t j (pos 0)) e ∙ get_or-set_other l i j (get_or l i (pos 0) +ℤ v) (pos 0) (λ q. omega (arith, h, q))))

-- what is added, as the local holds it
by_read : (c : Start) → to_z w32 (of_z w32 c.args.by) ≡ c.args.by
by_read c = clean c.args.by (omega (arith, c.requires.2))

pub bump-requires-2 : goal.bump-requires-2
bump-requires-2 c =
    let a = c.args in
    let i = a.i in
    let v = to_z w32 (of_z w32 a.by) in
    let one = c.bump in (
      omega (arith, one.auto.scratch, c.requires.0),
      later a.scratch.now one.new.scratch i (i + 1) v one.ensures (omega arith) c.requires.1.1,
      rw (by_read (goal.at.bump-requires-2 c).Start) c.requires.2,
    )

pub bump-requires-3 : goal.bump-requires-3
bump-requires-3 c =
    let a = c.args in
    let i = a.i in
    let v = to_z w32 (of_z w32 a.by) in
    let one = c.bump in
    let two = c.bump-2 in (
      omega (arith, one.auto.scratch, two.auto.scratch, c.requires.0),
      later one.new.scratch two.new.scratch (i + 1) (i + 2) v two.ensures (omega arith)
          (later a.scratch.now one.new.scratch i (i + 2) v one.ensures (omega arith) c.requires.1.2),
      rw (by_read (goal.at.bump-requires-3 c).Start) c.requires.2,
    )

pub bump-requires-4 : goal.bump-requires-4
bump-requires-4 c =
    let a = c.args in
    let i = a.i in
    let v = to_z w32 (of_z w32 a.by) in
    let one = c.bump in
    let two = c.bump-2 in
    let three = c.bump-3 in (
      omega (arith, one.auto.scratch, two.auto.scratch, three.auto.scratch, c.requires.0),
      later two.new.scratch three.new.scratch (i + 2) (i + 3) v three.ensures (omega arith)
          (later one.new.scratch two.new.scratch (i + 1) (i + 3) v two.ensures (omega arith)
          (later a.scratch.now one.new.scratch i (i + 3) v one.ensures (omega arith) c.requires.1.3)),
      rw (by_read (goal.at.bump-requires-4 c).Start) c.requires.2,
    )

pub returns : goal.returns
unfolding bumped_four
returns c =
    let a = c.args in
    let i = a.i in
    c.bump-4.ensures
    ∙ ap₂ (λ (l : List ℤ) (v : ℤ). bumped l (i + 3) v)
    (c.bump-3.ensures
    ∙ ap₂ (λ (l : List ℤ) (v : ℤ). bumped l (i + 2) v)
    (c.bump-2.ensures
    ∙ ap₂ (λ (l : List ℤ) (v : ℤ). bumped l (i + 1) v) (c.bump.ensures ∙ ap (bumped a.scratch.now i) (by_read (goal.at.returns c).Start))
    (by_read (goal.at.returns c).Start))
    (by_read (goal.at.returns c).Start)) (by_read (goal.at.returns c).Start)
