-- `coverage::covers::covers` meets its contract: what is found is the sum over the edges before i. Assumes nothing.
use mathlib.Core.Path.{◌≡◌, refl, sym, ap, ap₂, ◌∙◌}
use Prim.Native.Nat.{ℕ, ◌+◌}
use native.Mathlib.Omega.{arith}
use native.Mathlib.Numerals.{add-one}
use mir.Syntax.{w32}
use mir.Val.{to_z, of_z}
use borrow.Author.Tests.{eqb-true}
use Rattle.lists.specs.Lists.{total}
use Rattle.path.specs.declared.Edge.{Edge}
use Rattle.path.specs.Stored.{edge_at, Small}
use Rattle.coverage.specs.Scanline.{edge}
use Rattle.coverage.specs.Covers.{part_of}
use Rattle.coverage.proofs.Begin.{clean}
use Rattle.coverage.proofs.Covered.{one_covers}
use borrow.Author.Rules.{rules}
use Rattle.coverage.proofs.covers.covers.Goals as goal

-- the edge, as it is handed on
abbrev handed : Edge → Edge
handed e = edge (to_z w32 (of_z w32 e.x0)) (to_z w32 (of_z w32 e.y0)) (to_z w32 (of_z w32 e.x1)) (to_z w32 (of_z w32 e.y1))

handed-is : (e : Edge) → Small e → handed e ≡ e
handed-is e m = rw (clean e.x0 m.x0, clean e.y0 m.y0, clean e.x1 m.x1, clean e.y1 m.y1)

pub loop-i-init : goal.loop-i-init
loop-i-init c =
    (search rules, refl)

pub load-e-requires : goal.load-e-requires
load-e-requires c =
    omega (arith, c.requires.outlined.few, c.requires.outlined.room)

pub overflow_add-found : goal.overflow_add-found
overflow_add-found c =
    omega (arith, c.part_of-found.ensures.1, c.loop-i.invariant.0, c.requires.outlined.few)

pub loop-i-preserved : goal.loop-i-preserved
loop-i-preserved c =
    let a = c.args in
    let l = c.loop-i in
    let part = part_of a.a in
    let found : c.part_of-found.result ≡ part (edge_at a.scratch.now l.i) =
    c.part_of-found.ensures.0 ∙ ap (λ (e : Edge). part (handed e)) c.load-e.ensures
    ∙ ap part (handed-is (edge_at a.scratch.now l.i) (c.requires.outlined.small l.i (omega arith))) in (
      omega (arith, c.part_of-found.ensures.1, l.invariant.0),
      ap₂ ◌+◌ l.invariant.1 found ∙ sym (ap (λ (m : ℕ). total m (λ k. part (edge_at a.scratch.now k))) (add-one l.i)),
    )

pub returns : goal.returns
returns c =
    let a = c.args in
    let l = c.loop-i in
    let all : l.i ≡ a.n = omega arith in
    λ t.
    one_covers a.a a.scratch.now a.n
    (ap (λ (m : ℕ). total m (λ k. part_of a.a (edge_at a.scratch.now k))) (sym all) ∙ sym l.invariant.1 ∙ eqb-true l.found 1 t)
