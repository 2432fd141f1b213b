-- `coverage::edges::add_edge` meets its contract. Assumes nothing.
use mathlib.Core.Path.{◌≡◌, refl, sym, ap, ap₂, ◌∙◌}
use mir.Syntax.{w32}
use mir.Val.{to_z, of_z}
use Prim.Native.Nat.{◌+◌, ◌*◌}
use native.Mathlib.Omega.{arith}
use lib.ListN.{length}
use lib.IntN.{ℤ}
use Rattle.path.specs.declared.Edge.{Edge}
use Rattle.path.specs.Stored.{edge_at}
use Rattle.coverage.specs.Scanline.{missed, beyond}
use Rattle.coverage.proofs.Begin.{clean}
use Rattle.coverage.proofs.Turn.{miss_sums, miss_marks, beyond_sums, beyond_marks}
use Rattle.coverage.proofs.edges.add_edge.Goals as goal
use Rattle.coverage.proofs.edges.add_edge.Tie as tie
use Rattle.coverage.proofs.edges.add_edge.Lts as lts
use Rattle.coverage.proofs.edges.add_edge.Reads as reads

-- what the tests tell of the edge
tested : (c : lts.After-misses tie.the-claims reads.Pre reads.Post tie.handed_clauses)
    → c.misses.result
    ≡ missed (edge_at c.args.scratch.now c.args.i).y0 (edge_at c.args.scratch.now c.args.i).y1 c.args.y
tested c =
    let e = c.requires.edges.small c.args.i (omega arith) in
    let o = c.load-e.ensures in
    let d = edge_at c.args.scratch.now c.args.i in
    c.misses.ensures
    ∙ ap₂ (λ (a b : ℤ). missed a b c.args.y) (ap (λ (f : Edge). to_z w32 (of_z w32 f.y0)) o ∙ clean d.y0 e.y0)
    (ap (λ (f : Edge). to_z w32 (of_z w32 f.y1)) o ∙ clean d.y1 e.y1)

right-of-window : (c : lts.After-is_beyond tie.the-claims reads.Pre reads.Post tie.handed_clauses)
    → let a = c.args in
    c.is_beyond.result
    ≡ beyond (edge_at a.scratch.now a.i).x0 (edge_at a.scratch.now a.i).x1 (a.c + length a.cover.now * 4)
right-of-window c =
    let a = c.args in
    let e = c.requires.edges.small a.i (omega arith) in
    let o = c.load-e.ensures in
    let d = edge_at a.scratch.now a.i in
    c.is_beyond.ensures
    ∙ ap₂ (λ (x y : ℤ). beyond x y (a.c + length a.cover.now * 4)) (ap (λ (f : Edge). to_z w32 (of_z w32 f.x0)) o ∙ clean d.x0 e.x0)
    (ap (λ (f : Edge). to_z w32 (of_z w32 f.x1)) o ∙ clean d.x1 e.x1)

pub returns-then-misses : goal.returns-then-misses
returns-then-misses c =
    let a = c.args in
    let w = length a.cover.now in
    let q = sym (tested c.before.before) ∙ c.if-misses.true in
    record {
      scratch_after = miss_sums a.n w a.c a.y a.scratch.now c.requires.edges.room a.i q c.requires.scratch_value;
      marked_2 = miss_marks a.n w a.c a.y a.scratch.now c.requires.edges.room a.i q a.cover.now c.requires.marked;
      grouped = c.requires.i_lt_n.3;
    }

pub returns-then-is_beyond : goal.returns-then-is_beyond
returns-then-is_beyond c =
    let a = c.args in
    let w = length a.cover.now in
    let room = c.requires.edges.room in
    let q = sym (right-of-window c.before.before) ∙ c.if-is_beyond.true in
    record {
      scratch_after = beyond_sums a.n w a.c a.y a.scratch.now room a.i q c.requires.scratch_value;
      marked_2 = beyond_marks a.n w a.c a.y a.scratch.now room a.i q a.cover.now refl c.requires.marked;
      grouped = c.requires.i_lt_n.3;
    }

pub add_rows-requires : goal.add_rows-requires
add_rows-requires c =
    record { i_lt_n = c.requires.i_lt_n; edges = (c.requires.edges, c.load-e.ensures); scratch_value = c.requires.scratch_value; marked = c.requires.marked }
