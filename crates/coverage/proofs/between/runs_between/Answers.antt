-- `coverage::between::runs_between` meets its contract. Assumes nothing.
use mathlib.Core.Path.{◌≡◌, refl, sym, ap₂, subst, ◌∙◌}
use Prim.Native.Nat.{ℕ, ◌+◌, ◌*◌, ◌<◌}
use native.Mathlib.Omega.{arith}
use lib.ListN.{length, get_or}
use Rattle.lists.specs.Lists.{tab}
use Rattle.path.specs.declared.Edge.{Edge}
use Rattle.path.specs.Stored.{edge_at, edges_of, Small}
use Rattle.coverage.specs.declared.Crossed.{Crossed}
use Rattle.coverage.specs.declared.Columns.{Columns}
use Rattle.coverage.specs.Winding.{coverage}
use Rattle.coverage.specs.Between.{Crosses, Opposed, Ordered, lesser_of, greater_of, level_at}
use Rattle.coverage.proofs.Laid.{tab_same}
use Rattle.coverage.proofs.Paired.{covered_between, known, ordered, crossed_within}
use Rattle.coverage.proofs.between.runs_between.Goals as goal
use Rattle.coverage.proofs.between.runs_between.Tie as tie
use Rattle.coverage.proofs.between.runs_between.Lts as lts
use Rattle.coverage.proofs.between.runs_between.Reads as reads

two : (c : lts.Else1 tie.the-claims reads.Pre reads.Post tie.handed_clauses) → length c.args.list.now ≡ 2
two c = c.if-list-ne2.false

place : (c : lts.Else1 tie.the-claims reads.Pre reads.Post tie.handed_clauses) → (j : ℕ) → j < 2 → get_or c.args.list.now j 0 < c.args.line.edges
place c j h = c.requires.outlined.1.below j (omega (arith, h, (two c)))

small : (c : lts.Else1 tie.the-claims reads.Pre reads.Post tie.handed_clauses) → (j : ℕ) → j < 2
    → Small (edge_at c.args.scratch.now (get_or c.args.list.now j 0))
small c j h = c.requires.outlined.0.small (get_or c.args.list.now j 0) ((place c) j h)

room : (c : lts.Else1 tie.the-claims reads.Pre reads.Post tie.handed_clauses) → (j : ℕ) → j < 2 → get_or c.args.list.now j 0 * 4 + 3 < length c.args.scratch.now
room c j h = omega (arith, (place c) j h, c.requires.outlined.0.few, c.requires.outlined.0.room)

abbrev own : (c : lts.After-cross2 tie.the-claims reads.Pre reads.Post tie.handed_clauses) → ℕ → Edge
own c j = edge_at c.args.scratch.now (get_or c.args.list.now j 0)

abbrev one : (c : lts.After-cross2 tie.the-claims reads.Pre reads.Post tie.handed_clauses) → Crossed
one c = c.cross-s.result

abbrev other : (c : lts.After-cross2 tie.the-claims reads.Pre reads.Post tie.handed_clauses) → Crossed
other c = c.cross-t.result

-- an edge is crossed so in this row
abbrev Crossing : (c : lts.After-cross2 tie.the-claims reads.Pre reads.Post tie.handed_clauses) → Crossed → Edge → Type 0
Crossing c s e = Crosses (4 * c.args.line.x) (c.args.w * 4) c.args.line.y e s

first : (c : lts.After-cross2 tie.the-claims reads.Pre reads.Post tie.handed_clauses) → (Crossing c) (one c) ((own c) 0)
first c = subst ((Crossing c) (one c)) c.load.ensures c.cross-s.ensures

second : (c : lts.After-cross2 tie.the-claims reads.Pre reads.Post tie.handed_clauses) → (Crossing c) (other c) ((own c) 1)
second c = subst ((Crossing c) (other c)) c.load-2.ensures c.cross-t.ensures

in_order : (c : lts.After-cross2 tie.the-claims reads.Pre reads.Post tie.handed_clauses) → Opposed (one c).way (other c).way
    → Ordered (lesser_of (one c) (other c)) (greater_of (one c) (other c)) (c.args.w * 4)
in_order c opposed =
    let a = c.args in
    let way = known (one c).way (other c).way opposed in
    ordered (one c) (other c) (a.w * 4) (crossed_within (4 * a.line.x) (a.w * 4) a.line.y ((own c) 0) (one c) (first c) way.0)
    (crossed_within (4 * a.line.x) (a.w * 4) a.line.y ((own c) 1) (other c) (second c) way.1)

pub returns-then-list-ne2 : goal.returns-then-list-ne2
returns-then-list-ne2 c =
    record { runs_len_unchanged = refl; runs = λ h. absurd (omega (arith, h)) }

pub bounds-list-0 : goal.bounds-list-0
bounds-list-0 c =
    omega (arith, two c.before.before.before)

pub overflow_cast-list : goal.overflow_cast-list
overflow_cast-list c =
    omega (arith, c.shared_slice_known-2-1.given 0)

pub load-requires : goal.load-requires
load-requires c =
    room c.before.before.before 0 (omega arith)

pub cross-s-requires : goal.cross-s-requires
cross-s-requires c =
    let p = c.requires.y_bound in
    (subst Small (sym c.load.ensures) (small c.before.before.before.before 0 (omega arith)), p.0, omega (arith, p.1))

pub bounds-list-1 : goal.bounds-list-1
bounds-list-1 c =
    omega (arith, two c.before.before.before.before.before.before)

pub overflow_cast-list-2 : goal.overflow_cast-list-2
overflow_cast-list-2 c =
    omega (arith, c.shared_slice_known-3-1.given 1)

pub load-requires-2 : goal.load-requires-2
load-requires-2 c =
    room c.before.before.before.before.before.before 1 (omega arith)

pub cross-t-requires : goal.cross-t-requires
cross-t-requires c =
    let p = c.requires.y_bound in
    (subst Small (sym c.load-2.ensures) (small c.before.before.before.before.before.before.before 1 (omega arith)), p.0, omega (arith, p.1))

pub fill_between-requires : goal.fill_between-requires
fill_between-requires c =
    let order = in_order c.before.before.before.before.before.before (c.is_opposed.ensures c.if-is_opposed.true) in
    let w = c.args.w in
    let p = c.requires.y_bound in
    let upper = subst (λ (z : Columns). Ordered (lesser_of (one c.before.before.before.before.before.before)
    (other c.before.before.before.before.before.before)) z (w * 4)) (sym c.greater.ensures) order in
    (subst (λ (z : Columns). Ordered z c.greater.result (w * 4)) (sym c.lesser.ensures) upper, omega (arith, p.1), p.2)

pub shape_of-runs-then-is_opposed : goal.shape_of-runs-then-is_opposed
shape_of-runs-then-is_opposed c =
    c.fill_between.ensures.runs.1

pub returns-then-is_opposed : goal.returns-then-is_opposed
returns-then-is_opposed c =
    let fill = c.fill_between in
    let upper = c.greater.ensures in
    let lower = c.lesser.ensures in
    let opposed = c.is_opposed.ensures c.if-is_opposed.true in
    let found-two = two c.before.before.before.before.before.before.before.before.before.before.before.before.before.before.before.before in
    let a = c.args in
    let k : ℕ → ℕ = λ i. coverage (edges_of a.scratch.now a.line.edges) a.line.nonzero (a.line.x + i) a.line.y in
    let s = one c.before.before.before.before.before.before.before.before.before in
    let t = other c.before.before.before.before.before.before.before.before.before in
    record {
      runs_len_unchanged = fill.ensures.runs.1;
      runs = λ h. (
        fill.ensures.runs.0,
        fill.ensures.result_after
            ∙ ap₂ (λ (x y : Columns). tab a.w (level_at x y)) lower upper
            ∙ tab_same a.w (level_at (lesser_of s t) (greater_of s t)) k
            (λ i g.
            sym (covered_between a.scratch.now a.line.edges a.line.y a.line.x a.w a.list.now a.line.nonzero
            c.requires.outlined.1 found-two s t (first c.before.before.before.before.before.before.before.before.before)
            (second c.before.before.before.before.before.before.before.before.before) opposed i g)),
      );
    }

pub returns : goal.returns
returns c =
    record { runs_len_unchanged = refl; runs = λ h. absurd (omega (arith, h)) }
