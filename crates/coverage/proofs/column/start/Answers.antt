-- `coverage::column::start` meets its contract. Assumes nothing.
use mathlib.Core.Path.{◌≡◌, sym, ap, subst, ◌∙◌}
use Prim.Native.Nat.{ℕ}
use lib.Dec.{T}
use lib.IntN.{pos, negsuc}
use Rattle.coverage.specs.Winding.{spans_up, turned}
use Rattle.coverage.specs.Scanline.{first_column, place}
use Rattle.coverage.proofs.Begin.{clean, start_up, start_down, start_none}
use Rattle.coverage.proofs.Sums.{span_rises}
use Rattle.coverage.proofs.column.start.Goals as goal
use Rattle.coverage.proofs.column.start.Tie as tie
use Rattle.coverage.proofs.column.start.Lts as lts
use Rattle.coverage.proofs.column.start.Reads as reads

-- what the two tests tell, of the edge and of the edge turned
up : (c : lts.After-between tie.the-claims reads.Pre reads.Post tie.handed_clauses) → c.between.result ≡ spans_up c.args.e c.args.y
up c =
    let e = c.args.e in
    rw (clean e.y0 c.requires.small.y0, clean e.y1 c.requires.small.y1, clean c.args.y c.requires.y_bound.0) at c.between.ensures

down : (c : lts.After-between2 tie.the-claims reads.Pre reads.Post tie.handed_clauses)
    → c.between-2.result ≡ spans_up (turned c.args.e) c.args.y
down c =
    let e = c.args.e in
    rw (clean e.y0 c.requires.small.y0, clean e.y1 c.requires.small.y1, clean c.args.y c.requires.y_bound.0) at c.between-2.ensures

pub column_in-requires : goal.column_in-requires
column_in-requires c =
    let e = c.args.e in
    let p = c.requires.small in
    record {
      y0_lt_y1 = rw (clean e.y0 p.y0, clean e.y1 p.y1)
          (span_rises e c.args.y (subst T (sym (sym (up c.before) ∙ c.if-between.true)) tt));
      x0_bound = rw (clean e.x0 p.x0, clean e.y0 p.y0, clean e.x1 p.x1, clean e.y1 p.y1, clean c.args.y c.requires.y_bound.0)
          (p.x0, p.y0, p.x1, p.y1, c.requires.y_bound.0);
      k_bound = c.requires.y_bound.1;
    }

pub returns-then-between : goal.returns-then-between
returns-then-between c =
    let a = c.args in
    let e = a.e in
    let p = c.requires.small in
    let f : c.column_in.result ≡ place a.c a.k (first_column e a.y) =
    rw (clean e.x0 p.x0, clean e.y0 p.y0, clean e.x1 p.x1, clean e.y1 p.y1, clean a.y c.requires.y_bound.0) at
    c.column_in.ensures in
    ap (λ (n : ℕ). record { at = n; by = pos 1 }) f ∙ start_up a.c a.k a.y e (sym (up c.before.before) ∙ c.if-between.true)

pub column_in-requires-then-between-2 : goal.column_in-requires-then-between-2
column_in-requires-then-between-2 c =
    let e = c.args.e in
    let p = c.requires.small in
    record {
      y0_lt_y1 = rw (clean e.y0 p.y0, clean e.y1 p.y1)
          (span_rises (turned e) c.args.y (subst T (sym (sym (down c.before) ∙ c.if-between-2.true)) tt));
      x0_bound = rw (clean e.x0 p.x0, clean e.y0 p.y0, clean e.x1 p.x1, clean e.y1 p.y1, clean c.args.y c.requires.y_bound.0)
          (p.x1, p.y1, p.x0, p.y0, c.requires.y_bound.0);
      k_bound = c.requires.y_bound.1;
    }

pub returns-then-between-2 : goal.returns-then-between-2
returns-then-between-2 c =
    let a = c.args in
    let e = a.e in
    let p = c.requires.small in
    let f : c.column_in-then-between-2.result ≡ place a.c a.k (first_column (turned e) a.y) =
    rw (clean e.x0 p.x0, clean e.y0 p.y0, clean e.x1 p.x1, clean e.y1 p.y1, clean a.y c.requires.y_bound.0) at
    c.column_in-then-between-2.ensures in
    ap (λ (n : ℕ). record { at = n; by = negsuc 0 }) f ∙ start_down a.c a.k a.y e (sym (down c.before.before) ∙ c.if-between-2.true)

pub returns : goal.returns
returns c =
    start_none c.args.c c.args.k c.args.y c.args.e (sym (up c.before.before.before) ∙ c.if-between.false)
    (sym (down c.before) ∙ c.if-between-2.false)
