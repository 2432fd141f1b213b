-- `blend::span_runs` meets its contract: the runs before j are stored, and the other pixels are as they were. Assumes nothing.
use mathlib.Core.Path.{◌≡◌, sym, ap, ◌∙◌}
use native.Mathlib.Omega.{arith}
use lib.ListN.{length}
use Rattle.runs.specs.Runs.{start_of}
use Rattle.blend.proofs.Spans.{next_start, LentRun, run_lent, run_asks, run_turn}
use Rattle.blend.proofs.Masks.{runs_blended}
use Rattle.blend.proofs.row.span_runs.Goals.{In-loop-j}
use Rattle.blend.proofs.row.span_runs.Goals as goal

-- the run of the turn
turn : (c : In-loop-j) → let l = c.loop-j in
    let a = c.args in
    LentRun a.runs.now l.j 0 l.a (length a.row.now)
turn c =
    let l = c.loop-j in
    let a = c.args in
    let p = c.requires in
    run_lent a.runs.now a.n a.w p.runs.0 l.j a.n 0 l.a (length a.row.now) c.loop-j-test.true (omega arith) p.runs.1
    (omega (arith, l.invariant.0)) (omega (arith, p.runs.2, p.runs.0.last))

pub slice_bounds-composite_span-end : goal.slice_bounds-composite_span-end
slice_bounds-composite_span-end c =
    omega (arith, (turn (goal.at.slice_bounds-composite_span-end c).In-loop-j).within, c.loop-j.invariant.1.long)

pub composite_span-requires : goal.composite_span-requires
composite_span-requires c =
    let a = c.args in
    let l = c.loop-j in
    run_asks a.runs.now a.n a.w c.requires.runs.0 l.j l.a c.loop-j-test.true l.row a.row.now
    (turn (goal.at.composite_span-requires c).In-loop-j) c.requires.coverage
    l.invariant.1.long

pub loop-j-preserved : goal.loop-j-preserved
loop-j-preserved c =
    let a = c.args in
    let l = c.loop-j in
    let below = c.loop-j-test.true in
    let call = c.composite_span in (
      sym (next_start a.runs.now l.j),
      run_turn a.runs.now a.n a.w c.requires.runs.0 l.j l.a below l.row a.row.now (turn (goal.at.loop-j-preserved c).In-loop-j) a.mode a.src
          call.new.row l.invariant.0 l.invariant.1 call.ensures,
    )

pub returns : goal.returns
returns c =
    let a = c.args in
    let l = c.loop-j in
    let all : l.j ≡ a.n = omega arith in
    runs_blended a.mode a.runs.now a.n a.w c.requires.runs.0 c.requires.coverage a.src l.row a.row.now l.a c.requires.runs.2
    (l.invariant.0 ∙ ap (start_of a.runs.now) all) l.invariant.1
