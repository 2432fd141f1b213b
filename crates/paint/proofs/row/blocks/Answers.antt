-- `row::blocks` meets its contract: the pixels before i are stored.
use Rattle.std.proofs.Common.{◌≡◌, ℕ, ◌+◌, ◌-◌, ◌*◌, ◌<◌, ◌≤◌, length, ◌∙◌, arith}
use Rattle.lists.proofs.Laws.{part_length}
use Rattle.color.specs.declared.Pixel.{Pixel}
use Rattle.raster.specs.Surface.{run}
use Rattle.raster.proofs.Runs.{run_same, stored_none, stored_part, stored_all}
use Rattle.paint.specs.Circles.{gradient_at}
use Rattle.paint.proofs.row.blocks.Goals as goal
use Rattle.paint.proofs.row.blocks.Tie as tie
use Rattle.paint.proofs.row.blocks.Lts as lts
use Rattle.paint.proofs.row.blocks.Reads as reads

-- where the block ends
ends : (c : lts.After-min tie.the-claims reads.Pre reads.Post goal.the-invariant-loop-i goal.the-decreases-loop-i tie.handed_clauses)
    → (c.loop-i.i < c.min-e.result) × (c.min-e.result ≤ c.loop-i.i + 256) × (c.min-e.result ≤ c.args.n)
ends c =
    let e = c.min-e.ensures in
    let t = c.loop-i-test.true in
    let p = c.requires.held_gradient in
    (omega (arith, e, t, p.2), omega (arith, e, p.3), omega (arith, e))

row-long : (c : lts.At-loop tie.the-claims reads.Pre reads.Post goal.the-invariant-loop-i goal.the-decreases-loop-i tie.handed_clauses)
    → length c.loop-i.row ≡ c.args.n * 4
row-long c = c.loop-i.invariant.1.long ∙ c.requires.n_bound.2

pub loop-i-init : goal.loop-i-init
loop-i-init c =
    (omega arith, stored_none _ _)

pub overflow_add-i : goal.overflow_add-i
overflow_add-i c =
    record { fits = omega (arith, c.loop-i-test.true, c.requires.n_bound.0, c.requires.held_gradient.3) }

pub overflow_sub-m : goal.overflow_sub-m
overflow_sub-m c =
    let h = ends c.before in omega (arith, h.0)

pub overflow_mul-from : goal.overflow_mul-from
overflow_mul-from c =
    let h = ends c.before in record { fits = omega (arith, h.0, h.2, c.requires.n_bound.0) }

pub overflow_mul-to : goal.overflow_mul-to
overflow_mul-to c =
    let h = ends c.before in record { fits = omega (arith, h.2, c.requires.n_bound.0) }

pub overflow_add-x : goal.overflow_add-x
overflow_add-x c =
    let h = ends c.before in record { fits = omega (arith, h.0, h.2, c.requires.n_bound.0) }

pub slice_bounds-block-count : goal.slice_bounds-block-count
slice_bounds-block-count c =
    let h = ends c.before in omega (arith, h.0)

pub slice_bounds-block-start : goal.slice_bounds-block-start
slice_bounds-block-start c =
    let h = ends c.before in omega (arith, h.0)

pub slice_bounds-block-end : goal.slice_bounds-block-end
slice_bounds-block-end c =
    let h = ends c.before in omega (arith, h.2, row-long c.before.before.before)

pub block-requires : goal.block-requires
block-requires c =
    let h = ends c.before.before in
    let i = c.loop-i.i in
    let e = c.min-e.result in
    let row = part_length c.loop-i.row (i * 4) (e * 4) (omega (arith, h.0)) (omega (arith, h.2, row-long c.before.before.before.before)) in
    record {
      held_gradient = (c.requires.held_gradient.0, c.requires.held_gradient.1);
      n_bound = (
        omega (arith, h.0, h.2, c.requires.n_bound.0),
        c.requires.n_bound.1,
        omega (arith, row, h.0),
        omega (arith, h.1),
      );
    }

pub loop-i-smaller : goal.loop-i-smaller
loop-i-smaller c =
    let h = ends c.before.before.before.before.before in omega (arith, h.0, h.2)

pub loop-i-preserved : goal.loop-i-preserved
loop-i-preserved c =
    let call = c.block in
    let a = c.args in
    let h = ends c.before.before.before.before.before in
    let i = c.loop-i.i in
    let e = c.min-e.result in
    let f : ℕ → Pixel = λ k. gradient_at a.g a.ramp.now (a.x + k) a.y in
    let painted : call.new.row ≡ run (e - i) (λ j. f (i + j)) =
    call.ensures
    ∙ run_same (e - i) (λ j. gradient_at a.g a.ramp.now (a.x + i + j) a.y) (λ j. f (i + j))
    (λ j m. let w : a.x + i + j ≡ a.x + (i + j) = omega arith in rw w) in
    (h.2, stored_part c.loop-i.invariant.1 call.new.row e (omega (arith, h.0)) (omega (arith, h.2, c.requires.n_bound.2)) painted)

pub shape_of-row : goal.shape_of-row
shape_of-row c =
    c.loop-i.invariant.1.long

pub returns : goal.returns
returns c =
    stored_all c.loop-i.invariant.1 c.args.n (omega (arith, c.loop-i-test.false, c.loop-i.invariant.0)) c.requires.n_bound.2
