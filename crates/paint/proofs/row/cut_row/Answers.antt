-- `row::cut_row` meets its contract: the pixels are stored in three parts.
use Rattle.std.proofs.Common.{◌≡◌, ℕ, ◌+◌, ◌-◌, ◌*◌, ◌≤◌, List, ◌++◌, length, take, drop, refl, ◌∙◌, arith}
use Rattle.lists.proofs.Laws.{part_length}
use Rattle.color.specs.declared.Pixel.{Pixel}
use Rattle.raster.specs.Surface.{run}
use Rattle.raster.specs.Rows.{Stored}
use Rattle.raster.proofs.Runs.{run_same, stored_none, stored_part, stored_all}
use Rattle.paint.specs.Buffers.{stops_in}
use Rattle.paint.specs.Circles.{radial_at}
use Rattle.paint.proofs.Outer.{last_run}
use Rattle.paint.proofs.row.cut_row.Goals as goal
use Rattle.paint.proofs.row.cut_row.Tie as tie
use Rattle.paint.proofs.row.cut_row.Lts as lts
use Rattle.paint.proofs.row.cut_row.Reads as reads

abbrev paint : lts.Start tie.the-claims reads.Pre reads.Post tie.handed_clauses → ℕ → Pixel
paint s k = radial_at s.args.g (stops_in s.args.ramp.now s.args.g.count) (s.args.x + k) s.args.y

-- how the columns lie
order : (s : lts.Start tie.the-claims reads.Pre reads.Post tie.handed_clauses) → let a = s.args in (a.from ≤ a.to) × (a.to ≤ a.n) × (a.x + a.n ≤ 1024)
    × (length a.row.now ≡ a.n * 4)
order s = (s.requires.held_gradient.3.order, s.requires.held_gradient.3.few, s.requires.n_bound.0, s.requires.n_bound.2)

abbrev first : lts.After-fill_row tie.the-claims reads.Pre reads.Post tie.handed_clauses → List ℕ
first c = let a = c.args in c.fill_row.new.s ++ drop (a.from * 4 - 0) a.row.now

first-stored : (c : lts.After-fill_row tie.the-claims reads.Pre reads.Post tie.handed_clauses)
    → Stored (paint c.before.before.before.before.before) c.args.row.now c.args.from (first c)
first-stored c =
    let a = c.args in
    let h = order c.before.before.before.before.before in
    let p = c.gradient_color-p in
    let all : a.from - 0 ≡ a.from = omega arith in
    let same : c.fill_row.new.s ≡ run (a.from - 0) (λ j. paint c.before.before.before.before.before (0 + j)) =
    rw all (c.fill_row.ensures ∙ last_run a.g (stops_in a.ramp.now a.g.count) a.x a.y 0 a.from p.result c.requires.held_gradient.2 p.ensures
    (λ j l. c.requires.held_gradient.3.before (0 + j) (omega arith))) in
    stored_part (stored_none (paint c.before.before.before.before.before) a.row.now) c.fill_row.new.s a.from (omega arith) (omega (arith, h)) same

abbrev second : lts.After-sloped_row tie.the-claims reads.Pre reads.Post tie.handed_clauses → List ℕ
second c =
    let l = first c.before.before.before.before in
    let a = c.args in
    take (a.from * 4) l ++ (c.sloped_row.new.row ++ drop (a.to * 4 - a.from * 4) (drop (a.from * 4) l))

second-stored : (c : lts.After-sloped_row tie.the-claims reads.Pre reads.Post tie.handed_clauses)
    → Stored (paint c.before.before.before.before.before.before.before.before.before) c.args.row.now c.args.to (second c)
second-stored c =
    let a = c.args in
    let h = order c.before.before.before.before.before.before.before.before.before in
    let same : c.sloped_row.new.row ≡ run (a.to - a.from) (λ j. paint c.before.before.before.before.before.before.before.before.before (a.from + j)) =
    c.sloped_row.ensures
    ∙ run_same (a.to - a.from) (λ j. radial_at a.g (stops_in a.ramp.now a.g.count) (a.x + a.from + j) a.y)
    (λ j. paint c.before.before.before.before.before.before.before.before.before (a.from + j))
    (λ j m. let w : a.x + a.from + j ≡ a.x + (a.from + j) = omega arith in rw w) in
    stored_part (first-stored c.before.before.before.before) c.sloped_row.new.row a.to h.0 (omega (arith, h)) same

third-stored : (c : lts.After-fill_row2 tie.the-claims reads.Pre reads.Post tie.handed_clauses)
    → let l = second c.before.before.before.before in
    let a = c.args in
    Stored (paint c.before.before.before.before.before.before.before.before.before.before.before.before.before) a.row.now a.n (take (a.to * 4) l ++
    (c.fill_row-2.new.s ++ drop (a.n * 4 - a.to * 4) (drop (a.to * 4) l)))
third-stored c =
    let a = c.args in
    let h = order c.before.before.before.before.before.before.before.before.before.before.before.before.before in
    let p = c.gradient_color-p in
    let same : c.fill_row-2.new.s ≡ run (a.n - a.to)
    (λ j. paint c.before.before.before.before.before.before.before.before.before.before.before.before.before (a.to + j)) =
    c.fill_row-2.ensures ∙ last_run a.g (stops_in a.ramp.now a.g.count) a.x a.y a.to (a.n - a.to) p.result c.requires.held_gradient.2 p.ensures
    (λ j l. c.requires.held_gradient.3.behind (a.to + j) (omega arith) (omega arith)) in
    stored_part (second-stored c.before.before.before.before) c.fill_row-2.new.s a.n h.1 (omega (arith, h)) same

-- the row is as long as it was
first_long : (c : lts.After-fill_row tie.the-claims reads.Pre reads.Post tie.handed_clauses) → length (first c) ≡ c.args.n * 4
first_long c = (first-stored c).long ∙ c.requires.n_bound.2

second-long : (c : lts.After-sloped_row tie.the-claims reads.Pre reads.Post tie.handed_clauses) → length (second c) ≡ c.args.n * 4
second-long c = (second-stored c).long ∙ c.requires.n_bound.2

pub gradient_color-p-requires : goal.gradient_color-p-requires
gradient_color-p-requires c =
    c.requires.held_gradient.0.2

pub overflow_mul-start : goal.overflow_mul-start
overflow_mul-start c =
    record { fits = omega (arith, order c.before.before.before.before) }

pub overflow_mul-middle : goal.overflow_mul-middle
overflow_mul-middle c =
    record { fits = omega (arith, order c.before.before.before.before) }

pub overflow_mul-end : goal.overflow_mul-end
overflow_mul-end c =
    record { fits = omega (arith, order c.before.before.before.before) }

pub slice_bounds-fill_row-count : goal.slice_bounds-fill_row-count
slice_bounds-fill_row-count c =
    omega arith

pub slice_bounds-fill_row-start : goal.slice_bounds-fill_row-start
slice_bounds-fill_row-start c =
    omega arith

pub slice_bounds-fill_row-end : goal.slice_bounds-fill_row-end
slice_bounds-fill_row-end c =
    omega (arith, order c.before.before.before.before)

-- ---- what the calls ask
pub fill_row-requires : goal.fill_row-requires
fill_row-requires c =
    let a = c.args in
    part_length a.row.now 0 (a.from * 4) (omega arith) (omega (arith, order c.before.before.before.before.before)) ∙ omega arith

pub overflow_add-x : goal.overflow_add-x
overflow_add-x c =
    record { fits = omega (arith, order c.before.before.before.before.before.before.before.before) }

pub overflow_sub-to : goal.overflow_sub-to
overflow_sub-to c =
    (order c.before.before.before.before.before.before.before.before).0

pub slice_bounds-sloped_row-count : goal.slice_bounds-sloped_row-count
slice_bounds-sloped_row-count c =
    omega (arith, order c.before.before.before.before.before.before.before.before)

pub slice_bounds-sloped_row-start : goal.slice_bounds-sloped_row-start
slice_bounds-sloped_row-start c =
    omega (arith, order c.before.before.before.before.before.before.before.before)

pub slice_bounds-sloped_row-end : goal.slice_bounds-sloped_row-end
slice_bounds-sloped_row-end c =
    omega (arith, order c.before.before.before.before.before.before.before.before, first_long c.before.before.before)

pub sloped_row-requires : goal.sloped_row-requires
sloped_row-requires c =
    let a = c.args in
    let h = order c.before.before.before.before.before.before.before.before.before in
    let part = part_length (first c.before.before.before.before) (a.from * 4) (a.to * 4) (omega (arith, h)) (omega (
      arith,
      h,
      first_long c.before.before.before.before,
    )) in
    record { held_gradient = (c.requires.held_gradient.0, c.requires.held_gradient.1); n_bound = (omega (arith, h), c.requires.n_bound.1, part ∙ omega arith) }

pub slice_bounds-fill_row-count-2 : goal.slice_bounds-fill_row-count-2
slice_bounds-fill_row-count-2 c =
    omega (arith, order c.before.before.before.before.before.before.before.before.before.before.before.before)

pub slice_bounds-fill_row-start-2 : goal.slice_bounds-fill_row-start-2
slice_bounds-fill_row-start-2 c =
    omega (arith, order c.before.before.before.before.before.before.before.before.before.before.before.before)

pub slice_bounds-fill_row-end-2 : goal.slice_bounds-fill_row-end-2
slice_bounds-fill_row-end-2 c =
    omega (arith, second-long c.before.before.before)

pub overflow_sub-n : goal.overflow_sub-n
overflow_sub-n c =
    (order c.before.before.before.before.before.before.before.before.before.before.before.before.before).1

pub fill_row-requires-2 : goal.fill_row-requires-2
fill_row-requires-2 c =
    let a = c.args in
    let h = order c.before.before.before.before.before.before.before.before.before.before.before.before.before in
    part_length (second c.before.before.before.before) (a.to * 4) (a.n * 4) (omega (arith, h)) (omega (arith, second-long c.before.before.before.before))
    ∙ omega arith

pub shape_of-row : goal.shape_of-row
shape_of-row c =
    (third-stored c.before.before.before).long

pub returns : goal.returns
returns c =
    stored_all (third-stored c.before.before.before) c.args.n refl c.requires.n_bound.2
