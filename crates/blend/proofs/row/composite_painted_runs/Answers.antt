-- `blend::composite_painted_runs` meets its contract: the runs before j are stored, and the other pixels are as they were. Assumes nothing.
use mathlib.Core.Path.{◌≡◌, sym, ap, ap₂, ◌∙◌}
use Prim.Native.Nat.{ℕ, ◌+◌, ◌-◌, ◌*◌, ◌≤◌, ◌<◌}
use native.Mathlib.Omega.{arith}
use lib.ListN.{length, get_or, take, drop}
use Rattle.lists.proofs.Laws.{part_length}
use Rattle.runs.specs.Runs.{end_of, start_of, level_of, expand}
use Rattle.runs.proofs.Expand.{starts_rise, runs_at, runs_length}
use Rattle.color.specs.declared.Pixel.{Pixel}
use Rattle.raster.specs.Surface.{pixel_in}
use Rattle.raster.proofs.Runs.{run_same, stored_all}
use Rattle.blend.specs.PorterDuff.{composite_on}
use Rattle.blend.specs.Unmasked.{unmasked_on}
use Rattle.blend.specs.Spans.{length_of}
use Rattle.blend.proofs.Spans.{part_turn, part_paint, run_covered, next_start, LentRun, run_lent}
use Rattle.blend.proofs.Masks.{whole_mask_step}
use Rattle.blend.proofs.row.composite_painted_runs.Goals.{In-loop-j}
use Rattle.blend.proofs.row.composite_painted_runs.Goals as goal

-- the run of the turn
turn : (c : In-loop-j) → let l = c.loop-j in
    let a = c.args in
    LentRun a.runs.now l.j c.start-first.result l.a (length a.src.now)
turn c =
    let l = c.loop-j in
    let first = c.start-first in
    let a = c.args in
    let p = c.requires in
    run_lent a.runs.now a.n a.w p.runs.0 l.j a.some.to first.result l.a (length a.src.now)
    c.loop-j-test.true p.runs.2 p.runs.3 l.invariant.0
    (p.src_len.0 ∙ ap (λ (f : ℕ). (start_of a.runs.now a.some.to - f) * 4) (sym first.ensures))

-- the row is as long as the paint
long : (c : In-loop-j)
    → length c.loop-j.row ≡ length c.args.src.now
long c = c.loop-j.invariant.1.long ∙ c.requires.src_len.1 ∙ sym c.requires.src_len.0

pub slice_bounds-composite_painted-end : goal.slice_bounds-composite_painted-end
slice_bounds-composite_painted-end c =
    (turn (goal.at.slice_bounds-composite_painted-end c).In-loop-j).within

pub composite_painted-requires : goal.composite_painted-requires
composite_painted-requires c =
    let a = c.args in
    let l = c.loop-j in
    let e = end_of a.runs.now l.j - c.start-first.result in
    let t = turn (goal.at.composite_painted-requires c).In-loop-j in
    let low : l.a * 4 ≤ e * 4 = omega (arith, t.some) in
    let size : e * 4 - l.a * 4 ≡ (e - l.a) * 4 = omega arith in (
      run_covered a.runs.now a.n a.w c.requires.runs.0 c.requires.coverage l.j (omega (arith, c.loop-j-test.true, c.requires.runs.2)),
      part_length a.src.now (l.a * 4) (e * 4) low t.within ∙ size,
      part_length l.row (l.a * 4) (e * 4) low (omega (arith, t.within, long (goal.at.composite_painted-requires c).In-loop-j)) ∙ size,
    )

pub loop-j-preserved : goal.loop-j-preserved
loop-j-preserved c =
    let a = c.args in
    let l = c.loop-j in
    let runs = a.runs.now in
    let first = c.start-first.result in
    let e = end_of runs l.j - first in
    let t = turn (goal.at.loop-j-preserved c).In-loop-j in
    let below : l.j < a.n = omega (arith, c.loop-j-test.true, c.requires.runs.2) in
    let call = c.composite_painted in (
      omega (arith, next_start runs l.j, t.low),
      part_turn (λ i. unmasked_on a.mode (get_or (expand runs a.n) (first + i) 0) (pixel_in a.src.now i))
          (λ i. unmasked_on a.mode (level_of runs l.j) (pixel_in (take (e * 4 - l.a * 4) (drop (l.a * 4) a.src.now)) i))
          l.row a.row.now call.new.row l.a e t.some (omega (
            arith,
            t.within,
            long (goal.at.loop-j-preserved c).In-loop-j,
            l.invariant.1.long,
          )) l.invariant.1
          (λ i h p.
          ap₂ (λ (k : ℕ) (q : Pixel). unmasked_on a.mode k q p)
          (sym (runs_at runs a.n a.w c.requires.runs.0 l.j (first + (l.a + i)) below (omega (arith, l.invariant.0)) (omega arith)))
          (part_paint a.src.now l.a e i h))
          call.ensures,
    )

pub returns : goal.returns
returns c =
    let a = c.args in
    let l = c.loop-j in
    let runs = a.runs.now in
    let first = c.start-first in
    let all : l.j ≡ a.some.to = omega arith in
    let n = length_of runs a.some in
    let size : l.a ≡ n = omega (arith, l.invariant.0, ap (start_of runs) all, first.ensures) in
    let within = starts_rise runs a.n c.requires.runs.0.rises a.some.to a.n c.requires.runs.2 (omega arith) in
    stored_all l.invariant.1 n size c.requires.src_len.1
    ∙ run_same n (λ i. unmasked_on a.mode (get_or (expand runs a.n) (first.result + i) 0) (pixel_in a.src.now i) (pixel_in a.row.now i))
    (λ i. composite_on a.mode (get_or (expand runs a.n) (start_of runs a.some.from + i) 0) 255 (pixel_in a.src.now i) (pixel_in a.row.now i))
    (λ i h.
    whole_mask_step a.mode (get_or (expand runs a.n) (first.result + i) 0) (pixel_in a.src.now i) (pixel_in a.row.now i)
    (c.requires.coverage (first.result + i)
    (omega (arith, within, c.requires.runs.0.last, first.ensures, runs_length runs a.n a.w c.requires.runs.0)))
    ∙ ap (λ (f : ℕ). composite_on a.mode (get_or (expand runs a.n) (f + i) 0) 255 (pixel_in a.src.now i) (pixel_in a.row.now i)) first.ensures)
