-- `blend::composite_masked_runs` meets its contract: the runs before j are stored, and the other pixels are as they were. Assumes nothing.
use mathlib.Core.Path.{◌≡◌, sym, ap, ap₂, ◌∙◌}
use Prim.Native.Nat.{ℕ, ◌+◌, ◌-◌, ◌*◌, ◌≤◌, ◌<◌}
use native.Mathlib.Omega.{arith}
use lib.ListN.{length, get_or, take, drop}
use Rattle.lists.proofs.Laws.{part_length}
use Rattle.runs.specs.Runs.{end_of, start_of, level_of, expand}
use Rattle.runs.proofs.Expand.{runs_at}
use Rattle.color.specs.declared.Pixel.{Pixel}
use Rattle.raster.specs.Surface.{pixel_in}
use Rattle.raster.proofs.Runs.{run_same, stored_all}
use Rattle.blend.specs.PorterDuff.{composite_on}
use Rattle.blend.specs.Spans.{length_of}
use Rattle.blend.proofs.Spans.{part_turn, part_paint, part_mask, run_covered, next_start, LentRun, run_lent}
use Rattle.blend.proofs.row.composite_masked_runs.Goals.{In-loop-j}
use Rattle.blend.proofs.row.composite_masked_runs.Goals as goal

-- the run of the turn
turn : (c : In-loop-j) → let l = c.loop-j in
    let a = c.args in
    LentRun a.runs.now l.j c.start-first.result l.a (length a.src.now)
turn c =
    let l = c.loop-j in
    let first = c.start-first in
    let a = c.args in
    let p = c.requires in
    run_lent a.runs.now a.n a.w p.runs.0 l.j a.some.to first.result l.a (length a.src.now)
    c.loop-j-test.true p.runs.2 p.runs.3 l.invariant.0
    (p.src_len.0 ∙ ap (λ (f : ℕ). (start_of a.runs.now a.some.to - f) * 4) (sym first.ensures))

-- the row is as long as the paint, and so is the mask
long : (c : In-loop-j)
    → length c.loop-j.row ≡ length c.args.src.now
long c = c.loop-j.invariant.1.long ∙ c.requires.src_len.1 ∙ sym c.requires.src_len.0

mask-long : (c : In-loop-j)
    → length c.args.mask.now * 4 ≡ length c.args.src.now
mask-long c = ap (λ (m : ℕ). m * 4) c.requires.coverage.1 ∙ sym c.requires.src_len.0

pub slice_bounds-composite_masked-end : goal.slice_bounds-composite_masked-end
slice_bounds-composite_masked-end c =
    omega (arith, (turn (goal.at.slice_bounds-composite_masked-end c).In-loop-j).within, mask-long (goal.at.slice_bounds-composite_masked-end c).In-loop-j)

pub composite_masked-requires : goal.composite_masked-requires
composite_masked-requires c =
    let a = c.args in
    let l = c.loop-j in
    let e = end_of a.runs.now l.j - c.start-first.result in
    let t = turn (goal.at.composite_masked-requires c).In-loop-j in
    let low : l.a * 4 ≤ e * 4 = omega (arith, t.some) in
    let size : e * 4 - l.a * 4 ≡ (e - l.a) * 4 = omega arith in (
      run_covered a.runs.now a.n a.w c.requires.runs.0 c.requires.coverage.0 l.j (omega (arith, c.loop-j-test.true, c.requires.runs.2)),
      part_length a.mask.now l.a e t.some (omega (arith, t.within, mask-long (goal.at.composite_masked-requires c).In-loop-j)),
      part_length a.src.now (l.a * 4) (e * 4) low t.within ∙ size,
      part_length l.row (l.a * 4) (e * 4) low (omega (arith, t.within, long (goal.at.composite_masked-requires c).In-loop-j)) ∙ size,
    )

pub loop-j-preserved : goal.loop-j-preserved
loop-j-preserved c =
    let a = c.args in
    let l = c.loop-j in
    let runs = a.runs.now in
    let first = c.start-first.result in
    let e = end_of runs l.j - first in
    let t = turn (goal.at.loop-j-preserved c).In-loop-j in
    let below : l.j < a.n = omega (arith, c.loop-j-test.true, c.requires.runs.2) in
    let call = c.composite_masked in
    let k : ℕ → ℕ = λ i. get_or (expand runs a.n) (first + i) 0 in
    let m : ℕ → ℕ = λ i. get_or a.mask.now i 0 in
    let lent : ℕ → Pixel → Pixel = λ i.
    composite_on a.mode (level_of runs l.j) (get_or (take (e - l.a) (drop l.a a.mask.now)) i 0)
    (pixel_in (take (e * 4 - l.a * 4) (drop (l.a * 4) a.src.now)) i) in (
      omega (arith, next_start runs l.j, t.low),
      part_turn (λ i. composite_on a.mode (k i) (m i) (pixel_in a.src.now i)) lent l.row a.row.now call.new.row l.a e t.some
          (omega (arith, t.within, long (goal.at.loop-j-preserved c).In-loop-j, l.invariant.1.long)) l.invariant.1
          (λ i h p.
          ap₂ (λ (m : ℕ) (q : Pixel). composite_on a.mode (level_of runs l.j) m q p) (part_mask a.mask.now l.a e i h)
          (part_paint a.src.now l.a e i h)
          ∙ ap (λ (k : ℕ). composite_on a.mode k (m (l.a + i)) (pixel_in a.src.now (l.a + i)) p)
          (sym (runs_at runs a.n a.w c.requires.runs.0 l.j (first + (l.a + i)) below (omega (arith, l.invariant.0)) (omega arith))))
          call.ensures,
    )

pub returns : goal.returns
returns c =
    let a = c.args in
    let l = c.loop-j in
    let runs = a.runs.now in
    let first = c.start-first in
    let all : l.j ≡ a.some.to = omega arith in
    let n = length_of runs a.some in
    let step : ℕ → ℕ → Pixel = λ f i.
    composite_on a.mode (get_or (expand runs a.n) (f + i) 0) (get_or a.mask.now i 0) (pixel_in a.src.now i) (pixel_in a.row.now i) in
    stored_all l.invariant.1 n (omega (arith, l.invariant.0, ap (start_of runs) all, first.ensures)) c.requires.src_len.1
    ∙ run_same n (step first.result) (step (start_of runs a.some.from)) (λ i h. ap (λ (f : ℕ). step f i) first.ensures)
