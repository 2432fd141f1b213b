-- `blend::over_laid` meets its contract: the pixels before i are blended, and the others are as they were. Assumes nothing.
use mathlib.Core.Path.{◌≡◌, sym, ap, ◌∙◌}
use mathlib.Core.List.{List}
use Prim.Native.Nat.{ℕ, ◌-◌, ◌*◌, ◌≤◌, ◌<◌}
use native.Mathlib.Omega.{arith}
use lib.ListN.{length, take}
use Rattle.lists.proofs.Laws.{part_length}
use Rattle.color.specs.declared.Pixel.{Pixel}
use Rattle.raster.specs.Surface.{run, pixel_in}
use Rattle.raster.proofs.Pixels.{run_length, run_at}
use Rattle.raster.proofs.Runs.{run_is, run_same, stored_all}
use Rattle.blend.specs.PorterDuff.{mode_src_over}
use Rattle.blend.specs.Unmasked.{unmasked_on}
use Rattle.blend.specs.Spans.{keep_pixel}
use Rattle.blend.proofs.Shortcuts.{uncovered_stores}
use Rattle.blend.proofs.Spans.{part_turn, laid_part}
use Rattle.blend.proofs.span.over_laid.Goals as goal
use Rattle.blend.proofs.span.over_laid.Tie as tie
use Rattle.blend.proofs.span.over_laid.Lts as lts
use Rattle.blend.proofs.span.over_laid.Reads as reads

-- the first pixels that are laid out
laid : (c : lts.Start tie.the-claims reads.Pre reads.Post goal.the-invariant-loop-i goal.the-decreases-loop-i tie.handed_clauses) (m w : ℕ) → m ≤ 16
    → w ≡ m * 4 → take w c.args.paint.now ≡ run m (λ i. pixel_in c.args.paint.now 0)
laid c m w h e = laid_part 16 m w (pixel_in c.args.paint.now 0) c.args.paint.now c.requires.paint_value.0 h e

laid_at : (c : lts.Start tie.the-claims reads.Pre reads.Post goal.the-invariant-loop-i goal.the-decreases-loop-i tie.handed_clauses) (m w j : ℕ) → m ≤ 16
    → w ≡ m * 4 → j < m → pixel_in (take w c.args.paint.now) j ≡ pixel_in c.args.paint.now 0
laid_at c m w j h e l = ap (λ (s : List ℕ). pixel_in s j) (laid c m w h e) ∙ run_at m (λ i. pixel_in c.args.paint.now 0) j l

paint-length : (c : lts.Start tie.the-claims reads.Pre reads.Post goal.the-invariant-loop-i goal.the-decreases-loop-i tie.handed_clauses)
    → length c.args.paint.now ≡ 64
paint-length c = ap length c.requires.paint_value.0 ∙ run_length 16 (λ i. pixel_in c.args.paint.now 0)

keep-length : (c : lts.Start tie.the-claims reads.Pre reads.Post goal.the-invariant-loop-i goal.the-decreases-loop-i tie.handed_clauses)
    → length c.args.keep.now ≡ 64
keep-length c = ap length c.requires.paint_value.1 ∙ run_length 16 (λ i. keep_pixel (pixel_in c.args.paint.now 0))

pub over_part-requires : goal.over_part-requires
over_part-requires c =
    let a = c.args in
    let first = pixel_in a.paint.now 0 in
    let l = c.loop-i in
    let e = c.min-e.result in
    let m = e - l.i in
    let w : e * 4 - l.i * 4 - 0 ≡ m * 4 = omega arith in
    let few : m ≤ 16 = omega (arith, c.min-e.ensures) in
    record {
      coverage_bound = (
        c.requires.coverage_bound.0,
        ap length (laid c.before.before.before.before.before.before.before.before.before.before.before m (e * 4 - l.i * 4 - 0) few w)
            ∙ run_length m (λ i. first),
        part_length l.row (l.i * 4) (e * 4) (omega (arith, c.min-e.ensures)) (omega (arith, c.min-e.ensures)) ∙ omega arith,
      );
      keep_value = laid_part 16 m (e * 4 - l.i * 4 - 0) (keep_pixel first) a.keep.now c.requires.paint_value.1 few w
          ∙ run_same m (λ j. keep_pixel first) _ (λ j h. ap keep_pixel
          (sym (laid_at c.before.before.before.before.before.before.before.before.before.before.before m (e * 4 - l.i * 4 - 0) j few w h)));
    }

pub returns-then-coverage-eq0 : goal.returns-then-coverage-eq0
returns-then-coverage-eq0 c =
    let a = c.args in
    rw c.if-coverage-eq0.true
    (run_is a.n (λ i. unmasked_on mode_src_over 0 (pixel_in a.paint.now 0) (pixel_in a.row.now i)) a.row.now c.requires.coverage_bound.1
    (λ i l. sym (uncovered_stores mode_src_over (pixel_in a.paint.now 0) (pixel_in a.row.now i))))

pub loop-i-preserved : goal.loop-i-preserved
loop-i-preserved c =
    let a = c.args in
    let first = pixel_in a.paint.now 0 in
    let l = c.loop-i in
    let e = c.min-e.result in
    let m = e - l.i in
    let w : e * 4 - l.i * 4 - 0 ≡ m * 4 = omega arith in
    let few : m ≤ 16 = omega (arith, c.min-e.ensures) in
    let call = c.over_part in (
      omega (arith, c.min-e.ensures),
      part_turn (λ j p. unmasked_on mode_src_over a.coverage first p)
          (λ j p. unmasked_on mode_src_over a.coverage (pixel_in (take (e * 4 - l.i * 4 - 0) a.paint.now) j) p)
          l.row a.row.now call.new.row l.i e (omega (arith, c.min-e.ensures))
          (omega (arith, c.min-e.ensures, c.requires.coverage_bound.1)) l.invariant.1
          (λ j h p. ap (λ (q : Pixel). unmasked_on mode_src_over a.coverage q p)
          (laid_at c.before.before.before.before.before.before.before.before.before.before.before.before.before.before m (e * 4 - l.i * 4 - 0) j few w
          h)) call.ensures,
    )

pub returns : goal.returns
returns c =
    stored_all c.loop-i.invariant.1 c.args.n (omega arith) c.requires.coverage_bound.1
