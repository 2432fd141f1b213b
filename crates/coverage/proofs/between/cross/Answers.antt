-- `coverage::between::cross` meets its contract. Assumes nothing.
use mathlib.Core.Path.{◌≡◌, sym, ap, ◌∙◌}
use mathlib.Core.Bool.{◌&&◌}
use Prim.Native.Nat.{ℕ, ◌+◌, ◌*◌}
use native.Mathlib.Omega.{arith}
use lib.IntN.{pos}
use lib.Signed.{le_z, lt_z}
use mir.Syntax.{w32}
use mir.Val.{to_z}
use mir.Facts.{to_z_pos}
use Rattle.coverage.specs.Winding.{turned, sample}
use Rattle.coverage.specs.Scanline.{rise_of, columns_of}
use Rattle.coverage.proofs.Begin.{clean}
use Rattle.coverage.proofs.Steep.{rise_asks, small_turned, passes_up, passes_down}
use Rattle.coverage.proofs.Paired.{begins_crosses}
use Rattle.coverage.proofs.between.cross.Goals.{Start}
use Rattle.coverage.proofs.between.cross.Goals as goal

-- the first and the last sample row, as they are handed on
first : (s : Start) → to_z w32 (256 * s.args.y + 32) ≡ sample (4 * s.args.y + 0)
first s = to_z_pos w32 (omega (arith, s.requires.1)) ∙ ap pos (as_sample s.args.y)
  where
    as_sample : (y : ℕ) → 256 * y + 32 ≡ 64 * (4 * y + 0) + 32
    as_sample y = omega arith

last : (s : Start) → to_z w32 (256 * s.args.y + 224) ≡ sample (4 * s.args.y + 3)
last s = to_z_pos w32 (omega (arith, s.requires.1)) ∙ ap pos (as_sample s.args.y)
  where
    as_sample : (y : ℕ) → 256 * y + 224 ≡ 64 * (4 * y + 3) + 32
    as_sample y = omega arith

-- what the two tests tell
up : (c : goal.Then-passes)
    → let a = c.args in
    c.passes.result ≡ (le_z a.e.y0 (sample (4 * a.y + 0)) && lt_z (sample (4 * a.y + 3)) a.e.y1)
up c =
    let e = c.args.e in
    let p = c.requires.0 in
    rw (clean e.y0 p.y0, clean e.y1 p.y1, first c.before.before.before.before.before.before, last c.before.before.before.before.before.before) at
    c.passes.ensures

down : (c : goal.Then-passes-2)
    → let a = c.args in
    c.passes-2.result ≡ (le_z a.e.y1 (sample (4 * a.y + 0)) && lt_z (sample (4 * a.y + 3)) a.e.y0)
down c =
    let e = c.args.e in
    let p = c.requires.0 in
    rw (
      clean e.y0 p.y0,
      clean e.y1 p.y1,
      first c.before.before.before.before.before.before.before.before,
      last c.before.before.before.before.before.before.before.before,
    ) at c.passes-2.ensures

pub rise-requires : goal.rise-requires
rise-requires c =
    let e = c.args.e in
    let p = c.requires.0 in
    let asks = rise_asks c.args.y e (sym (up c) ∙ c.if-passes.true) p c.requires.1 in
    record {
      y0_lt_y1 = rw (clean e.y0 p.y0, clean e.y1 p.y1) asks.0;
      x0_bound = rw (clean e.x0 p.x0, clean e.y0 p.y0, clean e.x1 p.x1, clean e.y1 p.y1, first c.before.before.before.before.before.before)
          asks.1;
    }

pub columns-requires : goal.columns-requires
columns-requires c =
    (c.rise.ensures.sloped, c.requires.2)

pub returns-then-passes : goal.returns-then-passes
returns-then-passes c =
    let columns = c.columns in
    let rise = c.rise in
    let a = c.args in
    let e = a.e in
    let p = c.requires.0 in
    let slope : rise.result ≡ rise_of e (sample (4 * a.y + 0)) =
    rw (clean e.x0 p.x0, clean e.y0 p.y0, clean e.x1 p.x1, clean e.y1 p.y1, first c.before.before.before.before.before.before.before.before.before) at
    rise.ensures.value in
    begins_crosses a.c a.k a.y e columns.result 1 c.crossed.result c.crossed.ensures
    (passes_up a.c a.k a.y e columns.result (sym (up c.before.before.before) ∙ c.if-passes.true)
    (columns.ensures ∙ ap (columns_of a.c a.k) slope))

pub rise-requires-then-passes-2 : goal.rise-requires-then-passes-2
rise-requires-then-passes-2 c =
    let e = c.args.e in
    let p = c.requires.0 in
    let asks = rise_asks c.args.y (turned e) (sym (down c) ∙ c.if-passes-2.true) (small_turned e p) c.requires.1 in
    record {
      y0_lt_y1 = rw (clean e.y0 p.y0, clean e.y1 p.y1) asks.0;
      x0_bound = rw (clean e.x0 p.x0, clean e.y0 p.y0, clean e.x1 p.x1, clean e.y1 p.y1, first c.before.before.before.before.before.before.before.before)
          asks.1;
    }

pub columns-requires-then-passes-2 : goal.columns-requires-then-passes-2
columns-requires-then-passes-2 c =
    (c.rise-then-passes-2.ensures.sloped, c.requires.2)

pub returns-then-passes-2 : goal.returns-then-passes-2
returns-then-passes-2 c =
    let columns = c.columns-then-passes-2 in
    let rise = c.rise-then-passes-2 in
    let a = c.args in
    let e = a.e in
    let p = c.requires.0 in
    let slope : rise.result ≡ rise_of (turned e) (sample (4 * a.y + 0)) =
    rw (
      clean e.x0 p.x0,
      clean e.y0 p.y0,
      clean e.x1 p.x1,
      clean e.y1 p.y1,
      first c.before.before.before.before.before.before.before.before.before.before.before,
    ) at rise.ensures.value in
    begins_crosses a.c a.k a.y e columns.result 2 c.crossed-then-passes-2.result c.crossed-then-passes-2.ensures
    (passes_down a.c a.k a.y e columns.result (sym (down c.before.before.before) ∙ c.if-passes-2.true)
    (columns.ensures ∙ ap (columns_of a.c a.k) slope))

pub returns : goal.returns
returns c =
    record { begins = λ h. absurd (omega (arith, h)); counts = λ h. absurd (omega (arith, h)) }
