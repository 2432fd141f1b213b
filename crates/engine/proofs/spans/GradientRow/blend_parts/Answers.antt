-- `spans::GradientRow::blend_parts` meets its contract: the pixels before run j are stored.
use mathlib.Core.Path.{refl, ◌∙◌}
use Prim.Native.Nat.{ℕ, ◌+◌, ◌*◌, ◌≤◌}
use native.Mathlib.Omega.{arith}
use lib.ListN.{length}
use Rattle.runs.proofs.Expand.{first_within}
use Rattle.color.specs.declared.Pixel.{Pixel}
use Rattle.raster.proofs.Runs.{stored_none}
use Rattle.engine.specs.Rows.{gradient_tinted}
use Rattle.engine.proofs.Parts.{part_within, stored_past, stored_through, stored_whole}
use Rattle.engine.proofs.spans.GradientRow.blend_parts.Goals as goal

pub loop-j-init : goal.loop-j-init
loop-j-init c =
    let a = c.args in
    let s = a.self.now in
    let next = c.covered_from-j in
    let paint : ℕ → Pixel = λ i. gradient_tinted s.paint s.ramp.now (s.strip.x + i) s.strip.y in (
      next.ensures.1,
      refl,
      stored_past s.runs.now (length s.runs.now) s.strip.length s.covered.0 s.mode paint a.row.now c.requires.0 a.row.now 0 (stored_none _ _)
          next.result next.ensures.0 next.ensures.1,
    )

pub overflow_mul-from : goal.overflow_mul-from
overflow_mul-from c =
    let s = c.args.self.now in
    omega (
      arith,
      c.start-from.ensures,
      first_within s.runs.now (length s.runs.now) s.strip.length s.covered.0 c.loop-j.j c.loop-j.invariant.0,
      s.strip.on_surface.1,
    )

pub overflow_mul-to : goal.overflow_mul-to
overflow_mul-to c =
    let s = c.args.self.now in
    omega (
      arith,
      c.start-to.ensures,
      first_within s.runs.now (length s.runs.now) s.strip.length s.covered.0 c.covered_to-m.result c.covered_to-m.ensures.1,
      s.strip.on_surface.1,
    )

pub slice_bounds-blend_part-count : goal.slice_bounds-blend_part-count
slice_bounds-blend_part-count c =
    let s = c.args.self.now in
    let m = c.covered_to-m in
    let h = part_within s.runs.now s.strip.length c.loop-j.j m.result s.covered (omega (arith, m.ensures.0)) m.ensures.1 in
    omega (arith, h.0, c.start-from.ensures, c.start-to.ensures)

pub slice_bounds-blend_part-start : goal.slice_bounds-blend_part-start
slice_bounds-blend_part-start c =
    let s = c.args.self.now in
    let m = c.covered_to-m in
    let h = part_within s.runs.now s.strip.length c.loop-j.j m.result s.covered (omega (arith, m.ensures.0)) m.ensures.1 in
    omega (arith, h.0, c.start-from.ensures, c.start-to.ensures)

pub slice_bounds-blend_part-end : goal.slice_bounds-blend_part-end
slice_bounds-blend_part-end c =
    let s = c.args.self.now in
    let m = c.covered_to-m in
    let h = part_within s.runs.now s.strip.length c.loop-j.j m.result s.covered (omega (arith, m.ensures.0)) m.ensures.1 in
    let fits : c.start-to.result * 4 ≤ length c.loop-j.row = omega (arith, h.1, c.start-to.ensures, c.loop-j.invariant.2.long, c.requires.0) in
    fits

pub loop-j-preserved : goal.loop-j-preserved
loop-j-preserved c =
    let a = c.args in
    let s = a.self.now in
    let l = c.loop-j in
    let m = c.covered_to-m in
    let next = c.covered_from-j-in-loop-j in
    let paint : ℕ → Pixel = λ i. gradient_tinted s.paint s.ramp.now (s.strip.x + i) s.strip.y in
    let through = stored_through s.runs.now (length s.runs.now) s.strip.length s.covered.0 s.mode paint a.row.now c.requires.0
    l.row l.j m.result c.start-from.result c.start-to.result c.start-from.ensures c.start-to.ensures l.invariant.2 c.blend_part.new.row
    (omega (arith, m.ensures.0)) m.ensures.1 c.blend_part.ensures in (
      next.ensures.1,
      c.blend_part.auto.buffer ∙ l.invariant.1,
      stored_past s.runs.now (length s.runs.now) s.strip.length s.covered.0 s.mode paint a.row.now c.requires.0 _ m.result through
          next.result next.ensures.0 next.ensures.1,
    )

pub returns : goal.returns
returns c =
    let a = c.args in
    let s = a.self.now in
    let l = c.loop-j in
    let paint : ℕ → Pixel = λ i. gradient_tinted s.paint s.ramp.now (s.strip.x + i) s.strip.y in
    stored_whole s.runs.now (length s.runs.now) s.strip.length s.covered.0 s.mode paint a.row.now c.requires.0 l.row l.j l.invariant.2
    (omega (arith, l.invariant.0, c.loop-j-test.false))
