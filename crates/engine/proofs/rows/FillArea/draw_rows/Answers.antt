-- `rows::FillArea::draw_rows` meets its contract: the rows below y are drawn.
use mathlib.Core.List.{List}
use mathlib.Core.Path.{refl, sym, ap, subst, ◌∙◌}
use native.Mathlib.Omega.{arith}
use lib.IntN.{ℤ}
use lib.ListN.{length}
use Rattle.raster.proofs.Rows.{rows_none, row_lent, rows_all}
use Rattle.path.specs.Stored.{edges_of}
use Rattle.coverage.specs.Scanline.{Outlined}
use Rattle.coverage.specs.Band.{Needed}
use Rattle.engine.proofs.Masks.{mask_row, mask_turn}
use Rattle.engine.proofs.rows.FillArea.draw_rows.Goals as goal

pub overflow_sub-length : goal.overflow_sub-length
overflow_sub-length c =
    omega (arith, c.requires.part.0.placed.on.across)

pub loop-y-init : goal.loop-y-init
loop-y-init c =
    let a = c.args in
    (rows_none a.self.now.target _ a.surface.now c.requires.part.0, refl, refl, refl)

pub row_bytes-r-requires : goal.row_bytes-r-requires
row_bytes-r-requires c =
    (c.requires.part.0.placed, c.loop-y-test.true)

pub invariant_of-strip : goal.invariant_of-strip
invariant_of-strip c =
    let placed = c.requires.part.0.placed in
    record {
      on_surface = (omega (arith, placed.high, placed.on.high, c.loop-y-test.true), omega (arith, placed.wide, placed.on.wide, placed.on.across));
    }

pub slice_bounds-draw-count : goal.slice_bounds-draw-count
slice_bounds-draw-count c =
    let r = c.row_bytes-r in
    let o = row_lent c.args.self.now.target _ c.args.surface.now c.requires.part.0 c.loop-y.invariant.0 c.loop-y-test.true r.result.from r.result.to
    r.ensures.from_value r.ensures.to_value in
    omega (arith, o.across)

pub slice_bounds-draw-start : goal.slice_bounds-draw-start
slice_bounds-draw-start c =
    let r = c.row_bytes-r in
    let o = row_lent c.args.self.now.target _ c.args.surface.now c.requires.part.0 c.loop-y.invariant.0 c.loop-y-test.true r.result.from r.result.to
    r.ensures.from_value r.ensures.to_value in
    o.across

pub slice_bounds-draw-end : goal.slice_bounds-draw-end
slice_bounds-draw-end c =
    let r = c.row_bytes-r in
    let o = row_lent c.args.self.now.target _ c.args.surface.now c.requires.part.0 c.loop-y.invariant.0 c.loop-y-test.true r.result.from r.result.to
    r.ensures.from_value r.ensures.to_value in
    o.within

pub slice_bounds-own-count : goal.slice_bounds-own-count
slice_bounds-own-count c =
    let r = c.row_bytes-r in
    let m = c.mask_bytes-m in
    let o = mask_row c.args.self.now.target c.requires.part.0.placed c.args.self.now.brush.mask.now c.loop-y.y r.result.from r.result.to
    m.result.from m.result.to
    c.loop-y-test.true r.ensures.from_value r.ensures.to_value c.args.self.now.brush.style.masked m.ensures.0 m.ensures.1 c.args.self.now.masked in
    omega (arith, o.across)

pub slice_bounds-own-start : goal.slice_bounds-own-start
slice_bounds-own-start c =
    let r = c.row_bytes-r in
    let m = c.mask_bytes-m in
    let o = mask_row c.args.self.now.target c.requires.part.0.placed c.args.self.now.brush.mask.now c.loop-y.y r.result.from r.result.to
    m.result.from m.result.to
    c.loop-y-test.true r.ensures.from_value r.ensures.to_value c.args.self.now.brush.style.masked m.ensures.0 m.ensures.1 c.args.self.now.masked in
    o.across

pub slice_bounds-own-end : goal.slice_bounds-own-end
slice_bounds-own-end c =
    let r = c.row_bytes-r in
    let m = c.mask_bytes-m in
    let o = mask_row c.args.self.now.target c.requires.part.0.placed c.args.self.now.brush.mask.now c.loop-y.y r.result.from r.result.to
    m.result.from m.result.to
    c.loop-y-test.true r.ensures.from_value r.ensures.to_value c.args.self.now.brush.style.masked m.ensures.0 m.ensures.1 c.args.self.now.masked in
    o.within

pub invariant_of-row : goal.invariant_of-row
invariant_of-row c =
    let r = c.row_bytes-r in
    let m = c.mask_bytes-m in
    let o = mask_row c.args.self.now.target c.requires.part.0.placed c.args.self.now.brush.mask.now c.loop-y.y r.result.from r.result.to
    m.result.from m.result.to
    c.loop-y-test.true r.ensures.from_value r.ensures.to_value c.args.self.now.brush.style.masked m.ensures.0 m.ensures.1 c.args.self.now.masked in
    record { masked = o.long }

pub draw-requires : goal.draw-requires
draw-requires c =
    let a = c.args in
    let l = c.loop-y in
    let r = c.row_bytes-r in
    let m = c.mask_bytes-m in
    let o = row_lent a.self.now.target _ a.surface.now c.requires.part.0 l.invariant.0 c.loop-y-test.true r.result.from r.result.to
    r.ensures.from_value r.ensures.to_value in
    record {
      outlined = subst (λ (z : List ℤ). Outlined z a.self.now.brush.style.edges × Needed z a.self.now.brush.style.edges l.y a.list.now)
          (sym l.invariant.1) (c.requires.outlined.0, c.requires.outlined.1.row l.y l.invariant.0.low c.loop-y-test.true);
      row_len = (o.long, (l.invariant.2 ∙ c.requires.part.1.0, l.invariant.3 ∙ c.requires.part.1.1));
    }

pub loop-y-preserved : goal.loop-y-preserved
loop-y-preserved c =
    let call = c.draw in
    let a = c.args in
    let l = c.loop-y in
    let r = c.row_bytes-r in
    let m = c.mask_bytes-m in
    let o = row_lent a.self.now.target _ a.surface.now c.requires.part.0 l.invariant.0 c.loop-y-test.true r.result.from r.result.to
    r.ensures.from_value r.ensures.to_value in
    let through = mask_row a.self.now.target c.requires.part.0.placed a.self.now.brush.mask.now l.y r.result.from r.result.to m.result.from m.result.to
    c.loop-y-test.true r.ensures.from_value r.ensures.to_value a.self.now.brush.style.masked m.ensures.0 m.ensures.1 c.args.self.now.masked in
    let drawn = mask_turn a.self.now.target a.self.now.brush.style
    (edges_of a.scratch.now a.self.now.brush.style.edges) a.self.now.brush.scissors.now a.self.now.brush.ramp.now
    a.self.now.brush.mask.now call.new.row _ l.y _ _ through (rw l.invariant.1 at call.ensures.row_after) in (
      o.turn call.new.row drawn,
      call.ensures.scratch_unchanged ∙ l.invariant.1,
      call.auto.buffer ∙ l.invariant.2,
      call.auto.runs ∙ l.invariant.3,
    )

pub shape_of-surface : goal.shape_of-surface
shape_of-surface c =
    c.loop-y.invariant.0.long

pub shape_of-scratch : goal.shape_of-scratch
shape_of-scratch c =
    ap length c.loop-y.invariant.1

pub shape_of-buffer : goal.shape_of-buffer
shape_of-buffer c =
    c.loop-y.invariant.2

pub shape_of-runs : goal.shape_of-runs
shape_of-runs c =
    c.loop-y.invariant.3

pub returns : goal.returns
returns c =
    let a = c.args in
    let l = c.loop-y in
    record {
      scratch_unchanged = l.invariant.1;
      surface_after = rows_all a.self.now.target _ a.surface.now c.requires.part.0 l.invariant.0
          (omega (arith, c.loop-y-test.false));
    }
