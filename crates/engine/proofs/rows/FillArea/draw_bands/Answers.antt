-- `rows::FillArea::draw_bands` meets its contract: the rows of the bands before y are drawn.
use mathlib.Core.List.{List}
use mathlib.Core.Path.{refl, sym, ap, subst, ◌∙◌}
use Prim.Native.Nat.{◌-◌, ◌*◌}
use native.Mathlib.Omega.{arith}
use lib.IntN.{ℤ}
use lib.ListN.{length, take, drop}
use Rattle.raster.specs.Rows.{Part}
use Rattle.raster.specs.declared.Target.{Target}
use Rattle.raster.proofs.Rows.{rows_none, rows_all}
use Rattle.coverage.specs.Scanline.{Outlined}
use Rattle.coverage.specs.Band.{Band}
use Rattle.engine.specs.Rows.{RowRoom, MaskFor}
use Rattle.engine.proofs.RowLaws.{first_of, same_steps}
use Rattle.engine.proofs.Bands.{band_part, rows_band}
use Rattle.engine.proofs.rows.FillArea.draw_bands.Goals as goal

pub loop-y-init : goal.loop-y-init
loop-y-init c =
    let a = c.args in
    (rows_none a.self.now.target _ a.surface.now c.requires.part.0, refl, refl, refl, refl)

pub overflow_add-y : goal.overflow_add-y
overflow_add-y c =
    let placed = c.requires.part.0.placed in
    omega (arith, placed.high, placed.on.high, c.loop-y-test.true)

pub filter_edges-count-requires : goal.filter_edges-count-requires
filter_edges-count-requires c =
    let least = c.min-end in
    let placed = c.requires.part.0.placed in
    let n = c.args.self.now.brush.style.edges in
    record {
      outlined = subst (λ (z : List ℤ). Outlined z n) (sym c.loop-y.invariant.1) c.requires.outlined.0;
      from_lt_end = (
        omega (arith, least.ensures, c.loop-y-test.true),
        omega (arith, least.ensures, placed.high, placed.on.high),
        omega (arith, c.loop-y.invariant.2, c.requires.outlined.1),
      );
    }

pub invariant_of-band : goal.invariant_of-band
invariant_of-band c =
    let s = c.args.self.now in
    record { masked = subst (λ (z : Target). MaskFor s.brush.style.masked (z.height * z.width) s.brush.mask.now) (sym c.rows_of.ensures) s.masked }

pub draw_rows-requires : goal.draw_rows-requires
draw_rows-requires c =
    let rows = sym c.rows_of.ensures in
    let l = c.loop-y in
    let a = c.args in
    let t = a.self.now.target in
    let n = a.self.now.brush.style.edges in
    let end = c.min-end in
    let found = c.filter_edges-count in
    record {
      outlined = (
        subst (λ (z : List ℤ). Outlined z n) (sym l.invariant.1) c.requires.outlined.0,
        subst (λ (z : Target). Band l.scratch n z.area.y0 z.area.y1 (take (found.result - 0) (drop 0 found.new.list))) rows
            (subst (Band l.scratch n l.y end.result) (sym (first_of found.new.list found.result)) found.ensures.band),
      );
      part = (
        subst (λ (z : Target). Part z l.surface) rows
            (band_part t _ a.surface.now c.requires.part.0 l.invariant.0 end.result (omega (arith, end.ensures, c.loop-y-test.true))
            (omega (arith, end.ensures))),
        subst (λ (z : Target). RowRoom (z.area.x1 - z.area.x0) l.buffer l.runs) rows
            (l.invariant.3 ∙ c.requires.part.1.0, l.invariant.4 ∙ c.requires.part.1.1),
      );
    }

pub loop-y-smaller : goal.loop-y-smaller
loop-y-smaller c =
    omega (arith, c.min-end.ensures, c.loop-y-test.true)

pub loop-y-preserved : goal.loop-y-preserved
loop-y-preserved c =
    let call = c.draw_rows in
    let l = c.loop-y in
    let a = c.args in
    let b = a.self.now.brush in
    let end = c.min-end in
    let drawn = same_steps b.style b.style.edges b.scissors.now b.ramp.now b.mask.now l.surface call.new.surface c.rows_of.ensures l.invariant.1
    call.ensures.surface_after in (
      rows_band a.self.now.target _ a.surface.now c.requires.part.0 l.invariant.0 end.result (omega (arith, end.ensures, c.loop-y-test.true))
          (omega (arith, end.ensures)) call.new.surface drawn,
      call.ensures.scratch_unchanged ∙ l.invariant.1,
      c.filter_edges-count.auto.list ∙ l.invariant.2,
      call.auto.buffer ∙ l.invariant.3,
      call.auto.runs ∙ l.invariant.4,
    )

pub shape_of-surface : goal.shape_of-surface
shape_of-surface c =
    c.loop-y.invariant.0.long

pub shape_of-scratch : goal.shape_of-scratch
shape_of-scratch c =
    ap length c.loop-y.invariant.1

pub shape_of-list : goal.shape_of-list
shape_of-list c =
    c.loop-y.invariant.2

pub shape_of-buffer : goal.shape_of-buffer
shape_of-buffer c =
    c.loop-y.invariant.3

pub shape_of-runs : goal.shape_of-runs
shape_of-runs c =
    c.loop-y.invariant.4

pub returns : goal.returns
returns c =
    let a = c.args in
    let l = c.loop-y in
    record {
      scratch_unchanged = l.invariant.1;
      surface_after = rows_all a.self.now.target _ a.surface.now c.requires.part.0 l.invariant.0 (omega (arith, c.loop-y-test.false));
    }
