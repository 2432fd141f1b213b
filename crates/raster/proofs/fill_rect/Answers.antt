-- `raster::fill_rect` meets its contract: the rows below y are filled.
use native.Mathlib.Omega.{arith}
use Rattle.raster.proofs.Rows.{Lent, rows_none, row_lent, rows_all}
use Rattle.raster.proofs.fill_rect.Goals as goal

lent : (c : goal.After-struct_known-in-loop-y-1)
    → let a = c.args in
    let r = c.row_bytes-r.result in
    Lent a.t (λ u v q. a.p) a.s.now c.loop-y.y c.loop-y.s r.from r.to
lent c =
    let a = c.args in
    let r = c.row_bytes-r in
    row_lent a.t (λ u v q. a.p) a.s.now c.requires c.loop-y.invariant c.loop-y-test.true r.result.from r.result.to
    r.ensures.from_value r.ensures.to_value

pub loop-y-init : goal.loop-y-init
loop-y-init c =
    let a = c.args in
    rows_none a.t (λ u v q. a.p) a.s.now c.requires

pub row_bytes-r-requires : goal.row_bytes-r-requires
row_bytes-r-requires c =
    (c.requires.placed, c.loop-y-test.true)

pub slice_bounds-fill_row-start : goal.slice_bounds-fill_row-start
slice_bounds-fill_row-start c =
    (lent c).across

pub slice_bounds-fill_row-end : goal.slice_bounds-fill_row-end
slice_bounds-fill_row-end c =
    (lent c).within

pub fill_row-requires : goal.fill_row-requires
fill_row-requires c =
    (lent c.before).long

pub loop-y-preserved : goal.loop-y-preserved
loop-y-preserved c =
    let call = c.fill_row in
    (lent c.before.before.before.before.before).turn call.new.s call.ensures

pub shape_of-s : goal.shape_of-s
shape_of-s c =
    c.loop-y.invariant.long

pub returns : goal.returns
returns c =
    let a = c.args in
    rows_all a.t (λ u v q. a.p) a.s.now c.requires c.loop-y.invariant (omega arith)
