-- `plain::pixels::LaidDraw::draw` meets its contract. Assumes nothing.
use mathlib.Core.Path.{◌≡◌, ap₂, ◌∙◌}
use Prim.Native.Nat.{ℕ, ◌*◌, ◌/◌, ◌%◌}
use native.Mathlib.Omega.{arith}
use Rattle.color.specs.declared.Pixel.{Pixel}
use Rattle.raster.specs.Surface.{pixel_in}
use Rattle.raster.proofs.Runs.{stored_none, stored_step, stored_all}
use Rattle.path.specs.Stored.{edges_of}
use Rattle.engine.specs.Picture.{mask_at}
use Rattle.engine.specs.Rows.{mask_with}
use Rattle.plain.specs.Asked.{step_at}
use Rattle.plain.proofs.Pixelwise.{few_pixels, some_width, column_in_lem, row_in, own_byte}
use Rattle.plain.proofs.pixels.LaidDraw.draw.Goals as goal

pub overflow_mul-n : goal.overflow_mul-n
overflow_mul-n c =
    let p = c.requires.surface_len in
    record { fits = omega (arith, few_pixels c.args.width c.args.height p.1 p.2) }

pub loop-i-init : goal.loop-i-init
loop-i-init c =
    stored_none _ _

pub mask_byte-m-requires : goal.mask_byte-m-requires
mask_byte-m-requires c =
    λ e. omega (arith, c.requires.mask_for e, c.loop-i-test.true)

pub nonzero_rem-i : goal.nonzero_rem-i
nonzero_rem-i c =
    let a = c.args in
    some_width a.width a.height c.loop-i.i c.loop-i-test.true

pub nonzero_div-i : goal.nonzero_div-i
nonzero_div-i c =
    let a = c.args in
    some_width a.width a.height c.loop-i.i c.loop-i-test.true

pub pixel-requires : goal.pixel-requires
pixel-requires c =
    omega (arith, c.requires.surface_len.0, c.loop-i-test.true, c.loop-i.invariant.long)

pub step-p-requires : goal.step-p-requires
step-p-requires c =
    let a = c.args in
    let p = c.requires in
    let x = column_in_lem a.width a.height c.loop-i.i c.loop-i-test.true in
    let y = row_in a.width a.height c.loop-i.i c.loop-i-test.true in
    (omega (arith, x, p.surface_len.1), omega (arith, y, p.surface_len.2))

pub put_pixel-requires : goal.put_pixel-requires
put_pixel-requires c =
    omega (arith, c.requires.surface_len.0, c.loop-i-test.true, c.loop-i.invariant.long)

pub loop-i-preserved : goal.loop-i-preserved
loop-i-preserved c =
    let put = c.put_pixel in
    let step = c.step-p in
    let pixel = c.pixel in
    let byte = c.mask_byte-m in
    let l = c.loop-i in
    let a = c.args in
    let w = a.width in
    let f : ℕ → Pixel → Pixel = λ j. step_at a.self.now.brush.style
    (edges_of a.self.now.scratch.now a.self.now.brush.style.edges) a.self.now.brush.scissors.now a.self.now.brush.ramp.now
    (mask_with a.self.now.brush.style (mask_at w a.self.now.brush.mask.now (j % w) (j / w))) (j % w) (j / w) in
    let made : step.result ≡ f l.i (pixel_in l.surface l.i) = step.ensures
    ∙ ap₂ (λ (m : ℕ) (q : Pixel). step_at a.self.now.brush.style
    (edges_of a.self.now.scratch.now a.self.now.brush.style.edges) a.self.now.brush.scissors.now a.self.now.brush.ramp.now m (l.i % w) (l.i / w) q)
    (byte.ensures ∙ own_byte a.self.now.brush.style.masked a.self.now.brush.mask.now w l.i) pixel.ensures in
    stored_step f l.invariant put.new.s step.result put.ensures made (omega (arith, c.requires.surface_len.0, c.loop-i-test.true))

pub shape_of-surface : goal.shape_of-surface
shape_of-surface c =
    c.loop-i.invariant.long

pub returns : goal.returns
returns c =
    let l = c.loop-i in
    stored_all l.invariant (c.args.height * c.args.width) (omega (arith, c.loop-i-test.false)) c.requires.surface_len.0
