-- `blend::over_row` meets its contract: the bytes before i are blended, and the others are as they were. Assumes nothing.
use mathlib.Core.Path.{◌≡◌, ap, ◌∙◌}
use Prim.Native.Nat.{ℕ, ◌*◌}
use native.Mathlib.Omega.{arith}
use lib.ListN.{length, get_or, length-set}
use Rattle.lists.proofs.Laws.{tab_turn, tab_all, tab_read}
use Rattle.raster.specs.Surface.{pixel_in}
use Rattle.raster.proofs.Pixels.{run_length}
use Rattle.blend.specs.PorterDuff.{blended}
use Rattle.blend.specs.Spans.{keep_pixel}
use Rattle.blend.proofs.Bytes.{over_at, over_bytes}
use Rattle.blend.proofs.bytewise.over_row.Goals as goal

pub bounds-keep-i : goal.bounds-keep-i
bounds-keep-i c =
    let a = c.args in
    let wide : length a.keep.now ≡ a.n * 4 = ap length c.requires.keep_value ∙ run_length a.n (λ i. keep_pixel (pixel_in a.src.now i)) in
    omega arith

pub loop-i-preserved : goal.loop-i-preserved
loop-i-preserved c =
    let a = c.args in
    let l = c.loop-i in
    let f : ℕ → ℕ = over_at a.src.now a.keep.now a.row.now in (
      simp length-set (omega arith),
      tab_turn f l.row a.row.now l.i c.over_byte.result
          (c.over_byte.ensures
          ∙ ap (λ (d : ℕ). blended (get_or a.src.now l.i 0) 255 d (get_or a.keep.now l.i 0)) (tab_read f l.row a.row.now l.i 0 l.invariant.1))
          l.invariant.1 (omega (arith, c.requires)),
    )

pub returns : goal.returns
returns c =
    let a = c.args in
    let l = c.loop-i in
    tab_all (over_at a.src.now a.keep.now a.row.now) l.row a.row.now l.i (a.n * 4) l.invariant.1 (omega arith) (omega (arith, c.requires))
    ∙ over_bytes a.n a.src.now a.keep.now a.row.now c.requires.keep_value
