use mathlib.Core.Path.{◌≡◌, refl, ap, ◌∙◌}
use mathlib.Core.List.{[], ◌∷◌, ◌++◌}
use Prim.Native.Nat.{◌+◌, ◌-◌, ◌*◌}
use native.Mathlib.Omega.{arith}
use Rattle.lists.proofs.Laws.{emit_part, emit_all, part_length}
use Rattle.raster.specs.Surface.{pixel_in}
use Rattle.text.specs.Text.{pixel_text, cell_text, row_text}
use Rattle.text.proofs.row.Goals as goal

pub put_pixel-requires : goal.put_pixel-requires
put_pixel-requires c =
    let l = c.loop-x in
    part_length l.out (l.x * 9) (l.x * 9 + 9) (omega arith) (omega arith) ∙ omega arith

pub loop-x-preserved : goal.loop-x-preserved
loop-x-preserved c =
    let l = c.loop-x in
    let a = c.args in
    let p = c.put_pixel in
    let f = cell_text a.n a.pixels.now in
    let q : p.new.out ≡ f l.x =
    p.ensures ∙ ap (λ t. pixel_text t ++ (c.separator.result ∷ [])) c.pixel.ensures
    ∙ ap (λ t. pixel_text (pixel_in a.pixels.now l.x) ++ (t ∷ [])) c.separator.ensures in
    let o = emit_part 9 f l.out a.out.now p.new.out l.x (l.x * 9) (l.x + 1) (l.x * 9 + 9 - l.x * 9) (λ k. refl) q l.invariant refl refl
    (omega arith) (omega arith) in
    o

pub returns : goal.returns
unfolding row_text
returns c =
    let l = c.loop-x in
    let a = c.args in
    emit_all 9 (cell_text a.n a.pixels.now) l.out a.out.now l.x a.n (λ k. refl) l.invariant (omega arith) (omega arith)
