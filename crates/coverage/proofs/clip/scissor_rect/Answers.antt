-- `coverage::clip::scissor_rect` meets its contract. Assumes nothing.
use mathlib.Core.Path.{◌≡◌, ap₂, ◌∙◌}
use Prim.Native.Nat.{◌+◌, ◌*◌}
use mir.Syntax.{w32, w64}
use mir.Val.{to_z, of_z}
use mir.Facts.{to_z-of_z}
use Rattle.fixed.specs.Little.{i32_at}
use Rattle.fixed.proofs.Signed.{back}
use Rattle.coverage.specs.Scanline.{run_of}
use Rattle.coverage.specs.Clips.{scissor_rect}
use borrow.Author.Rules.{sfits_of}
use Rattle.coverage.proofs.clip.scissor_rect.Goals as goal
use Rattle.coverage.proofs.clip.scissor_rect.Tie as tie
use Rattle.coverage.proofs.clip.scissor_rect.Lts as lts
use Rattle.coverage.proofs.clip.scissor_rect.Reads as reads

-- the columns of the scissor, and its rows
columns : (c : lts.After-run tie.the-claims reads.Pre reads.Post)
    → let a = c.args in
    c.run-columns.result ≡ run_of (i32_at a.scissors.now (16 * a.i)) (i32_at a.scissors.now (16 * a.i + 8))
columns c =
    let p = c.i32_at in
    let q = c.i32_at-2 in
    c.run-columns.ensures ∙ ap₂ run_of (back w32 p.result p.type_inv ∙ p.ensures) (back w32 q.result q.type_inv ∙ q.ensures)

rows : (c : lts.After-run2 tie.the-claims reads.Pre reads.Post)
    → let a = c.args in
    c.run-rows.result ≡ run_of (i32_at a.scissors.now (16 * a.i + 4)) (i32_at a.scissors.now (16 * a.i + 12))
rows c =
    let p = c.i32_at-3 in
    let q = c.i32_at-4 in
    c.run-rows.ensures ∙ ap₂ run_of (back w32 p.result p.type_inv ∙ p.ensures) (back w32 q.result q.type_inv ∙ q.ensures)

pub returns : goal.returns
unfolding scissor_rect
returns c =
    let y1 = c.pixel-4 in
    let x1 = c.pixel-3 in
    let y0 = c.pixel-2 in
    let x0 = c.pixel in
    let p = c.struct_told-1.given in
    let q = c.struct_told-2-1.given in
    let a = c.run-columns.result in
    let b = c.run-rows.result in
    let left : to_z w64 (of_z w64 a.start) ≡ a.start = to_z-of_z {w = w64} (sfits_of p.0.1) in
    let right : to_z w64 (of_z w64 a.end) ≡ a.end = to_z-of_z {w = w64} (sfits_of p.1.0.1) in
    let low : to_z w64 (of_z w64 b.start) ≡ b.start = to_z-of_z {w = w64} (sfits_of q.0.1) in
    let high : to_z w64 (of_z w64 b.end) ≡ b.end = to_z-of_z {w = w64} (sfits_of q.1.0.1) in
    rw (
      x0.ensures,
      y0.ensures,
      x1.ensures,
      y1.ensures,
      left,
      right,
      low,
      high,
      columns c.before.before.before.before.before.before.before.before.before.before.before.before,
      rows c.before.before.before.before.before.before.before.before.before,
    )
