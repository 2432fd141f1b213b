-- `coverage::clip::scissor_box` meets its contract. Assumes nothing.
use mathlib.Core.Path.{◌≡◌, ap, ap₂, ◌∙◌}
use mathlib.Core.List.{List}
use Prim.Native.Nat.{ℕ, ◌+◌}
use native.Mathlib.Omega.{arith}
use native.Mathlib.Numerals.{add-one}
use Rattle.rect.specs.Rects.{join_of}
use Rattle.coverage.specs.Clips.{scissor_rect, scissor_box}
use Rattle.coverage.proofs.clip.scissor_box.Goals as goal

one_more : (s : List ℕ) (i : ℕ) → join_of (scissor_box s i) (scissor_rect s i) ≡ scissor_box s (i + 1)
one_more s i = rw add-one

pub loop-i-preserved : goal.loop-i-preserved
loop-i-preserved c =
    let l = c.loop-i in
    let s = c.args.scissors.now in
    c.join-b.ensures ∙ ap₂ join_of l.invariant c.scissor_rect.ensures ∙ one_more s l.i

pub returns : goal.returns
returns c =
    let l = c.loop-i in
    let a = c.args in
    let all : l.i ≡ a.n = omega arith in
    l.invariant ∙ ap (scissor_box a.scissors.now) all
