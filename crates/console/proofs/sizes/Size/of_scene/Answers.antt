use mathlib.Core.Path.{◌≡◌, sym, ◌∙◌}
use mathlib.Core.Bool.{cond, ◌||◌, or-true}
use mathlib.Core.List.{List}
use Prim.Native.Nat.{ℕ, ◌≤◌}
use lib.Dec.{ltb}
use lib.ListN.{length}
use Rattle.std.proofs.Common.{arith, None, Some}
use Rattle.scene.specs.Layout.{block_bytes, side_limit}
use Rattle.scene.specs.Header.{width_of, height_of}
use Rattle.console.specs.Sizes.{picture_size}
use borrow.Author.Tests.{lt-ltb, le-ltb}
use Rattle.console.proofs.sizes.Size.of_scene.Goals as goal
use Rattle.console.proofs.sizes.Size.of_scene.Goals.{then-width-via-then-width, then-width-via-else-width+then-height}

sized : (s : List ℕ) (w h : ℕ) → block_bytes ≤ length s → w ≡ width_of s → h ≡ height_of s
    → picture_size s ≡ cond (ltb side_limit w || ltb side_limit h) None (Some (record { width = w; height = h }))
unfolding picture_size
sized s w h l e f = rw (le-ltb (length s) block_bytes l, e, f)

pub returns-then-scene-lt-BLOCK_BYTES-clause-value : goal.returns-then-scene-lt-BLOCK_BYTES-clause-value
unfolding picture_size
returns-then-scene-lt-BLOCK_BYTES-clause-value c = rw (lt-ltb _ _ c.if-scene-lt-BLOCK_BYTES.true)

pub returns-then-width-clause-value : goal.returns-then-width-clause-value
returns-then-width-clause-value c =
    let w = c.width-width in
    let h = c.height-height in
    let e = sized _ w.result h.result c.if-scene-lt-BLOCK_BYTES.false w.ensures.0 h.ensures.0 in
    elim c.then-width.branch [
      | then-width-via-then-width v ↦ sym (e ∙ rw (lt-ltb side_limit w.result (omega (arith, v.if-width.true))))
      | then-width-via-else-width+then-height v ↦
          sym (e ∙ rw (lt-ltb side_limit h.result (omega (arith, v.if-height.true)), or-true (ltb side_limit w.result)))
    ]

pub returns-clause-value : goal.returns-clause-value
returns-clause-value c =
    let w = c.width-width in
    let h = c.height-height in
    let e = sized _ w.result h.result c.if-scene-lt-BLOCK_BYTES.false w.ensures.0 h.ensures.0 in
    sym (e ∙ rw (le-ltb side_limit w.result (omega (arith, c.if-width.false)), le-ltb side_limit h.result (omega (arith, c.if-height.false))))
