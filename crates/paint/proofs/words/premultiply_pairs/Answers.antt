-- `words::premultiply_pairs` meets its contract: the pairs before i are written.
use Rattle.std.proofs.Common.{◌≡◌, ℕ, length, sym, refl, ap, ◌∙◌, ap₂, arith, length-set}
use Rattle.lists.proofs.Laws.{tab_turn, tab_all, tab_read}
use Rattle.color.specs.Channels.{premultiplied}
use Rattle.paint.specs.Segments.{left_pair, right_pair, of_pairs}
use Rattle.paint.proofs.words.premultiply_pairs.Goals as goal

pub loop-i-preserved : goal.loop-i-preserved
unfolding right_pair
loop-i-preserved c =
    let l = c.loop-i in
    let a = c.args in
    let left = tab_read _ l.left a.left.now l.i 0 l.invariant.2 in
    let right = tab_read _ l.right a.right.now l.i 0 l.invariant.3 in (
      simp length-set (omega (arith, l.invariant.0)),
      simp length-set (omega (arith, l.invariant.1)),
      tab_turn _ l.left a.left.now l.i c.premultiplied_left.result
          (c.premultiplied_left.ensures ∙ ap₂ (λ (x y : ℕ). left_pair (premultiplied (of_pairs x y))) left right)
          l.invariant.2 (omega (arith, c.loop-i-test.true, l.invariant.0)),
      tab_turn _ l.right a.right.now l.i c.premultiplied_right.result
          (c.premultiplied_right.ensures ∙ ap (λ (y : ℕ). right_pair (premultiplied (of_pairs 0 y))) right)
          l.invariant.3 (omega (arith, c.loop-i-test.true, l.invariant.0, c.requires.0)),
    )

pub returns : goal.returns
returns c =
    let l = c.loop-i in
    let a = c.args in
    let n = length a.left.now in
    let e : l.i ≡ n = omega (arith, c.loop-i-test.false, l.invariant.0) in
    record {
      left_after = tab_all _ l.left a.left.now l.i n l.invariant.2 e refl;
      right_after = tab_all _ l.right a.right.now l.i n l.invariant.3 e
          (sym c.requires.0);
    }
