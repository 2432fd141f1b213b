-- `words::take_ts` meets its contract: the first i t's are written.
use Rattle.std.proofs.Common.{length, sym, ◌∙◌, arith, length-set}
use Rattle.lists.proofs.Laws.{tab_turn, tab_all}
use Rattle.paint.proofs.words.take_ts.Goals as goal

pub loop-i-preserved : goal.loop-i-preserved
loop-i-preserved c =
    let l = c.loop-i in
    let a = c.args in
    let t = c.on_ramp-t in (
      simp length-set (omega (arith, l.invariant.0)),
      simp length-set (omega (arith, l.invariant.1)),
      tab_turn _ l.left a.left.now l.i t.result t.ensures l.invariant.2 (omega (arith, c.loop-i-test.true, c.requires.0)),
      tab_turn _ l.right a.right.now l.i t.result t.ensures l.invariant.3 (omega (arith, c.loop-i-test.true, c.requires.1)),
    )

pub returns : goal.returns
returns c =
    let l = c.loop-i in
    let a = c.args in
    let n = length a.ks.now in
    let left = tab_all _ l.left a.left.now l.i n l.invariant.2 (omega (arith, c.loop-i-test.false)) (sym c.requires.0) in
    let right = tab_all _ l.right a.right.now l.i n l.invariant.3 (omega (arith, c.loop-i-test.false)) (sym c.requires.1) in
    record { left_after = left; right_after = right ∙ sym left }
