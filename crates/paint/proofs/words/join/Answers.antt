-- `words::join` meets its contract: the words before i are written.
use Rattle.std.proofs.Common.{length, refl, arith, length-set}
use Rattle.lists.proofs.Laws.{tab_turn, tab_all}
use Rattle.paint.proofs.words.join.Goals as goal

pub loop-i-preserved : goal.loop-i-preserved
loop-i-preserved c =
    let l = c.loop-i in
    let a = c.args in (
      simp length-set (omega (arith, l.invariant.0)),
      tab_turn _ l.ws a.ws.now l.i c.joined.result c.joined.ensures l.invariant.1 (omega (arith, l.invariant.0)),
    )

pub returns : goal.returns
returns c =
    let l = c.loop-i in
    let a = c.args in
    tab_all _ l.ws a.ws.now l.i (length a.ws.now) l.invariant.1 (omega (arith, l.invariant.0)) refl
