-- `words::mix_under_alpha` meets its contract: the pairs before i are written.
use Rattle.std.proofs.Common.{length, refl, ap, ◌∙◌, arith, length-set}
use Rattle.lists.proofs.Laws.{tab_turn, tab_all, tab_read}
use Rattle.paint.specs.Segments.{mix_pair}
use Rattle.paint.proofs.words.mix_under_alpha.Goals as goal

pub loop-i-preserved : goal.loop-i-preserved
loop-i-preserved c =
    let l = c.loop-i in
    let a = c.args in (
      simp length-set (omega (arith, l.invariant.0)),
      tab_turn _ l.ts a.ts.now l.i c.mixed_under_alpha.result
          (c.mixed_under_alpha.ensures ∙ ap (mix_pair a.ci a.cj a.a a.a) (tab_read _ l.ts a.ts.now l.i 0 l.invariant.1))
          l.invariant.1 (omega (arith, l.invariant.0)),
    )

pub returns : goal.returns
returns c =
    let l = c.loop-i in
    let a = c.args in
    tab_all _ l.ts a.ts.now l.i (length a.ts.now) l.invariant.1 (omega (arith, l.invariant.0)) refl
