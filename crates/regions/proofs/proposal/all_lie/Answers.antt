use mathlib.Core.Path.{◌≡◌, sym, ◌∙◌}
use native.Mathlib.Omega.{arith}
use Rattle.regions.proofs.Every.{every_turn, every_no, of_not, of_not_no}
use Rattle.regions.specs.Proposals.{lies_in}
use Rattle.regions.proofs.proposal.all_lie.Goals as goal

pub returns-then-not-lies_in : goal.returns-then-not-lies_in
returns-then-not-lies_in c =
    let l = c.loop-k in
    let a = c.args in
    sym (every_no (lies_in a.w a.h a.s.now) a.n l.k (omega arith) (sym c.lies_in.ensures ∙ of_not _ c.if-not-lies_in.true-raw))

pub loop-k-preserved : goal.loop-k-preserved
loop-k-preserved c =
    let l = c.loop-k in
    let a = c.args in
    every_turn (lies_in a.w a.h a.s.now) l.k l.invariant (sym c.lies_in.ensures ∙ of_not_no _ c.if-not-lies_in.false-raw)

pub returns : goal.returns
returns c =
    let l = c.loop-k in
    let e : l.k ≡ c.args.n = omega arith in
    sym (rw e at l.invariant)
