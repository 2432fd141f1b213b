-- `chord::columns_from` meets its contract: no step overflows, by the sizes of the parameters.
use Rattle.std.proofs.Common.{ℕ, ℤ, ap, ◌∙◌, ap₂, arith, w64}
use Rattle.fixed.proofs.Means.{Num, need, keep, lit, of_nat, add, sub}
use Rattle.paint.specs.Circles.{first_from}
use Rattle.paint.specs.declared.Columns.{Columns}
use Rattle.paint.proofs.Sizes.{sized}
use Rattle.paint.proofs.chord.columns_from.Goals as goal

abbrev reach : goal.Start → Num
reach c = of_nat w64 c.args.s 1073741824 c.requires.1 tt

abbrev ex : goal.Start → Num
ex c = sized 32776 c.args.ex tt c.requires.0

abbrev back : goal.Start → Num
back c = sub (lit 0) (reach c)

abbrev left : goal.Start → Num
left c = sub (keep w64 (back c) tt) (ex c)

abbrev ahead : goal.Start → Num
ahead c = sub (reach c) (ex c)

abbrev right : goal.Start → Num
right c = add (keep w64 (ahead c) tt) (lit 1)

pub overflow_sub-reach : goal.overflow_sub-reach
overflow_sub-reach c =
    need (back c) tt

pub overflow_sub-reach-2 : goal.overflow_sub-reach-2
overflow_sub-reach-2 c =
    need (left c) tt

pub first_from-requires : goal.first_from-requires
first_from-requires c =
    rw (keep w64 (left c) tt).same (omega (arith, (left c).size.size))

pub overflow_sub-reach-3 : goal.overflow_sub-reach-3
overflow_sub-reach-3 c =
    need (ahead c.before) tt

pub overflow_add-reach : goal.overflow_add-reach
overflow_add-reach c =
    need (right c.before) tt

pub first_from-requires-2 : goal.first_from-requires-2
first_from-requires-2 c =
    rw (keep w64 (right c.before) tt).same (omega (arith, (right c.before).size.size))

pub returns : goal.returns
returns c =
    let at : ℤ → ℕ = λ z. first_from z c.args.n in
    let columns : ℕ → ℕ → Columns = λ i j. record { from = i; to = j } in
    ap₂ columns (c.first_from.ensures ∙ ap at (keep w64 (left c.before.before) tt).same) (c.first_from-2.ensures
    ∙ ap at (keep w64 (right c.before.before) tt).same)
