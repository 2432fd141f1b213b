-- `positions::is_on_ramp` meets its contract.
use Rattle.std.proofs.Common.{T, sym, ◌∙◌, subst, arith, w64}
use Rattle.fixed.proofs.Means.{Num, need, keep, of_nat, add, mul}
use Rattle.paint.proofs.Sizes.{sized}
use Rattle.paint.proofs.positions.is_on_ramp.Goals as goal

abbrev first : goal.Start → Num
first c = sized 2305843009213693952 c.args.first tt c.requires.0

abbrev growth : goal.Start → Num
growth c = mul (sized 18014398509481984 c.args.step tt c.requires.1) (of_nat w64 c.args.n 256 c.requires.2 tt)

abbrev end : goal.Start → Num
end c = add (first c) (keep w64 (growth c) tt)

pub overflow_cast-end : goal.overflow_cast-end
overflow_cast-end c =
    omega (arith, c.requires.2)

pub overflow_mul-end : goal.overflow_mul-end
overflow_mul-end c =
    need (growth c) tt

pub overflow_add-end : goal.overflow_add-end
overflow_add-end c =
    need (end c) tt

pub is_inner-requires : goal.is_inner-requires
is_inner-requires c =
    tt

pub is_inner-requires-then-is_inner : goal.is_inner-requires-then-is_inner
is_inner-requires-then-is_inner c =
    tt

pub returns-then-is_inner : goal.returns-then-is_inner
returns-then-is_inner c e = (
  rw (first c.before.before.before).same at (c.is_inner.ensures c.if-is_inner.true),
  rw (keep w64 (end c.before.before.before) tt).same at (c.is_inner-then-is_inner.ensures e),
)

pub returns-else-is_inner : goal.returns-else-is_inner
returns-else-is_inner c e =
    absurd (subst T (sym e ∙ c.if-is_inner.false) tt)
