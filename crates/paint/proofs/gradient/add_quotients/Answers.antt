-- `gradient::add_quotients` meets its contract: no sum overflows, by the sizes of the parts.
use Rattle.std.proofs.Common.{◌≡◌, true, false, w64}
use lib.Signed.{lt_z}
use Rattle.fixed.proofs.Means.{Num, need, keep, lit, add, sub}
use Rattle.paint.proofs.Sizes.{sized}
use Rattle.paint.proofs.gradient.add_quotients.Goals as goal
use Rattle.paint.proofs.gradient.add_quotients.Lts as lts
use Rattle.paint.proofs.gradient.add_quotients.Reads as reads

abbrev whole : lts.Start reads.Pre reads.Post → Num
whole c = add (sized 1152921504606846976 c.args.a.whole tt c.requires.0.whole) (sized 1152921504606846976 c.args.b.whole tt c.requires.1.whole)

abbrev rest : goal.After-struct_told-4-1 → Num
rest c = add (sized 1152921504606846976 c.args.a.rest tt c.requires.0.rest) (sized 1152921504606846976 c.args.b.rest tt c.requires.1.rest)

abbrev d : goal.After-struct_told-4-1 → Num
d c = sized 1152921504606846976 c.args.d tt c.requires.2

abbrev more : goal.After-struct_told-4-1 → Num
more c = add (keep w64 (whole c.before.before.before.before.before.before.before.before) tt) (lit 1)

abbrev less : goal.After-struct_told-4-1 → Num
less c = sub (keep w64 (rest c) tt) (d c)

below : (c : goal.Then-rest-d) → lt_z (rest c.before).int c.args.d ≡ true
below c = rw ((keep w64 (rest c.before) tt).same, (d c.before).same) at c.if-rest-d.true

from : (c : goal.Else-rest-d) → lt_z (rest c.before).int c.args.d ≡ false
from c = rw ((keep w64 (rest c.before) tt).same, (d c.before).same) at c.if-rest-d.false

pub overflow_add-whole : goal.overflow_add-whole
overflow_add-whole c =
    need (whole c.before.before.before.before.before) tt

pub overflow_add-rest : goal.overflow_add-rest
overflow_add-rest c =
    need (rest c) tt

pub overflow_add-result : goal.overflow_add-result
overflow_add-result c =
    need (more c.before) tt

pub overflow_sub-result : goal.overflow_sub-result
overflow_sub-result c =
    need (less c.before) tt

pub returns-then-rest-d : goal.returns-then-rest-d
returns-then-rest-d c =
    rw (below c) (λ i. record {
      whole = (keep w64 (whole c.before.before.before.before.before.before.before.before.before) tt).same i;
      rest = (keep w64 (rest c.before) tt).same i;
    })

pub returns-else-rest-d : goal.returns-else-rest-d
returns-else-rest-d c =
    rw (from c) (λ i. record { whole = (keep w64 (more c.before) tt).same i; rest = (keep w64 (less c.before) tt).same i })
