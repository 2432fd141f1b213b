-- `path::transform::axis` meets its contract: no step overflows, by the sizes that it asks. Assumes nothing.
use mir.Syntax.{w32, w64}
use Rattle.fixed.proofs.Means.{Num, need, keep, small, lit, add, mul, shr}
use Rattle.path.proofs.transform.axis.Goals as goal

-- the expression's parts, each as a local holds it
abbrev a : goal.Start → Num
a c = small w64 16777216 c.args.a c.ranges.a (record { size = c.requires.a_bound.0 })

abbrev b : goal.Start → Num
b c = small w64 16777216 c.args.b c.ranges.b (record { size = c.requires.a_bound.1 })

abbrev t : goal.Start → Num
t c = small w64 2147483648 c.args.t c.ranges.t (record { size = c.requires.a_bound.2 })

abbrev x : goal.Start → Num
x c = small w32 32768 c.args.x c.ranges.x (record { size = c.requires.x_bound.0 })

abbrev y : goal.Start → Num
y c = small w32 32768 c.args.y c.ranges.y (record { size = c.requires.x_bound.1 })

abbrev ax : goal.Start → Num
ax c = mul (a c) (keep w64 (x c) tt)

abbrev by : goal.Start → Num
by c = mul (b c) (keep w64 (y c) tt)

abbrev sum : goal.Start → Num
sum c = add (keep w64 (ax c) tt) (keep w64 (by c) tt)

abbrev moved : goal.Start → Num
moved c = add (keep w64 (sum c) tt) (t c)

abbrev half : goal.Start → Num
half c = add (keep w64 (moved c) tt) (lit 128)

pub overflow_add-result : goal.overflow_add-result
overflow_add-result c =
    need (sum c) tt

pub overflow_add-result-2 : goal.overflow_add-result-2
overflow_add-result-2 c =
    need (moved c) tt

pub overflow_add-result-3 : goal.overflow_add-result-3
overflow_add-result-3 c =
    need (half c) tt

pub returns : goal.returns
returns c =
    (keep w64 (shr (keep w64 (half c) tt) 256) tt).same
