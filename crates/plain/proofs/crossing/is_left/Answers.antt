-- `plain::crossing::is_left` meets its contract. Assumes nothing. No step overflows, by the sizes of the coordinates.
use mathlib.Core.Path.{ap₂}
use lib.Signed.{le_z}
use mir.Syntax.{w32, w64}
use Rattle.fixed.proofs.Means.{Num, need, keep, small, sub, mul}
use Rattle.plain.proofs.crossing.is_left.Goals as goal

abbrev x0 : goal.Start → Num
x0 c = small w32 8388608 c.args.x0 c.ranges.x0 (record { size = c.requires.0 })

abbrev y0 : goal.Start → Num
y0 c = small w32 8388608 c.args.y0 c.ranges.y0 (record { size = c.requires.1 })

abbrev x1 : goal.Start → Num
x1 c = small w32 8388608 c.args.x1 c.ranges.x1 (record { size = c.requires.2 })

abbrev y1 : goal.Start → Num
y1 c = small w32 8388608 c.args.y1 c.ranges.y1 (record { size = c.requires.3 })

abbrev x : goal.Start → Num
x c = small w32 8388608 c.args.x c.ranges.x (record { size = c.requires.4 })

abbrev y : goal.Start → Num
y c = small w32 8388608 c.args.y c.ranges.y (record { size = c.requires.5 })

abbrev rise : goal.Start → Num
rise c = sub (keep w64 (y c) tt) (keep w64 (y0 c) tt)

abbrev run : goal.Start → Num
run c = sub (keep w64 (x1 c) tt) (keep w64 (x0 c) tt)

abbrev past : goal.Start → Num
past c = sub (keep w64 (x c) tt) (keep w64 (x0 c) tt)

abbrev height : goal.Start → Num
height c = sub (keep w64 (y1 c) tt) (keep w64 (y0 c) tt)

abbrev a : goal.Start → Num
a c = mul (keep w64 (rise c) tt) (keep w64 (run c) tt)

abbrev b : goal.Start → Num
b c = mul (keep w64 (past c) tt) (keep w64 (height c) tt)

pub overflow_cast-a : goal.overflow_cast-a
overflow_cast-a c =
    need (y c) tt

pub overflow_cast-a-2 : goal.overflow_cast-a-2
overflow_cast-a-2 c =
    need (y0 c) tt

pub overflow_sub-a : goal.overflow_sub-a
overflow_sub-a c =
    need (rise c) tt

pub overflow_cast-a-3 : goal.overflow_cast-a-3
overflow_cast-a-3 c =
    need (x1 c) tt

pub overflow_cast-a-4 : goal.overflow_cast-a-4
overflow_cast-a-4 c =
    need (x0 c) tt

pub overflow_sub-a-2 : goal.overflow_sub-a-2
overflow_sub-a-2 c =
    need (run c) tt

pub overflow_mul-a : goal.overflow_mul-a
overflow_mul-a c =
    need (a c) tt

pub overflow_cast-b : goal.overflow_cast-b
overflow_cast-b c =
    need (x c) tt

pub overflow_cast-b-2 : goal.overflow_cast-b-2
overflow_cast-b-2 c =
    need (x0 c) tt

pub overflow_sub-b : goal.overflow_sub-b
overflow_sub-b c =
    need (past c) tt

pub overflow_cast-b-3 : goal.overflow_cast-b-3
overflow_cast-b-3 c =
    need (y1 c) tt

pub overflow_cast-b-4 : goal.overflow_cast-b-4
overflow_cast-b-4 c =
    need (y0 c) tt

pub overflow_sub-b-2 : goal.overflow_sub-b-2
overflow_sub-b-2 c =
    need (height c) tt

pub overflow_mul-b : goal.overflow_mul-b
overflow_mul-b c =
    need (b c) tt

pub returns : goal.returns
returns c =
    ap₂ le_z (keep w64 (a c) tt).same (keep w64 (b c) tt).same
