-- `coverage::column::rise` meets its contract: no step overflows, by the sizes of the coordinates. Assumes nothing.
use mathlib.Core.Path.{◌≡◌, sym, subst}
use native.Mathlib.Omega.{arith}
use lib.IntN.{ℤ}
use mir.Syntax.{w32, w64}
use Rattle.fixed.proofs.Means.{Num, need, keep, small, lit, add, sub, mul}
use Rattle.coverage.specs.declared.Rise.{Rise}
use Rattle.coverage.specs.Scanline.{rise_of, Sloped}
use Rattle.coverage.proofs.Crossing.{rise_of_lem}
use Rattle.coverage.proofs.column.rise.Goals.{Start}
use Rattle.coverage.proofs.column.rise.Goals as goal

abbrev x0 : Start → Num
x0 c = small w32 8388608 c.args.x0 c.ranges.x0 (record { size = c.requires.x0_bound.0 })

abbrev y0 : Start → Num
y0 c = small w32 8388608 c.args.y0 c.ranges.y0 (record { size = c.requires.x0_bound.1 })

abbrev x1 : Start → Num
x1 c = small w32 8388608 c.args.x1 c.ranges.x1 (record { size = c.requires.x0_bound.2 })

abbrev y1 : Start → Num
y1 c = small w32 8388608 c.args.y1 c.ranges.y1 (record { size = c.requires.x0_bound.3 })

abbrev y : Start → Num
y c = small w32 8388608 c.args.y c.ranges.y (record { size = c.requires.x0_bound.4 })

abbrev d : Start → Num
d c = sub (keep w64 (y1 c) tt) (keep w64 (y0 c) tt)

abbrev dx : Start → Num
dx c = sub (keep w64 (x1 c) tt) (keep w64 (x0 c) tt)

abbrev above : Start → Num
above c = sub (keep w64 (y c) tt) (keep w64 (y0 c) tt)

abbrev slope : Start → Num
slope c = mul (keep w64 (above c) tt) (keep w64 (dx c) tt)

abbrev from : Start → Num
from c = sub (keep w64 (x0 c) tt) (lit 32)

abbrev base : Start → Num
base c = mul (keep w64 (from c) tt) (keep w64 (d c) tt)

abbrev n : Start → Num
n c = add (keep w64 (slope c) tt) (keep w64 (base c) tt)

abbrev step : Start → Num
step c = mul (lit 64) (keep w64 (dx c) tt)

same-rise : {n d s n' d' s' : ℤ} → n ≡ n' → d ≡ d' → s ≡ s' → ◌≡◌ {A = Rise} (record { n = n; d = d; step = s }) (record { n = n'; d = d'; step = s' })
same-rise p q r = rw (p, q, r)

pub overflow_cast-d : goal.overflow_cast-d
overflow_cast-d c =
    need (y1 c) tt

pub overflow_cast-d-2 : goal.overflow_cast-d-2
overflow_cast-d-2 c =
    need (y0 c) tt

pub overflow_sub-d : goal.overflow_sub-d
overflow_sub-d c =
    need (d c) tt

pub overflow_cast-dx : goal.overflow_cast-dx
overflow_cast-dx c =
    need (x1 c) tt

pub overflow_cast-dx-2 : goal.overflow_cast-dx-2
overflow_cast-dx-2 c =
    need (x0 c) tt

pub overflow_sub-dx : goal.overflow_sub-dx
overflow_sub-dx c =
    need (dx c) tt

pub overflow_cast-result : goal.overflow_cast-result
overflow_cast-result c =
    need (y c) tt

pub overflow_cast-result-2 : goal.overflow_cast-result-2
overflow_cast-result-2 c =
    need (y0 c) tt

pub overflow_sub-result : goal.overflow_sub-result
overflow_sub-result c =
    need (above c) tt

pub overflow_mul-result : goal.overflow_mul-result
overflow_mul-result c =
    need (slope c) tt

pub overflow_cast-result-3 : goal.overflow_cast-result-3
overflow_cast-result-3 c =
    need (x0 c) tt

pub overflow_sub-result-2 : goal.overflow_sub-result-2
overflow_sub-result-2 c =
    need (from c) tt

pub overflow_mul-result-2 : goal.overflow_mul-result-2
overflow_mul-result-2 c =
    need (base c) tt

pub overflow_add-result : goal.overflow_add-result
overflow_add-result c =
    need (n c) tt

pub overflow_mul-result-3 : goal.overflow_mul-result-3
overflow_mul-result-3 c =
    need (step c) tt

pub returns : goal.returns
unfolding rise_of
returns c =
    let same = same-rise (keep w64 (n c) tt).same (keep w64 (d c) tt).same (keep w64 (step c) tt).same in
    record {
      value = same;
      sloped = subst Sloped (sym same) (record {
        up = rise_of_lem c.args.y0 c.args.y1 c.requires.y0_lt_y1;
        high = (d c).size.size;
        far = omega (arith, (n c).size.size);
        wide = omega (arith, (step c).size.size);
      });
    }
