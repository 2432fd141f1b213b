-- `plain::samples::Outline::count_pixel` meets its contract. Assumes nothing.
use mathlib.Core.Path.{◌≡◌, refl, ap₂}
use Prim.Native.Nat.{◌+◌}
use native.Mathlib.Numerals.{add-one}
use native.Mathlib.Omega.{arith}
use Rattle.coverage.specs.Winding.{coverage}
use borrow.Author.Rules.{rules}
use Rattle.plain.proofs.samples.Outline.count_pixel.Goals as goal

pub loop-m-init : goal.loop-m-init
loop-m-init c =
    (search rules, search rules, refl)

pub count_row-k-requires : goal.count_row-k-requires
count_row-k-requires c =
    (c.requires.0, omega arith)

pub overflow_add-k : goal.overflow_add-k
overflow_add-k c =
    omega (arith, c.count_row-k.ensures.1, c.loop-m.invariant.1)

pub loop-m-preserved : goal.loop-m-preserved
loop-m-preserved c =
    let l = c.loop-m in
    let t = c.count_row-k.ensures in (omega arith, omega (arith, t.1, l.invariant.1), rw add-one (ap₂ ◌+◌ l.invariant.2 t.0))

pub returns : goal.returns
unfolding coverage
returns c =
    let l = c.loop-m in
    let e : l.m ≡ 4 = omega arith in (rw e at l.invariant.2, omega (arith, l.invariant.1))
