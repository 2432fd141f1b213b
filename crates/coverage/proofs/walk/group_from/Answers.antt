-- `coverage::walk::group_from` meets its contract. Assumes nothing.
use mathlib.Core.Path.{◌≡◌, sym, subst}
use Prim.Native.Nat.{ℕ, ◌+◌, ◌-◌, ◌*◌, min}
use native.Mathlib.Omega.{arith}
use lib.ListN.{length}
use Rattle.coverage.specs.Marks.{Blank}
use Rattle.coverage.proofs.Groups.{blank_none, blank_more, blank_begin}
use Rattle.coverage.proofs.walk.group_from.Goals as goal
use Rattle.coverage.proofs.walk.group_from.Tie as tie
use Rattle.coverage.proofs.walk.group_from.Lts as lts
use Rattle.coverage.proofs.walk.group_from.Reads as reads

-- blank up to where the marks of group h begin
begin : (c : lts.After-min tie.the-claims reads.Pre reads.Post goal.the-invariant-loop-h goal.the-decreases-loop-h)
    → let a = c.args in
    let m = a.marks.now in
    Blank m (min (a.g * 64) (length m)) (min (c.loop-h.h * 64 + (64 - c.min-back.result)) (length m))
begin c =
    let a = c.args in
    let m = a.marks.now in
    let l = c.loop-h in
    blank_more m (min (a.g * 64) (length m)) (min (l.h * 64) (length m)) (min (l.h * 64 + (64 - c.min-back.result)) (length m)) l.invariant.1
    (subst (λ (b : ℕ). Blank m (min (l.h * 64) (length m)) (min (l.h * 64 + (64 - b)) (length m))) (sym c.min-back.ensures)
    (blank_begin m a.groups.now l.h c.requires.1))

pub loop-h-init : goal.loop-h-init
loop-h-init c =
    let m = c.args.marks.now in
    (c.requires.0, blank_none m (min (c.args.g * 64) (length m)) (omega arith))

pub bounds-groups-h : goal.bounds-groups-h
bounds-groups-h c =
    omega (arith, c.requires.1.long, c.requires.1.wide, c.loop-h-test.true)

pub overflow_cast-groups : goal.overflow_cast-groups
overflow_cast-groups c =
    omega (arith, c.shared_slice_known-in-loop-h-1.given (16 + c.loop-h.h))

pub overflow_sub-back : goal.overflow_sub-back
overflow_sub-back c =
    omega (arith, c.min-back.ensures)

pub overflow_add-h-then-back-ne0 : goal.overflow_add-h-then-back-ne0
overflow_add-h-then-back-ne0 c =
    omega (arith, c.loop-h.invariant.0)

pub returns-then-back-ne0 : goal.returns-then-back-ne0
returns-then-back-ne0 c =
    let a = c.args in
    let m = a.marks.now in
    subst (λ (r : ℕ). Blank m (min (a.g * 64) (length m)) r) (sym c.min.ensures) (begin c.before.before.before)

pub loop-h-smaller : goal.loop-h-smaller
loop-h-smaller c =
    omega (arith, c.requires.1.wide, c.loop-h-test.true)

pub loop-h-preserved : goal.loop-h-preserved
loop-h-preserved c =
    let a = c.args in
    let m = a.marks.now in
    let l = c.loop-h in
    let next : l.h * 64 + (64 - c.min-back.result) ≡ (l.h + 1) * 64 = omega (arith, c.if-back-ne0.false) in (
      omega (arith, c.requires.1.wide, c.loop-h-test.true),
      subst (λ (e : ℕ). Blank m (min (a.g * 64) (length m)) (min e (length m))) next (begin c.before.before),
    )

pub returns : goal.returns
returns c =
    let a = c.args in
    let m = a.marks.now in
    let l = c.loop-h in
    let all : min (l.h * 64) (length m) ≡ length m = omega (arith, c.loop-h-test.false) in
    subst (λ (e : ℕ). Blank m (min (a.g * 64) (length m)) e) all l.invariant.1
