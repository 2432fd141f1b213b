-- `coverage::walk::next_mark` meets its contract. Assumes nothing.
use Prim.Native.Nat.{◌+◌, ◌*◌, ◌/◌, min}
use native.Mathlib.Omega.{arith}
use lib.ListN.{length}
use Rattle.coverage.proofs.Groups.{blank_none, blank_more, blank_past}
use Rattle.coverage.proofs.walk.next_mark.Goals as goal

pub returns-then-marks-p : goal.returns-then-marks-p
returns-then-marks-p c =
    blank_none c.args.marks.now c.args.p c.requires.0

pub bounds-groups-p : goal.bounds-groups-p
bounds-groups-p c =
    omega (arith, c.requires.1.long, c.requires.1.wide, c.if-marks-p.false)

pub overflow_cast-groups : goal.overflow_cast-groups
overflow_cast-groups c =
    omega (arith, c.shared_slice_known-3-1.given (c.args.p / 64))

pub scan-requires : goal.scan-requires
scan-requires c =
    let l = c.min-last.ensures in (omega (arith, c.if-p-last.true), omega (arith, l))

pub returns-then-p-last : goal.returns-then-p-last
returns-then-p-last c =
    c.scan.ensures

pub group_from-requires : goal.group_from-requires
group_from-requires c =
    (omega (arith, c.requires.1.wide, c.if-marks-p.false), c.requires.1)

pub returns : goal.returns
returns c =
    let a = c.args in
    let m = a.marks.now in
    blank_more m a.p (min ((a.p / 64 + 1) * 64) (length m)) c.group_from.result
    (blank_past m a.groups.now a.p (omega (arith, c.if-marks-p.false)) c.requires.1
    (omega (arith, c.min-last.ensures, c.if-p-last.false))) c.group_from.ensures
