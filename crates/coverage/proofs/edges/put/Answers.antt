-- `coverage::edges::put` meets its contract. Assumes nothing.
use mathlib.Core.Path.{sym, ap}
use mathlib.Core.Bool.{Bool, cond}
use Prim.Native.Nat.{◌+◌, ◌*◌, ◌/◌}
use native.Mathlib.Omega.{arith}
use lib.ListN.{length}
use lib.Seq.{set_out}
use borrow.Author.Tests.{le-ltb}
use Rattle.coverage.specs.Scanline.{bumped, put_row}
use Rattle.coverage.proofs.Groups.{one_grouped}
use Rattle.coverage.proofs.edges.put.Goals as goal

pub returns-then-cover-p : goal.returns-then-cover-p
unfolding put_row
returns-then-cover-p c =
    let a = c.args in
    record {
      scratch_after = ap (λ (t : Bool). cond t (bumped a.scratch.now (a.base + (a.s.at * 4 + a.r)) a.s.by) a.scratch.now)
          (sym (le-ltb (a.s.at / 4) (length a.cover.now) (omega arith)));
      cover_after = sym (set_out a.cover.now (a.s.at / 4) 1 (omega arith));
      grouped = c.requires.r_bound.2;
    }

pub returns : goal.returns
returns c =
    let a = c.args in
    let p = c.put_inside.ensures in
    record {
      scratch_after = p.scratch_after;
      cover_after = p.cover_after;
      grouped = one_grouped a.cover.now a.groups.now (a.s.at / 4) p.cover_after
          c.touch.ensures (omega (arith, c.if-cover-p.false)) c.requires.r_bound.2;
    }
