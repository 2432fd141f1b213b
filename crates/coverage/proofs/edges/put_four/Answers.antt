-- `coverage::edges::put_four` meets its contract. Assumes nothing.
use mathlib.Core.Path.{sym, ap, ◌∙◌}
use mathlib.Core.Bool.{Bool, cond}
use Prim.Native.Nat.{◌+◌, ◌*◌, ◌/◌}
use native.Mathlib.Omega.{arith}
use lib.ListN.{length}
use lib.Seq.{set_out}
use borrow.Author.Tests.{lt-ltb, le-ltb}
use Rattle.coverage.specs.Scanline.{bumped_four}
use Rattle.coverage.proofs.Begin.{clean}
use Rattle.coverage.proofs.edges.put_four.Goals as goal

pub returns-then-cover-p : goal.returns-then-cover-p
returns-then-cover-p c =
    let a = c.args in
    record {
      scratch_after = ap (λ (t : Bool). cond t (bumped_four a.scratch.now (a.base + a.at * 4) a.by) a.scratch.now)
          (sym (le-ltb (a.at / 4) (length a.cover.now) (omega arith)));
      cover_after = sym (set_out a.cover.now (a.at / 4) 1 (omega arith));
      grouped_2 = c.requires.grouped;
    }

pub mark-requires : goal.mark-requires
mark-requires c =
    (omega (arith, c.if-cover-p.false), c.requires.grouped)

pub bump_four-requires : goal.bump_four-requires
bump_four-requires c =
    let by = c.args.by in
    let inside = c.if-cover-p.false in (
      omega (arith, c.requires.cover_in_bounds, inside),
      c.requires.low_four (omega (arith, inside)),
      rw (clean by (omega (arith, c.requires.cover_in_bounds.1))) c.requires.cover_in_bounds.1,
    )

pub returns : goal.returns
returns c =
    let a = c.args in
    record {
      scratch_after = c.bump_four.ensures ∙ ap (bumped_four a.scratch.now (a.base + a.at * 4)) (clean a.by (omega (arith, c.requires.cover_in_bounds.1)))
          ∙ ap (λ (t : Bool). cond t (bumped_four a.scratch.now (a.base + a.at * 4) a.by) a.scratch.now)
          (sym (lt-ltb (a.at / 4) (length a.cover.now) (omega (arith, c.if-cover-p.false))));
      cover_after = c.mark.ensures.marks_after;
      grouped_2 = c.mark.ensures.grouped;
    }
