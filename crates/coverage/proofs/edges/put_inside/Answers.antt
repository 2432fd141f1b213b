-- `coverage::edges::put_inside` meets its contract. Assumes nothing.
use mathlib.Core.Path.{refl, sym, ap, ◌∙◌}
use mathlib.Core.Bool.{Bool, cond}
use Prim.Native.Nat.{◌+◌, ◌*◌, ◌/◌}
use native.Mathlib.Omega.{arith}
use lib.ListN.{length}
use borrow.Author.Tests.{lt-ltb}
use Rattle.coverage.specs.Scanline.{bumped, put_row}
use Rattle.coverage.proofs.Begin.{clean}
use Rattle.coverage.proofs.edges.put_inside.Goals as goal

pub bump-requires : goal.bump-requires
bump-requires c =
    let f = c.requires.fits in
    (omega (arith, c.requires.r_bound), f.1 c.requires.r_bound.2, rw (clean c.args.s.by (omega (arith, f.0))) f.0)

pub returns : goal.returns
unfolding put_row
returns c =
    let a = c.args in
    let i = a.base + (a.s.at * 4 + a.r) in
    record {
      scratch_after = c.bump.ensures ∙ ap (bumped a.scratch.now i) (clean a.s.by (omega (arith, c.requires.fits.0)))
          ∙ ap (λ (t : Bool). cond t (bumped a.scratch.now i a.s.by) a.scratch.now)
          (sym (lt-ltb (a.s.at / 4) (length a.cover.now) c.requires.r_bound.2));
      cover_after = refl;
    }
