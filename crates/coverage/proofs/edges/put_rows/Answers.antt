-- `coverage::edges::put_rows` meets its contract. Assumes nothing.
use mathlib.Core.Path.{◌≡◌, sym, ◌∙◌}
use Prim.Native.Nat.{◌/◌, ◌<◌}
use native.Mathlib.Omega.{arith}
use lib.ListN.{length}
use Rattle.coverage.proofs.Groups.{near_both, four_grouped}
use Rattle.coverage.proofs.edges.put_rows.Goals as goal
use Rattle.coverage.proofs.edges.put_rows.Tie as tie
use Rattle.coverage.proofs.edges.put_rows.Lts as lts
use Rattle.coverage.proofs.edges.put_rows.Reads as reads

-- the columns lie in the window, and in one group
near : (c : lts.Then1 tie.the-claims reads.Pre reads.Post tie.handed_clauses)
    → let lo = c.first_pixel-lo.result in
    let hi = c.last_pixel-hi.result in
    (hi < length c.args.cover.now) × (lo / 64 ≡ hi / 64)
near c =
    near_both c.first_pixel-lo.result c.last_pixel-hi.result (length c.args.cover.now)
    (sym c.is_near.ensures ∙ c.if-is_near.true)

pub touch-requires : goal.touch-requires
touch-requires c =
    let g = c.requires.cover_in_bounds.1 in
    (omega (arith, c.first_pixel-lo.ensures, c.last_pixel-hi.ensures), omega (arith, (near c.before.before).0, g.wide), g.long)

pub put_near-requires : goal.put_near-requires
put_near-requires c =
    record {
      cover_in_bounds = (c.requires.cover_in_bounds.0, c.requires.fit_rows);
      at_in_bounds = omega (
        arith,
        (near c.before.before.before.before.before.before.before).0,
        c.last_pixel-hi.ensures,
      );
    }

pub returns-then-is_near : goal.returns-then-is_near
returns-then-is_near c =
    let a = c.args in
    let p = c.put_near.ensures in
    let both = near c.before.before.before.before.before.before.before.before.before.before.before in
    record {
      scratch_after = p.scratch_after;
      cover_after = p.cover_after;
      grouped = four_grouped a.cover.now a.groups.now a.s.at a.u.at a.v.at a.t.at c.first_pixel-lo.result
          c.last_pixel-hi.result c.first_pixel-lo.ensures c.last_pixel-hi.ensures p.cover_after c.touch.ensures
          both.0 both.1 c.requires.cover_in_bounds.1;
    }
