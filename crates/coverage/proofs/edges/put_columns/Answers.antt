-- `coverage::edges::put_columns` meets its contract. Assumes nothing.
use mathlib.Core.Path.{◌≡◌, sym, ap, ◌∙◌}
use mathlib.Core.Bool.{cond}
use Prim.Native.Nat.{ℕ, ◌+◌, ◌*◌, ◌/◌, ◌<◌}
use native.Mathlib.Omega.{arith}
use lib.Dec.{ltb}
use lib.IntN.{ℤ}
use lib.ListN.{length}
use mir.Syntax.{w32}
use mir.Val.{to_z, of_z}
use Rattle.coverage.specs.Scanline.{bumped_four}
use Rattle.coverage.proofs.Begin.{clean}
use Rattle.coverage.proofs.Groups.{near_both, four_grouped}
use Rattle.coverage.proofs.Rows.{as_rows, as_marks, fit_four}
use Rattle.coverage.proofs.Steep.{straight_one, straight_ends}
use Rattle.coverage.proofs.edges.put_columns.Goals as goal
use Rattle.coverage.proofs.edges.put_columns.Tie as tie
use Rattle.coverage.proofs.edges.put_columns.Lts as lts
use Rattle.coverage.proofs.edges.put_columns.Reads as reads

-- what is added, as a local holds it
by_read : (s : lts.Start tie.the-claims reads.Pre reads.Post tie.handed_clauses) → to_z w32 (of_z w32 s.args.by) ≡ s.args.by
by_read s = clean s.args.by (omega (arith, s.requires.fit_rows.0.0))

-- ---- all four columns are one
one : (c : goal.After-put_four-arg-then-p-q-2-1) → let s = c.args.s in (s.b ≡ s.a) × (s.c ≡ s.a)
one c = straight_one c.args.s c.requires.cover_in_bounds.2 c.if-p-q.true

-- ---- they lie in the window, and in one group
near : (c : lts.Then2 tie.the-claims reads.Pre reads.Post tie.handed_clauses)
    → let lo = c.min-lo.result / 4 in
    let hi = c.max-hi.result / 4 in
    (hi < length c.args.cover.now) × (lo / 64 ≡ hi / 64)
near c =
    near_both (c.min-lo.result / 4) (c.max-hi.result / 4)
    (length c.args.cover.now) (sym c.is_near.ensures ∙ c.if-is_near.true)

pub put_four-requires : goal.put_four-requires
put_four-requires c =
    let a = c.args in
    record {
      cover_in_bounds = (c.requires.cover_in_bounds.0, rw (by_read c.before.before.before.before.before.before) c.requires.fit_rows.0.0);
      grouped = c.requires.cover_in_bounds.1;
      low_four = fit_four a.base a.s.a a.by (length a.cover.now) a.scratch.now
          (rw ((one c).0, (one c).1, sym c.if-p-q.true) at c.requires.fit_rows);
    }

pub returns-then-p-q : goal.returns-then-p-q
returns-then-p-q c =
    let a = c.args in
    let w = length a.cover.now in
    let p = c.put_four.ensures in
    let o = one c.before.before.before.before.before.before.before in
    record {
      scratch_after = rw (o.0, o.1, sym c.if-p-q.true) (
          p.scratch_after
          ∙ ap (λ (z : ℤ). cond (ltb (a.s.a / 4) w) (bumped_four a.scratch.now (a.base + a.s.a * 4) z) a.scratch.now)
          (by_read c.before.before.before.before.before.before.before.before.before.before.before.before.before)
          ∙ as_rows a.base a.s.a a.by w a.scratch.now
          );
      cover_after = rw (o.0, o.1, sym c.if-p-q.true) (p.cover_after ∙ as_marks (a.s.a / 4) a.cover.now);
      grouped = p.grouped_2;
    }

pub touch-requires : goal.touch-requires
touch-requires c =
    let g = c.requires.cover_in_bounds.1 in
    (omega (arith, c.max-hi.ensures, c.min-lo.ensures), omega (arith, (near c.before.before).0, g.wide), g.long)

pub put_near-requires : goal.put_near-requires
put_near-requires c =
    record {
      cover_in_bounds = rw (by_read c.before.before.before.before.before.before.before.before.before.before.before.before.before.before)
          (c.requires.cover_in_bounds.0, c.requires.fit_rows);
      at_in_bounds = rw (straight_ends c.args.s c.requires.cover_in_bounds.2).1
          (omega (arith, (near c.before.before.before.before.before.before.before).0, c.max-hi.ensures));
    }

pub returns-then-is_near : goal.returns-then-is_near
returns-then-is_near c =
    let a = c.args in
    let ends = straight_ends a.s c.requires.cover_in_bounds.2 in
    let both = near c.before.before.before.before.before.before.before.before.before.before.before in
    let p = c.put_near.ensures in
    record {
      scratch_after = rw (by_read
          c.before.before.before.before.before.before.before.before.before.before.before.before.before.before.before.before.before.before) at p.scratch_after;
      cover_after = p.cover_after;
      grouped = four_grouped a.cover.now a.groups.now a.s.a a.s.b a.s.c a.s.d (c.min-lo.result / 4)
          (c.max-hi.result / 4) (ap (λ (n : ℕ). n / 4) (c.min-lo.ensures ∙ sym ends.0))
          (ap (λ (n : ℕ). n / 4) (c.max-hi.ensures ∙ sym ends.1)) p.cover_after c.touch.ensures both.0 both.1
          c.requires.cover_in_bounds.1;
    }

-- ---- wherever they lie
pub put_far-requires : goal.put_far-requires
put_far-requires c =
    record {
      cover_in_bounds = (c.requires.cover_in_bounds.0, c.requires.cover_in_bounds.1);
      fit_rows = rw (by_read c.before.before.before.before.before.before.before.before.before.before) c.requires.fit_rows;
    }

pub returns : goal.returns
returns c =
    let p = c.put_far.ensures in
    record {
      scratch_after = rw (by_read c.before.before.before.before.before.before.before.before.before.before.before.before.before.before.before.before.before)
          at p.scratch_after;
      cover_after = p.cover_after;
      grouped = p.grouped;
    }
