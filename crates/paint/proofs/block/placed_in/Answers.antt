-- `block::placed_in` meets its contract.
use Rattle.std.proofs.Common.{◌≡◌, ℕ, ◌+◌, ◌-◌, ◌*◌, ◌++◌, length, take, drop, ℤ, sym, ap, ◌∙◌, arith}
use Rattle.lists.specs.Lists.{tab}
use Rattle.lists.proofs.Laws.{tab_length, part_length}
use Rattle.paint.specs.Gradient.{linear_t, mapped}
use Rattle.paint.specs.Buffers.{stops_in}
use Rattle.paint.specs.Segments.{position_of}
use Rattle.paint.proofs.Placing.{lent_again, positions, colored}
use Rattle.paint.proofs.block.placed_in.Goals as goal
use Rattle.paint.proofs.block.placed_in.Tie as tie
use Rattle.paint.proofs.block.placed_in.Lts as lts
use Rattle.paint.proofs.block.placed_in.Reads as reads

-- t at the ith pixel
abbrev t : lts.Start tie.the-claims reads.Pre reads.Post tie.handed_clauses → ℕ → ℤ
t c i = linear_t c.args.g.points (c.args.x + i) c.args.y

-- the positions that are written and lent once more
placed : (c : lts.After-linear_positions tie.the-claims reads.Pre reads.Post tie.handed_clauses)
    → let a = c.args in
    let q = c.linear_positions.new.ks in
    take (a.n - 0) (drop 0 (take 0 a.ks.now ++ (q ++ drop (a.n - 0) (drop 0 a.ks.now))))
    ≡ tab a.n (λ i. position_of (mapped a.g.spread (t c.before.before.before.before.before i)))
placed c =
    let a = c.args in
    lent_again a.ks.now _ a.n _ (omega (arith, c.requires.n_bound.3, c.requires.n_bound.4)) c.linear_positions.ensures

pub linear_positions-requires : goal.linear_positions-requires
linear_positions-requires c =
    let a = c.args in
    let n : length (take (a.n - 0) (drop 0 a.ks.now)) ≡ a.n =
    part_length a.ks.now 0 a.n (omega arith) (omega (arith, c.requires.n_bound.3, c.requires.n_bound.4)) ∙ omega arith in
    record {
      limited_points = (c.requires.limited_points.0, c.requires.limited_points.2);
      ks_bound = rw n (c.requires.n_bound.0, c.requires.n_bound.1, c.requires.n_bound.3);
      follows = rw n c.requires.follows;
    }

pub color_row-requires : goal.color_row-requires
color_row-requires c =
    let e = placed c.before.before.before.before.before in (
      c.requires.limited_points.1,
      positions c.args.n c.args.g.spread (t c.before.before.before.before.before.before.before.before.before.before) _ e c.requires.n_bound.3,
      c.requires.n_bound.2 ∙ ap (λ (m : ℕ). m * 4) (sym (ap length e ∙ tab_length c.args.n _)),
    )

pub returns : goal.returns
returns c =
    let a = c.args in
    let e = placed c.before.before.before.before.before.before.before.before.before.before in
    c.color_row.ensures ∙ rw (ap length e ∙ tab_length a.n _)
    (colored a.n a.g.spread (t c.before.before.before.before.before.before.before.before.before.before.before.before.before.before.before) _ e
    a.g.premultiply (stops_in a.ramp.now a.g.count))
