-- `words::line_in` meets its contract.
use Rattle.std.proofs.Common.{◌≡◌, ◌-◌, ◌/◌, length, take, drop, refl, ◌∙◌, arith, to_z-of_z}
use Rattle.lists.proofs.Laws.{part_length}
use Rattle.paint.proofs.words.line_in.Goals as goal

-- as much of the planes as there are pixels
left-long : (c : goal.After-line_planes-arg-3-1) → let n = length c.args.row.now / 4 in length (take (n - 0) (drop 0 c.args.left.now)) ≡ n
left-long c = part_length c.args.left.now 0 (length c.args.row.now / 4) (omega arith) (omega (arith, c.requires.first_bound.2, c.requires.row_len.1))
    ∙ omega arith

right-long : (c : goal.After-line_planes-arg-3-1) → let n = length c.args.row.now / 4 in length (take (n - 0) (drop 0 c.args.right.now)) ≡ n
right-long c = part_length c.args.right.now 0 (length c.args.row.now / 4) (omega arith) (omega (arith, c.requires.first_bound.3, c.requires.row_len.1))
    ∙ omega arith

pub slice_bounds-line_planes-end : goal.slice_bounds-line_planes-end
slice_bounds-line_planes-end c =
    omega (arith, c.requires.first_bound.2, c.requires.row_len.1)

pub slice_bounds-line_planes-end-2 : goal.slice_bounds-line_planes-end-2
slice_bounds-line_planes-end-2 c =
    omega (arith, c.requires.first_bound.3, c.requires.row_len.1)

pub line_planes-requires : goal.line_planes-requires
line_planes-requires c =
    record {
      first_bound = rw (to_z-of_z c.ranges.first, to_z-of_z c.ranges.step) (c.requires.first_bound.0, c.requires.first_bound.1);
      row_len = rw (left-long c, right-long c) (c.requires.row_len.0, refl, c.requires.row_len.1);
    }

pub returns : goal.returns
returns c =
    rw (to_z-of_z c.ranges.first, to_z-of_z c.ranges.step, left-long c.before.before.before.before.before.before.before.before) at c.line_planes.ensures
