-- `block::linear_block` meets its contract.
use Rattle.std.proofs.Common.{◌≡◌, ℕ, ◌*◌, ◌/◌, subst, arith}
use Rattle.paint.specs.Buffers.{HeldRamp}
use Rattle.paint.proofs.block.linear_block.Goals as goal
use Rattle.paint.proofs.block.linear_block.Goals.{in_default-via-in-Some+else-has_ends_only, in_default-via-in-None-1}

-- ---- a line serves
-- the row has room for n pixels
room : (m n : ℕ) → m ≡ n * 4 → m / 4 ≡ n
room m n e = omega arith

pub row_line-requires : goal.row_line-requires
row_line-requires c =
    record {
      limited_points = (c.requires.limited_points.0, c.requires.limited_points.2);
      x_bound = (
        omega (arith, c.requires.n_bound.0),
        c.requires.n_bound.1,
        c.requires.n_bound.3,
      );
    }

pub has_ends_only-requires : goal.has_ends_only-requires
has_ends_only-requires c =
    c.requires.limited_points.1.places

pub line_block-requires : goal.line_block-requires
line_block-requires c =
    let ends = c.has_ends_only.ensures c.if-has_ends_only.true in
    record {
      held_ramp = rw (room _ _ c.requires.n_bound.2)
          (subst (λ (n : ℕ). HeldRamp c.args.ramp.now n) ends.0 c.requires.limited_points.1, ends.1, c.in-Some.ensures);
      row_len = rw (room _ _ c.requires.n_bound.2) (c.requires.n_bound.2, c.requires.n_bound.3);
    }

-- ---- by positions
pub placed_block-requires : goal.placed_block-requires
placed_block-requires c =
    record {
      limited_points = c.requires.limited_points;
      n_bound = c.requires.n_bound;
      follows = elim c.in_default-1.branch [
        | in_default-via-in-Some+else-has_ends_only w ↦ rw w.line-is w.in-Some.ensures
        | in_default-via-in-None-1 w ↦ rw w.line-is c.row_line.ensures
      ];
    }
