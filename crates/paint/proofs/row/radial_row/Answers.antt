-- `row::radial_row` meets its contract.
use Rattle.std.proofs.Common.{◌≡◌, Bool, pos, ◌<ℤ◌, sym, ◌∙◌, w64, to_z, of_z}
use lib.Signed.{le_z}
use Rattle.fixed.proofs.Signed.{clean}
use Rattle.paint.specs.Buffers.{stops_in}
use Rattle.paint.proofs.Folded.{leaves_t}
use Rattle.paint.proofs.Focal.{above_zero, without_run}
use Rattle.paint.proofs.row.radial_row.Goals as goal
use Rattle.paint.proofs.row.radial_row.Tie as tie
use Rattle.paint.proofs.row.radial_row.Lts as lts
use Rattle.paint.proofs.row.radial_row.Reads as reads

-- what the test tells of the radius
told : (s : lts.Start tie.the-claims reads.Pre reads.Post tie.handed_clauses) {t : Bool} → le_z (to_z w64 (of_z w64 s.args.g.circle.r)) (pos 0) ≡ t
    → le_z s.args.g.circle.r (pos 0) ≡ t
told s e = rw (clean w64 16384 s.args.g.circle.r tt s.requires.limited_circle.0.r) at e

-- a radius above 0
some : (c : lts.Else1 tie.the-claims reads.Pre reads.Post tie.handed_clauses) → pos 0 <ℤ c.args.g.circle.r
some c = above_zero c.args.g.circle.r (told c.before.before.before.before.before.before c.if-c-le0.false)

pub gradient_color-p-requires : goal.gradient_color-p-requires
gradient_color-p-requires c =
    c.requires.limited_circle.2

pub fill_row-requires : goal.fill_row-requires
fill_row-requires c =
    c.requires.n_bound.2

pub returns-then-c-le0 : goal.returns-then-c-le0
returns-then-c-le0 c =
    let a = c.args in
    let p = c.gradient_color-p in
    c.fill_row.ensures
    ∙ without_run a.g (stops_in a.ramp.now a.g.count) a.x a.y a.n p.result
    (told c.before.before.before.before.before.before.before.before.before.before.before.before c.if-c-le0.true) p.ensures

pub pads-requires : goal.pads-requires
pads-requires c =
    tt

pub padded_row-requires : goal.padded_row-requires
padded_row-requires c =
    record {
      held_gradient = (
        c.requires.limited_circle,
        some c.before.before.before.before,
        leaves_t c.args.g.spread (sym c.pads.ensures
            ∙ c.if-pads.true),
      );
      n_bound = c.requires.n_bound;
    }

pub returns-then-pads : goal.returns-then-pads
returns-then-pads c =
    c.padded_row.ensures

pub sloped_row-requires : goal.sloped_row-requires
sloped_row-requires c =
    record { held_gradient = (c.requires.limited_circle, some c.before.before.before.before); n_bound = c.requires.n_bound }

pub returns : goal.returns
returns c =
    c.sloped_row.ensures
