-- `radial_row::radial_positions` meets its contract: where the spread pads, t is mapped to itself.
use Rattle.std.proofs.Common.{◌≡◌, ◌+◌, length, pos, ◌<ℤ◌, sym, ◌∙◌, arith, w64, to_z, of_z}
use Rattle.fixed.proofs.Signed.{back}
use Rattle.fixed.proofs.Sign.{is_positive}
use Rattle.paint.specs.Gradient.{mapped}
use Rattle.paint.specs.Radial.{radial_d, radial_t}
use Rattle.paint.specs.Buffers.{Pads}
use Rattle.paint.proofs.Folded.{leaves_t}
use Rattle.paint.proofs.Along.{positions_same}
use Rattle.paint.proofs.Focal.{focal_inside, natural_cast, d_small}
use Rattle.paint.proofs.radial_row.radial_positions.Goals as goal
use Rattle.paint.proofs.radial_row.radial_positions.Tie as tie
use Rattle.paint.proofs.radial_row.radial_positions.Lts as lts
use Rattle.paint.proofs.radial_row.radial_positions.Reads as reads

d-is : (c : lts.After-circle_d tie.the-claims reads.Pre reads.Post tie.handed_clauses) → to_z w64 (of_z w64 c.circle_d-d.result) ≡ radial_d c.args.g.circle
d-is c = let d = c.circle_d-d in back w64 d.result d.type_inv ∙ d.ensures

d-above : (c : lts.After-circle_d tie.the-claims reads.Pre reads.Post tie.handed_clauses) → pos 0 <ℤ radial_d c.args.g.circle
d-above c = focal_inside c.args.g.circle c.requires.limited_circle.1 c.requires.limited_circle.2

pub overflow_cast-size : goal.overflow_cast-size
overflow_cast-size c =
    rw (d-is c.before) (
      natural_cast _ (is_positive (d-above c.before)),
      record {
        fits = omega (
          arith,
          d_small c.args.g.circle c.requires.limited_circle.0.r (d-above c.before),
        );
      },
    )

pub padded_positions-requires : goal.padded_positions-requires
padded_positions-requires c =
    let p = c.requires in
    let product = c.has_product.ensures c.if-has_product.true in
    record {
      limited_circle = (
        p.limited_circle.0,
        p.limited_circle.1,
        p.limited_circle.2,
        rw (d-is c.before.before.before.before.before)
            (sym (is_positive (d-above c.before.before.before.before.before))),
        product,
      );
      ks_bound = p.ks_bound;
    }

pub returns-then-has_product : goal.returns-then-has_product
returns-then-has_product c =
    let a = c.args in
    let pads : Pads a.g.spread = leaves_t a.g.spread (sym c.pads.ensures ∙ c.if-pads.true) in
    c.padded_positions.ensures
    ∙ positions_same (length a.ks.now) (λ i. radial_t a.g.circle (a.x + i) a.y)
    (λ i. mapped a.g.spread (radial_t a.g.circle (a.x + i) a.y))
    (λ i l. sym (pads.same (radial_t a.g.circle (a.x + i) a.y)))
