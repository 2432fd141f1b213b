-- `positions::has_line` meets its contract.
use Rattle.std.proofs.Common.{nat_abs, sym, ◌∙◌, arith, to_z-of_z, ltb-true}
use Rattle.std.proofs.lemmas.Grind.{common_steps}
use borrow.Author.Tests.{not-false}
use Rattle.paint.proofs.Folded.{leaves_t}
use Rattle.paint.proofs.Along.{below_limit}
use Rattle.paint.proofs.positions.has_line.Goals as goal

pub returns : goal.returns
returns c e =
    let limit = c.length_limit in
    let size = rw (to_z-of_z c.ranges.d) at c.unsigned_abs-3.ensures.value in
    let below = rw size at (ltb-true c.unsigned_abs-3.result limit.result e) in
    record {
      pads = leaves_t _ (sym c.pads.ensures ∙ not-false _ c.if-not-pads.false-raw);
      whole = grind (arith, common_steps);
      growth = grind (arith, common_steps);
      length = omega (arith, below, limit.ensures.1);
      near = below_limit c.args.n (nat_abs c.args.d) limit.result limit.ensures.0 below;
    }
