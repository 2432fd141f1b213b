use Rattle.std.proofs.Common.{arith}
use Rattle.scene.specs.Layout.{radial_at, radial_floats}
use Rattle.scene.specs.Rules.{radial_limit}
use Rattle.scene.proofs.Accepted.{limits}
use Rattle.scene.proofs.rules.focal_rule.Goals as goal

pub fixed_circle-requires : goal.fixed_circle-requires
fixed_circle-requires c =
    let a = limits c.args.d.now radial_limit radial_at radial_floats c.requires.1 in
    record {
      cx_value = rw c.radial_points.ensures (a 0 (omega arith), a 1 (omega arith));
      fx_value = rw c.radial_points.ensures (a 2 (omega arith), a 3 (omega arith), a 4 (omega arith));
    }
