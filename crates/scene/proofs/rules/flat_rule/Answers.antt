use Rattle.path.proofs.Entries.{matrix_limited}
use Rattle.scene.specs.Fields.{matrix_of}
use Rattle.scene.proofs.rules.flat_rule.Goals as goal

pub is_flat-requires : goal.is_flat-requires
is_flat-requires c = rw c.fixed_matrix.ensures (matrix_limited (matrix_of c.args.d.now) c.requires.1)
