-- `transform::convert::in_256ths` meets its contract: what is at most 127 in size has at most 32,512 256ths.
use mathlib.Core.Path.{◌∙◌}
use Prim.Native.Nat.{◌≤◌}
use lib.IntN.{nat_abs}
use borrow.Author.Rules.{sfits_of}
use mir.Syntax.{w32, w64}
use Rattle.fixed.proofs.Means.{Num, need, keep, small}
use Rattle.fixed.proofs.Scaled.{scaled_size}
use Rattle.transform.proofs.convert.in_256ths.Goals as goal

size : (c : goal.After-to_whole) → nat_abs c.to_whole.result ≤ 32512
size c = rw c.to_whole.ensures (scaled_size 256 127 c.args.v c.requires)

abbrev whole : goal.After-to_whole → Num
whole c = small w64 32512 c.to_whole.result (sfits_of c.to_whole.type_inv) (record { size = size c })

pub overflow_cast-result : goal.overflow_cast-result
overflow_cast-result c =
    need (whole c) tt

pub returns : goal.returns
returns c =
    (keep w32 (whole c) tt).same ∙ c.to_whole.ensures
