-- `radial::sixteenths` meets its contract: a float of at most 1,024 has a whole number.
use Rattle.std.proofs.Common.{◌∙◌, lit≤, w64, rules}
use Rattle.fixed.proofs.Scaled.{scaled_size, limit_raised}
use Rattle.fixed.proofs.Signed.{back}
use Rattle.paint.proofs.radial.sixteenths.Goals as goal

pub to_whole-requires : goal.to_whole-requires
to_whole-requires c =
    (search rules, limit_raised 1024 32768 c.args.v (lit≤ tt) c.requires)

pub returns : goal.returns
returns c =
    let e = back w64 c.to_whole.result c.to_whole.type_inv ∙ c.to_whole.ensures in
    (e, rw e (scaled_size 16 1024 c.args.v c.requires))
