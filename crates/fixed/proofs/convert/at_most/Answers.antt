-- `fixed::convert::at_most` meets its contract.
use Rattle.std.proofs.Common.{◌^◌, ap, ◌∙◌}
use lib.Dec.{leb}
use lib.Ieee.{binary32, to_bits}
use Rattle.fixed.specs.Floats.{at_most}
use Rattle.fixed.specs.Patterns.{size_bits}
use Rattle.fixed.proofs.Nans.{only_nan, held_float}
use Rattle.fixed.proofs.Patterns.{size_pattern}
use Rattle.fixed.proofs.convert.at_most.Goals as goal

pub returns-then-not-is_nan : goal.returns-then-not-is_nan
returns-then-not-is_nan c =
    let v = c.args.v in
    let n = to_bits binary32 v in
    ap (leb (size_bits n)) c.power_pattern.ensures
    ∙ size_pattern n c.args.log c.requires ∙ ap (at_most (2 ^ c.args.log)) (held_float v c.well_formed.0.1)

pub returns-else-not-is_nan : goal.returns-else-not-is_nan
returns-else-not-is_nan c = rw (c.if-not-is_nan.false, only_nan c.args.v cc)
