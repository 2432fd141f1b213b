-- `fixed::convert::to_whole` meets its contract.
use mir.Syntax.{w64}
use mathlib.Core.Path.{◌≡◌, ap, ◌∙◌}
use Prim.Native.Nat.{◌≤◌}
use lib.Dec.{lit≤}
use lib.Ieee.{binary32, of_bits, to_bits}
use borrow.Author.Tests.{leb-true}
use borrow.Author.Rules.{sfits_of}
use mir.Facts.{to_z-of_z}
use Rattle.fixed.specs.Floats.{scaled, at_most}
use Rattle.fixed.specs.Patterns.{size_bits, power_pattern}
use Rattle.fixed.proofs.Nans.{limited_number, held_float}
use Rattle.fixed.proofs.Patterns.{size_pattern}
use Rattle.fixed.proofs.convert.to_whole.Goals as goal

-- the float with the bits of v is v
same : (s : goal.Start) → of_bits binary32 (to_bits binary32 s.args.v) ≡ s.args.v
same s = held_float s.args.v s.well_formed.0.1

small : (s : goal.Start) → size_bits (to_bits binary32 s.args.v) ≤ power_pattern 15
small s = leb-true _ _ (size_pattern (to_bits binary32 s.args.v) 15 (lit≤ tt) ∙ ap (at_most 32768) (same s) ∙ s.requires.1)

pub float_to_bits-v : goal.float_to_bits-v
float_to_bits-v c =
    limited_number 32768 c.args.v c.requires.1

pub scale_pattern-requires : goal.scale_pattern-requires
scale_pattern-requires c =
    record { n_bound = small c; scale_bound = c.requires.0 }

pub returns : goal.returns
returns c =
    to_z-of_z {w = w64} (sfits_of c.scale_pattern.type_inv) ∙ c.scale_pattern.ensures ∙ ap (scaled c.args.scale) (same c.before)
