-- The worked scene of 2 by 1 pixels is accepted: the rules do not refuse everything.
use mathlib.Core.Path.{◌≡◌, refl}
use mathlib.Core.Bool.{false}
use Rattle.std.specs.Prelude.{Ok}
use Rattle.scene.specs.Blocks.{checksum_of, block_right_from}
use Rattle.scene.specs.Rules.{header_rules, scene_fault_from, scene_fault}
use Rattle.cases.specs.Bench.{two_by_one_file}

pub two_by_one_accepted : scene_fault false two_by_one_file ≡ Ok tt
unfolding scene_fault_from header_rules block_right_from checksum_of
two_by_one_accepted = refl
