-- `path::commands::taken` meets its contract: the packed numbers are the definition's.
use Rattle.std.proofs.Common.{refl, ap}
use Rattle.path.specs.declared.Segment.{Segment}
use Rattle.path.proofs.Traces.{takes_few, packed_takes}
use Rattle.path.proofs.commands.taken.Goals as goal

pub returns : goal.returns
returns c =
    rw (ap (λ (s : Segment). s.command) c.split.ensures, packed_takes c.args.byte c.requires) (refl, takes_few c.args.byte c.requires)
