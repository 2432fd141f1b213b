use Rattle.std.proofs.Common.{◌∙◌}
use Rattle.scene.specs.Rules.{in_draw, draw_fault_from}
use Rattle.scene.proofs.First.{told}
use Rattle.scene.proofs.verdict.draw_fault.Goals as goal

pub returns : goal.returns
unfolding draw_fault_from
returns c =
    rw (← c.in_ok-check_faults.ensures) (told (in_draw c.args.i) c.draw_rules.result c.map_err.result c.map_err.ensures.cases
    ∙ rw (c.draw_rules.ensures, c.edition.ensures, c.read_draw.ensures))
