use Rattle.std.proofs.Common.{sym, ◌∙◌}
use borrow.Author.Tests.{eqb-true}
use Rattle.scene.specs.Rules.{in_header}
use Rattle.scene.proofs.First.{told}
use Rattle.scene.proofs.Accepted.{told_none, header_count, met}
use Rattle.scene.proofs.verdict.verdict.Goals as goal

pub draw_faults-requires : goal.draw_faults-requires
draw_faults-requires c =
    let read = c.header_rules in
    let fine = told_none in_header read.result (sym (told in_header read.result c.map_err.result c.map_err.ensures.cases) ∙ c.in_ok-map_err.was) in
    let few = header_count c.args.s.now (sym read.ensures ∙ fine) in
    (eqb-true _ _ (met _ _ (sym c.in_ok-demand-3.ensures)), rw c.count-n.ensures.0 few)
