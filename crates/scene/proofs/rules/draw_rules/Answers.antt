use Rattle.std.proofs.Common.{sym}
use Rattle.scene.proofs.Accepted.{head_counted, matrix_within}
use Rattle.scene.proofs.rules.draw_rules.Goals as goal

pub list_rules-requires : goal.list_rules-requires
list_rules-requires c =
    let a = c.args in
    (c.requires, (head_counted a.d.now a.lent a.edition (sym c.in_ok-head_rules.ensures)).stops)

pub flat_rule-requires : goal.flat_rule-requires
flat_rule-requires c = (c.requires, matrix_within c.args.d.now (sym c.in_ok-float_rules.ensures))

pub path_rules-requires : goal.path_rules-requires
path_rules-requires c =
    let a = c.args in
    record {
      d_len = (c.requires, (head_counted a.d.now a.lent a.edition (sym c.in_ok-head_rules.ensures)).segments);
      d_value = matrix_within a.d.now (sym c.in_ok-float_rules.ensures);
    }
