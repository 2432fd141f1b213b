-- `path::rules::check` meets its contract.
use Rattle.std.proofs.Common.{◌&&◌, leb, sym, ◌∙◌, arith}
use Rattle.rect.proofs.Laws.{both}
use Rattle.path.specs.Plain.{is_small, plain_to}
use Rattle.path.proofs.Untraced.{plain_checked}
use Rattle.path.proofs.rules.check.Goals as goal

pub returns-then-used-coordinates : goal.returns-then-used-coordinates
returns-then-used-coordinates c =
    let a = c.args in
    let first = both (leb a.n 128) (is_small a.m && plain_to a.segments.now a.n) (sym c.is_plain.ensures ∙ c.if-is_plain.true) in
    let second = both (is_small a.m) (plain_to a.segments.now a.n) first.1 in
    plain_checked a.m second.0 a.segments.now a.coordinates.now (λ i. omega (arith, c.type_inv.coordinates i))
    a.n c.taken_by-used.result second.1 c.taken_by-used.ensures.0 c.if-used-coordinates.true
