-- `lines::draw_line` meets its contract.
use mathlib.Core.Path.{sym, subst, ◌∙◌}
use Prim.Native.Nat.{ℕ, ◌≤◌}
use Rattle.coverage.proofs.Limits.{coverage_at_most_16}
use Rattle.scene.specs.Fields.{non_zero_rule}
use Rattle.engine.specs.Picture.{draw_edges}
use Rattle.reason.proofs.Drawn.{outside_line, uncovered_line, covered_line_lem}
use Rattle.reason.proofs.lines.draw_line.Goals as goal

pub returns-then-outside_scissors : goal.returns-then-outside_scissors
returns-then-outside_scissors c =
    let a = c.args in
    λ f g.
    c.bare.ensures
    ∙ outside_line a.edition a.d.now f a.x a.y a.before (sym c.outside_scissors.ensures ∙ c.if-outside_scissors.true)

pub returns-then-k-eq0 : goal.returns-then-k-eq0
returns-then-k-eq0 c =
    let a = c.args in
    let k = c.covered_samples-k in
    λ f g.
    c.bare-then-k-eq0.ensures
    ∙ uncovered_line a.edition a.d.now f a.x a.y a.before (sym c.outside_scissors.ensures ∙ c.if-outside_scissors.false) k.result k.ensures c.if-k-eq0.true

pub covered_line-requires-clause-k_bound : goal.covered_line-requires-clause-k_bound
covered_line-requires-clause-k_bound c =
    let a = c.args in
    let few = coverage_at_most_16 (draw_edges a.edition a.d.now) (non_zero_rule a.d.now) a.x a.y in
    (subst (λ (z : ℕ). z ≤ 16) (sym c.covered_samples-k.ensures) few, c.requires.x_bound.0, c.requires.x_bound.1)

pub returns : goal.returns
returns c =
    let a = c.args in
    let k = c.covered_samples-k in
    λ f g.
    covered_line_lem a.edition a.d.now f a.x a.y a.before (sym c.outside_scissors.ensures ∙ c.if-outside_scissors.false) k.result k.ensures a.m
    c.covered_line.result c.if-k-eq0.false g c.covered_line.ensures
