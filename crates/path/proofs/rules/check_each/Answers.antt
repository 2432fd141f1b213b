-- `path::rules::check_each` meets its contract. The invariant: the walk is that over the segments passed, which are accepted.
use Rattle.std.proofs.Common.{◌≡◌, get_or, sym, ap, subst, ◌∙◌, arith, add-one}
use Rattle.path.specs.declared.Walk.{Walk}
use Rattle.path.specs.declared.Traced.{Traced}
use Rattle.path.specs.Segments.{walk_to}
use Rattle.path.specs.Answers.{traced_by, step_of}
use Rattle.path.specs.Limits.{Ready}
use Rattle.path.proofs.Codes.{from_drawn, from_refused}
use Rattle.path.proofs.Faults.{accepted_next, accepted_ready, checked_refused, checked_accepted}
use Rattle.path.proofs.rules.check_each.Goals as goal

pub step-requires : goal.step-requires
step-requires c =
    let l = c.loop-i in
    let a = c.args in
    (c.requires.0, subst (Ready a.coordinates.now) (sym l.invariant.0) (accepted_ready a.m a.segments.now a.coordinates.now l.i l.invariant.1))

pub returns-in-Err : goal.returns-in-Err
returns-in-Err c =
    let l = c.loop-i in
    let a = c.args in
    let walk = walk_to a.segments.now a.coordinates.now l.i in
    let byte = get_or a.segments.now l.i 0 in
    let e = sym c.in-Err.is ∙ c.step.ensures ∙ ap (λ (w : Walk). step_of a.m a.coordinates.now w byte) l.invariant.0 in
    checked_refused a.m a.segments.now a.coordinates.now l.i c.in-Err.code a.n c.loop-i-test.true l.invariant.1
    (from_refused a.m a.coordinates.now walk byte c.in-Err.code e)

pub loop-i-preserved : goal.loop-i-preserved
unfolding traced_by
loop-i-preserved c =
    let l = c.loop-i in
    let a = c.args in
    let walk = walk_to a.segments.now a.coordinates.now l.i in
    let byte = get_or a.segments.now l.i 0 in
    let e = sym c.in-Ok.is ∙ c.step.ensures ∙ ap (λ (w : Walk). step_of a.m a.coordinates.now w byte) l.invariant.0 in
    let r = from_drawn a.m a.coordinates.now walk byte c.in-Ok.t e in
    rw add-one (ap (λ (t : Traced). t.walk) r.1, accepted_next a.m a.segments.now a.coordinates.now l.i l.invariant.1 r.0)

pub returns : goal.returns
returns c =
    let l = c.loop-i in
    let a = c.args in
    let e : l.i ≡ a.n = omega arith in
    checked_accepted a.m a.segments.now a.coordinates.now a.n l.walk.used
    (rw e at l.invariant.1) (ap (λ (w : Walk). w.used) (rw e at l.invariant.0))
