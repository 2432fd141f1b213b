-- `path::tracing::trace_line` meets its contract. Assumes nothing.
use mathlib.Core.Path.{ap, ◌∙◌}
use Prim.Native.Nat.{◌+◌}
use Rattle.path.specs.declared.Pen.{Pen}
use Rattle.path.specs.Segments.{line_to, coordinate_from}
use Rattle.path.specs.Answers.{traced_as, traced_by}
use Rattle.path.proofs.Traces.{line_end}
use Rattle.path.proofs.tracing.trace_line.Goals as goal

pub returns : goal.returns
unfolding traced_by
returns c =
    let taken = c.taken in
    let a = c.args in
    let p = c.line_pen-pen in
    let u = taken.ensures.0 in
    let e = line_end a.walk.pen a.byte (coordinate_from a.coordinates.now a.walk.used) c.requires.1 in
    let d = c.line.ensures ∙ ap (λ (q : Pen). line_to q.current) p.ensures ∙ e in
    c.traced.ensures ∙ (λ i. traced_as (a.walk.used + u i) (p.ensures i) (d i))
