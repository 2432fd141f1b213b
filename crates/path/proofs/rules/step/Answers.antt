-- `path::rules::step` meets its contract: each test is a test of the segment's code.
use Rattle.std.proofs.Common.{◌≡◌, ◌/◌, ◌<◌, ◌&&◌, cond, Ok, Err, sym, ap, ◌∙◌, arith}
use Rattle.codes.specs.declared.Code.TheVariants.{IllegalArgument, UnsupportedPathFormat}
use Rattle.path.specs.declared.Segment.{Segment}
use Rattle.path.specs.declared.Traced.{Traced}
use Rattle.path.specs.Segments.{curve_in_range, curve_on_grid, segment_code}
use Rattle.path.specs.Answers.{traced_by}
use Rattle.path.proofs.Codes.{code_arc, code_number, code_short, code_judged, step_refused, step_drawn}
use Rattle.path.proofs.rules.step.Goals as goal
use Rattle.path.proofs.rules.step.Tie as tie
use Rattle.path.proofs.rules.step.Lts as lts
use Rattle.path.proofs.rules.step.Reads as reads
use Rattle.path.proofs.rules.step.Goals.{else-command-ge-FIRST_ARC-via-then-command-ge-FIRST_ARC+else-command-le-LAST_ARC}
use Rattle.path.proofs.rules.step.Goals.{else-command-ge-FIRST_ARC-via-else-command-ge-FIRST_ARC}
use Rattle.path.proofs.rules.step.Goals.{then-command-gt-LAST_ARC-via-then-command-gt-LAST_ARC}
use Rattle.path.proofs.rules.step.Goals.{then-command-gt-LAST_ARC-via-else-command-gt-LAST_ARC+then-coordinates-walk}

pub returns-then-command-le-LAST_ARC : goal.returns-then-command-le-LAST_ARC
returns-then-command-le-LAST_ARC c =
    let a = c.args in
    let is : c.split-command.result.command ≡ a.byte / 2 = ap (λ (s : Segment). s.command) c.split-command.ensures in
    step_refused a.m a.coordinates.now a.walk a.byte UnsupportedPathFormat
    (code_arc a.m a.coordinates.now a.walk a.byte (omega (arith, is)) (omega (arith, is)))

pub returns-then-command-gt-LAST_ARC : goal.returns-then-command-gt-LAST_ARC
returns-then-command-gt-LAST_ARC c =
    let a = c.args in
    let is : c.split-command.result.command ≡ a.byte / 2 = ap (λ (s : Segment). s.command) c.split-command.ensures in
    step_refused a.m a.coordinates.now a.walk a.byte IllegalArgument (elim c.then-command-gt-LAST_ARC.branch [
      | then-command-gt-LAST_ARC-via-then-command-gt-LAST_ARC w ↦ code_number a.m a.coordinates.now a.walk a.byte
          (omega (arith, is, w.if-command-gt-LAST_ARC.true))
      | then-command-gt-LAST_ARC-via-else-command-gt-LAST_ARC+then-coordinates-walk w ↦
          code_short a.m a.coordinates.now a.walk a.byte (elim c.else-command-ge-FIRST_ARC.branch [
            | else-command-ge-FIRST_ARC-via-then-command-ge-FIRST_ARC+else-command-le-LAST_ARC v ↦ omega
                (arith, is, w.if-command-gt-LAST_ARC.false, v.if-command-le-LAST_ARC.false)
            | else-command-ge-FIRST_ARC-via-else-command-ge-FIRST_ARC v ↦ omega (arith, is, v.if-command-ge-FIRST_ARC.false)
          ])
          (omega (arith, w.taken.ensures.0, w.if-coordinates-walk.true))
    ])

-- they are judged
judged : (c : lts.After-accepts tie.the-claims reads.Pre reads.Post)
    → segment_code c.args.m c.args.coordinates.now c.args.walk c.args.byte ≡ cond c.accepts.result (Ok tt) (Err IllegalArgument)
unfolding traced_by
judged c =
    let a = c.args in
    let is : c.split-command.result.command ≡ a.byte / 2 = ap (λ (s : Segment). s.command) c.split-command.ensures in
    let segment : a.byte < 18 = elim c.else-command-ge-FIRST_ARC.branch [
      | else-command-ge-FIRST_ARC-via-then-command-ge-FIRST_ARC+else-command-le-LAST_ARC v ↦ omega
          (arith, is, c.if-command-gt-LAST_ARC.false, v.if-command-le-LAST_ARC.false)
      | else-command-ge-FIRST_ARC-via-else-command-ge-FIRST_ARC v ↦ omega (arith, is, v.if-command-ge-FIRST_ARC.false)
    ] in
    code_judged a.m a.coordinates.now a.walk a.byte segment (omega (arith, c.taken.ensures.0, c.if-coordinates-walk.false)) c.accepts.result
    (sym (c.accepts.ensures ∙ ap (λ (t : Traced). curve_in_range t.curve && curve_on_grid a.m t.curve) c.trace-t.ensures))

pub returns-then-accepts : goal.returns-then-accepts
returns-then-accepts c =
    let a = c.args in
    step_drawn a.m a.coordinates.now a.walk a.byte (rw c.if-accepts.true at (judged c.before.before)) c.trace-t.result c.trace-t.ensures

pub returns-else-accepts : goal.returns-else-accepts
returns-else-accepts c =
    let a = c.args in
    step_refused a.m a.coordinates.now a.walk a.byte IllegalArgument (rw c.if-accepts.false at (judged c.before.before))
