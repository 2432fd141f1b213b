use mathlib.Core.Path.{ap, ◌∙◌}
use lib.ListN.{length}
use Rattle.std.proofs.Common.{option_map}
use Rattle.limits.specs.Calls.{bytes}
use Rattle.limits.proofs.Leaves.{accepted_leaves, refused_leaves}
use Rattle.limits.proofs.calls.run_lent.Goals as goal

pub returns-then-answer-eq-ACCEPTED : goal.returns-then-answer-eq-ACCEPTED
returns-then-answer-eq-ACCEPTED c =
    let a = c.args in
    let s = c.fill_bytes in
    let o = c.fill_bytes-2 in
    let k = c.lend-answer in
    let p = c.report_accepted in
    record {
      surface_after = (accepted_leaves (option_map (λ o. o.now) a.old) a.new.now (length a.surface.now) (length a.scratch.now) s.new.s o.new.s k.result
          k.new.surface k.new.other k.new.scratch s.ensures (o.ensures ∙ ap (bytes 0) c.requires) s.auto.s
          (k.ensures.value, (k.ensures.surface_after, (k.ensures.other_after, k.ensures.scratch_after)))
          _ _ p.new.other p.new.scratch c.if-answer-eq-ACCEPTED.true (k.auto.other ∙ o.auto.s ∙ c.requires) k.auto.scratch
          (p.ensures.other_after, p.ensures.scratch_after)).0;
      other_after = (accepted_leaves (option_map (λ o. o.now) a.old) a.new.now (length a.surface.now) (length a.scratch.now) s.new.s o.new.s k.result
          k.new.surface k.new.other k.new.scratch s.ensures (o.ensures ∙ ap (bytes 0) c.requires) s.auto.s
          (k.ensures.value, (k.ensures.surface_after, (k.ensures.other_after, k.ensures.scratch_after)))
          _ _ p.new.other p.new.scratch c.if-answer-eq-ACCEPTED.true (k.auto.other ∙ o.auto.s ∙ c.requires) k.auto.scratch
          (p.ensures.other_after, p.ensures.scratch_after)).1.0;
      scratch_after = (accepted_leaves (option_map (λ o. o.now) a.old) a.new.now (length a.surface.now) (length a.scratch.now) s.new.s o.new.s k.result
          k.new.surface k.new.other k.new.scratch s.ensures (o.ensures ∙ ap (bytes 0) c.requires) s.auto.s
          (k.ensures.value, (k.ensures.surface_after, (k.ensures.other_after, k.ensures.scratch_after)))
          _ _ p.new.other p.new.scratch c.if-answer-eq-ACCEPTED.true (k.auto.other ∙ o.auto.s ∙ c.requires) k.auto.scratch
          (p.ensures.other_after, p.ensures.scratch_after)).1.1;
    }

pub returns-else-answer-eq-ACCEPTED : goal.returns-else-answer-eq-ACCEPTED
returns-else-answer-eq-ACCEPTED c =
    let a = c.args in
    let s = c.fill_bytes in
    let o = c.fill_bytes-2 in
    let k = c.lend-answer in
    record {
      surface_after = (refused_leaves (option_map (λ o. o.now) a.old) a.new.now (length a.surface.now) (length a.scratch.now) s.new.s o.new.s k.result
          k.new.surface k.new.other k.new.scratch s.ensures (o.ensures ∙ ap (bytes 0) c.requires) s.auto.s
          (k.ensures.value, (k.ensures.surface_after, (k.ensures.other_after, k.ensures.scratch_after)))
          c.if-answer-eq-ACCEPTED.false).0;
      other_after = (refused_leaves (option_map (λ o. o.now) a.old) a.new.now (length a.surface.now) (length a.scratch.now) s.new.s o.new.s k.result
          k.new.surface k.new.other k.new.scratch s.ensures (o.ensures ∙ ap (bytes 0) c.requires) s.auto.s
          (k.ensures.value, (k.ensures.surface_after, (k.ensures.other_after, k.ensures.scratch_after)))
          c.if-answer-eq-ACCEPTED.false).1.0;
      scratch_after = (refused_leaves (option_map (λ o. o.now) a.old) a.new.now (length a.surface.now) (length a.scratch.now) s.new.s o.new.s k.result
          k.new.surface k.new.other k.new.scratch s.ensures (o.ensures ∙ ap (bytes 0) c.requires) s.auto.s
          (k.ensures.value, (k.ensures.surface_after, (k.ensures.other_after, k.ensures.scratch_after)))
          c.if-answer-eq-ACCEPTED.false).1.1;
    }
