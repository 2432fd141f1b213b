use Rattle.limits.proofs.Leaves.{report_leaves}
use Rattle.limits.proofs.calls.report_accepted.Goals as goal

pub returns : goal.returns
returns c =
    let a = c.args in
    let b = c.fill_bytes in
    let f = c.fill_numbers in
    let d = c.draw_unmasked in
    record {
      other_after = (report_leaves a.scene.now a.other.now b.new.s d.new.surface a.scratch.now f.new.s d.new.scratch b.ensures b.auto.s
          f.ensures
          f.auto.s (d.ensures.surface_after, d.ensures.scratch_after)).0;
      scratch_after = (report_leaves a.scene.now a.other.now b.new.s d.new.surface a.scratch.now f.new.s d.new.scratch b.ensures b.auto.s
          f.ensures
          f.auto.s (d.ensures.surface_after, d.ensures.scratch_after)).1;
    }
