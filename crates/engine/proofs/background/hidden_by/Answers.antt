-- `background::hidden_by` meets its contract: the edges are laid, looked at and cleared.
use mathlib.Core.Path.{refl, ap, ◌∙◌}
use Rattle.rect.specs.Rects.{empty_of}
use Rattle.path.specs.Stored.{edges_of}
use Rattle.engine.specs.Unclamped.{unclamped_step}
use Rattle.engine.proofs.Hiding.{covering_hides, empty_hides}
use Rattle.engine.proofs.background.hidden_by.Goals as goal

pub covered_rect-r-requires : goal.covered_rect-r-requires
covered_rect-r-requires c =
    record { outlined = c.lay_edges-n.ensures.laid.ready; width_bound = c.requires.width_bound }

pub returns-then-hides_covered : goal.returns-then-hides_covered
returns-then-hides_covered c =
    let a = c.args in
    let l = c.lay_edges-n in
    let r = c.covered_rect-r in
    record {
      scratch_unchanged = c.clear_edges.ensures ∙ l.ensures.scratch_after;
      hides = covering_hides a.edition r.result a.d.now (edges_of l.new.scratch l.result) (c.hides_covered.ensures c.if-hides_covered.true)
          l.ensures.laid.edges r.ensures;
    }

pub returns : goal.returns
returns c =
    let a = c.args in
    record { scratch_unchanged = refl; hides = empty_hides _ (unclamped_step a.edition a.d.now) refl }
