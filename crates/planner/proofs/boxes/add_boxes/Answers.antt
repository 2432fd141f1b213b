use mathlib.Core.Path.{refl, sym, ◌∙◌}
use native.Mathlib.Omega.{arith}
use borrow.Author.Tests.{not-true, not-false}
use Rattle.planner.proofs.Collected.{none_put, both_put}
use Rattle.planner.proofs.boxes.add_boxes.Goals as goal

pub returns-then-not-is_changed : goal.returns-then-not-is_changed
returns-then-not-is_changed c =
    let a = c.args in
    record {
      upper_bound = omega arith;
      boxes_after = none_put a.width a.height a.old.now a.new.now a.i a.boxes.now a.m
          (sym c.is_changed.ensures ∙ not-true c.is_changed.result c.if-not-is_changed.true-raw);
    }

pub returns : goal.returns
returns c =
    let a = c.args in
    record {
      upper_bound = omega arith;
      boxes_after = both_put a.width a.height a.old.now a.new.now a.i a.boxes.now _ _ a.m _ _
          (omega (arith, c.requires.width_bound)) (sym c.is_changed.ensures ∙ not-false c.is_changed.result c.if-not-is_changed.false-raw)
          c.box_of.ensures c.box_of-2.ensures refl refl;
    }
