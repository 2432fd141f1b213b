use mathlib.Core.Path.{◌≡◌, sym, ap, ◌∙◌}
use Prim.Native.Nat.{◌-◌}
use native.Mathlib.Omega.{arith}
use lib.ListN.{length, take, length-take}
use Rattle.planner.specs.Runs.{rect_at}
use Rattle.planner.proofs.Collected.{first_tab, first_numbers, first_sized}
use Rattle.planner.proofs.Plans.{written_nothing, parts_sized, written_parts}
use Rattle.lists.specs.Lists.{over}
use Rattle.planner.proofs.propose.Goals as goal

pub returns-then-is_empty : goal.returns-then-is_empty
returns-then-is_empty c =
    let a = c.args in
    let p = c.requires in
    let m = c.collect-m.result in
    let l = c.collect-m.new.boxes in
    let e : length (take (m - 0) l) ≡ m = omega (arith, length-take (m - 0) l, c.collect-m.ensures.0, c.collect-m.auto.boxes) in
    written_nothing a.old.now a.new.now p.accepted_scene.1 a.width a.height (length (take (m - 0) l)) (rect_at (take (m - 0) l)) c.around-area.result
    p.width_value.0.0 p.width_value.0.1
    (first_tab l (length (take (m - 0) l)) (m - 0) m e (omega arith) ∙ c.collect-m.ensures.1) c.around-area.ensures _
    (sym c.is_empty.ensures ∙ c.if-is_empty.true)

pub write-requires : goal.write-requires
write-requires c =
    let a = c.args in
    let p = c.requires in
    let m = c.collect-m.result in
    let l = c.collect-m.new.boxes in
    let n = c.divide-n.result in
    let rs = c.divide-n.new.rs in
    let e : length (take (m - 0) l) ≡ m = omega (arith, length-take (m - 0) l, c.collect-m.ensures.0, c.collect-m.auto.boxes) in
    let f : length (take (n - 0) rs) ≡ n = omega (arith, length-take (n - 0) rs, c.divide-n.ensures.tiling.few, c.divide-n.auto.rs) in
    record {
      n_in_bounds = omega (arith, f, c.divide-n.ensures.tiling.few, p.width_value.1);
      sized = first_sized rs (length (take (n - 0) rs)) (n - 0) n f (omega arith)
          (parts_sized a.old.now a.new.now p.accepted_scene.1 a.width a.height (length (take (m - 0) l)) (rect_at (take (m - 0) l)) c.around-area.result
          p.width_value.0.0 p.width_value.0.1
          (first_tab l (length (take (m - 0) l)) (m - 0) m e (omega arith) ∙ c.collect-m.ensures.1) c.around-area.ensures n (rect_at rs) c.divide-n.ensures);
    }

pub returns : goal.returns
returns c =
    let a = c.args in
    let p = c.requires in
    let m = c.collect-m.result in
    let l = c.collect-m.new.boxes in
    let n = c.divide-n.result in
    let rs = c.divide-n.new.rs in
    let e : length (take (m - 0) l) ≡ m = omega (arith, length-take (m - 0) l, c.collect-m.ensures.0, c.collect-m.auto.boxes) in
    let f : length (take (n - 0) rs) ≡ n = omega (arith, length-take (n - 0) rs, c.divide-n.ensures.tiling.few, c.divide-n.auto.rs) in
    written_parts a.old.now a.new.now p.accepted_scene.1 a.width a.height (length (take (m - 0) l)) (rect_at (take (m - 0) l)) c.around-area.result
    p.width_value.0.0 p.width_value.0.1
    (first_tab l (length (take (m - 0) l)) (m - 0) m e (omega arith) ∙ c.collect-m.ensures.1) c.around-area.ensures n (rect_at rs) c.divide-n.ensures _ _
    (sym c.is_empty.ensures ∙ c.if-is_empty.false)
    (c.write.ensures ∙ ap (λ t. over t a.rectangles.now) (first_numbers rs (length (take (n - 0) rs)) (n - 0) n f (omega arith)))
