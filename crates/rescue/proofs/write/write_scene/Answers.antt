use mathlib.Core.Path.{◌≡◌, refl, ap₂, ◌∙◌}
use mathlib.Core.List.{List, ◌++◌}
use Prim.Native.Nat.{ℕ, ◌-◌, ◌*◌}
use native.Mathlib.Omega.{arith}
use lib.ListN.{length, take, drop}
use lib.Seq.{length-take-le}
use Rattle.rescue.specs.Salvaged.{draw_span}
use Rattle.scene.proofs.Copies.{part_kept}
use Rattle.rescue.proofs.Parts.{two_parts, scene_parts}
use Rattle.rescue.proofs.write.write_scene.Goals as goal

pub returns : goal.returns
returns c =
    let o = c.args.out.now in
    let copy = c.copy_row in
    let q = copy.new.row in
    let r = c.write_draws.new.out in
    let wide : length q ≡ 512 = copy.auto.row ∙ length-take-le 512 o (omega arith) in
    let size : length (take 0 o ++ (q ++ drop 512 (drop 0 o))) ≡ length o = part_kept o q 0 512 512 (omega arith) wide refl in
    two_parts o q r (draw_span * c.args.n) 512 (length (take 0 o ++ (q ++ drop 512 (drop 0 o))) - 512) wide (omega arith) refl (omega arith)
    ∙ ap₂ (λ (x y : List ℕ). x ++ y) copy.ensures c.write_draws.ensures
    ∙ scene_parts c.args.s.now c.args.n c.requires.0
