use mathlib.Core.Path.{◌≡◌, sym, ap, ◌∙◌}
use Prim.Native.Nat.{ℕ, max}
use native.Mathlib.Omega.{arith}
use Rattle.scene.specs.Header.{count_of}
use Rattle.damage.specs.Damage.{boxes_at}
use Rattle.regions.specs.Pixels.{every, each, covers}
use Rattle.regions.specs.Proposals.{proposed}
use Rattle.regions.proofs.Every.{every_turn, every_no, each_upto, of_not, of_not_no}
use Rattle.regions.proofs.accept.draws_covered.Goals as goal

pub returns-then-not-draw_covered : goal.returns-then-not-draw_covered
returns-then-not-draw_covered c =
    let n = c.most_draws-n in
    let l = c.loop-i in
    let a = c.args in
    sym (every_no (λ (j : ℕ). each (covers (proposed a.rectangles.now)) (boxes_at a.width a.height a.old.now a.new.now j))
    (max (count_of a.old.now) (count_of a.new.now)) l.i (omega (arith, n.ensures))
    (sym c.draw_covered.ensures ∙ of_not _ c.if-not-draw_covered.true-raw))
    ∙ each_upto (covers (proposed a.rectangles.now)) (max (count_of a.old.now) (count_of a.new.now)) (boxes_at a.width a.height a.old.now a.new.now)

pub loop-i-preserved : goal.loop-i-preserved
loop-i-preserved c =
    let l = c.loop-i in
    let a = c.args in
    every_turn (λ (j : ℕ). each (covers (proposed a.rectangles.now)) (boxes_at a.width a.height a.old.now a.new.now j)) l.i l.invariant
    (sym c.draw_covered.ensures ∙ of_not_no _ c.if-not-draw_covered.false-raw)

pub returns : goal.returns
returns c =
    let l = c.loop-i in
    let a = c.args in
    let n = c.most_draws-n in
    let last : l.i ≡ n.result = omega arith in
    sym (sym (ap (λ (k : ℕ). every k (λ (j : ℕ). each (covers (proposed a.rectangles.now)) (boxes_at a.width a.height a.old.now a.new.now j)))
    (last ∙ n.ensures)) ∙ l.invariant) ∙ each_upto (covers (proposed a.rectangles.now)) (max (count_of a.old.now) (count_of a.new.now))
    (boxes_at a.width a.height a.old.now a.new.now)
