use mathlib.Core.Path.{◌≡◌, refl, sym, ◌∙◌}
use native.Mathlib.Omega.{arith}
use Rattle.codes.specs.Number.{number_of}
use Rattle.rescue.specs.Salvaged.{draw_code}
use Rattle.rescue.proofs.Verdicts.{not_zero}
use Rattle.rescue.proofs.Parts.{kept, refused}
use Rattle.rescue.proofs.Listed.{none_listed, kept_turn, replaced_turn, listed_turn}
use Rattle.rescue.proofs.write.write_list.Goals as goal
use Rattle.rescue.proofs.write.write_list.Goals.{in-Err, in_default}

pub loop-i-init : goal.loop-i-init
loop-i-init c =
    let none = none_listed c.args.s.now c.args.list.now in
    (omega arith, refl, none.0, none.1)

pub loop-i-preserved : goal.loop-i-preserved
loop-i-preserved c =
    let told = c.draw_fault.ensures in
    let l = c.loop-i in
    let a = c.args in
    let s = a.s.now in
    elim c.match-draw_fault.branch [
      | in-Err w ↦
          let code = w.in-Err.f.code in
          let e : number_of code ≡ draw_code s l.i = refused s l.i w.in-Err.f (sym told ∙ w.in-Err.is) in
          let bad : draw_code s l.i ≡ 0 → ⊥ = rw (← e) (not_zero code) in
          let t = (replaced_turn s l.i bad).1 in (
            rw w.k-is (omega arith),
            c.match-draw_fault.auto.list ∙ l.invariant.1,
            w.k-is ∙ rw (t, l.invariant.2),
            w.list-is ∙ w.put_entry.ensures
                ∙ listed_turn s l.i l.list a.list.now l.k w.number.result bad (w.number.ensures ∙ e) l.invariant.2 l.invariant.3 l.invariant.1,
          )
      | in_default w ↦
          let t = kept_turn s l.i (kept s l.i (sym told ∙ w.in_default.is)) in (
            rw w.k-is (omega arith),
            c.match-draw_fault.auto.list ∙ l.invariant.1,
            w.k-is ∙ l.invariant.2 ∙ sym t.1,
            w.list-is ∙ l.invariant.3 ∙ rw t.0,
          )
    ]
