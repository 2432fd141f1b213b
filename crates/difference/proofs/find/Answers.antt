use mathlib.Core.Path.{◌≡◌, refl, ◌∙◌}
use Prim.Native.Nat.{◌+◌, ◌-◌, ◌*◌}
use native.Mathlib.Omega.{arith}
use Rattle.difference.proofs.Turns.{no_rows, all_rows, none_noted, rows_turn}
use Rattle.difference.proofs.find.Goals as goal

pub loop-y-init : goal.loop-y-init
loop-y-init c =
    let a = c.args in (
      c.nothing-found.ensures ∙ no_rows a.width a.height a.a.now a.b.now a.height (a.height - a.height) (omega arith),
      rw c.nothing-found.ensures (none_noted a.width a.height c.requires.width_nonzero.1 c.requires.width_nonzero.2),
    )

pub loop-y-preserved : goal.loop-y-preserved
loop-y-preserved c =
    let l = c.loop-y in
    let a = c.args in (
      rows_turn a.width a.height a.a.now a.b.now l.y l.found c.with_row-found.result ((l.y - 1) * (a.width * 4) + a.width * 4)
          (omega arith) (omega arith) refl l.invariant.0 c.with_row-found.ensures.value,
      c.with_row-found.ensures.noted_2,
    )

pub returns : goal.returns
returns c =
    let l = c.loop-y in
    let a = c.args in
    let z : l.y ≡ 0 = omega arith in
    let n : a.height - l.y ≡ a.height = omega arith in
    record { value = l.invariant.0 ∙ all_rows a.width a.height a.a.now a.b.now l.y (a.height - l.y) z n; noted = rw z at l.invariant.1 }
