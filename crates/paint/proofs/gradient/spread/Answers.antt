-- `gradient::spread` meets its contract.
use Rattle.std.proofs.Common.{◌≡◌, ◌-◌, ◌%◌, ◌≤◌, ℤ, pos, nat_abs, sym, ap, ◌∙◌, arith, lit<, to_z-of_z, w64, of_z, eq-eqb, ne_eqb}
use Rattle.fixed.specs.Floor.{floor_div, floor_mod}
use Rattle.fixed.proofs.Means.{Num, need, keep, lit, sub, said}
use Rattle.fixed.proofs.Signed.{back}
use Rattle.paint.specs.Gradient.{ramp_unit, mapped}
use Rattle.paint.proofs.Sizes.{sized}
use Rattle.paint.proofs.Folded.{parity, rest_below, reversed}
use Rattle.paint.proofs.gradient.spread.Goals as goal
use Rattle.paint.proofs.gradient.spread.Tie as tie
use Rattle.paint.proofs.gradient.spread.Lts as lts
use Rattle.paint.proofs.gradient.spread.Reads as reads

abbrev t : lts.After-floor_mod3 tie.the-claims reads.Pre reads.Post → ℤ
t c = c.args.t

-- t modulo 65,536, and the parity of how often 65,536 goes into it
rest : (c : lts.After-floor_mod3 tie.the-claims reads.Pre reads.Post) → c.floor_mod-rest.result ≡ pos (floor_mod (t c) ramp_unit)
rest c =
    c.floor_mod-rest.ensures ∙ rw (to_z-of_z c.ranges.t)

odd : (c : lts.After-floor_mod3 tie.the-claims reads.Pre reads.Post)
    → of_z w64 c.floor_mod-then-mode-eq-REFLECT.result ≡ nat_abs (floor_div (t c) ramp_unit) % 2
odd c =
    let q = c.floor_div in
    let e : q.result ≡ floor_div (t c) ramp_unit = q.ensures ∙ rw (to_z-of_z c.ranges.t) in
    ap (of_z w64) c.floor_mod-then-mode-eq-REFLECT.ensures ∙ ap (λ (z : ℤ). floor_mod z 2) (back w64 q.result q.type_inv ∙ e)
    ∙ parity (floor_div (t c) ramp_unit)

abbrev back_again : goal.Then-floor_mod-eq1 → Num
back_again c =
    let m = floor_mod (t c.before) ramp_unit in
    let h : m ≤ 65536 = omega (arith, rest_below (t c.before) ramp_unit (lit< tt)) in
    said (sub (lit 65536) (said (sized 65536 c.floor_mod-rest.result tt (rw (rest c.before) h)) (pos m) (rest c.before))) (pos (65536 - m)) (reversed m h)

pub floor_mod-requires : goal.floor_mod-requires
floor_mod-requires c =
    record { lt = tt }

pub returns-then-mode-eq-REPEAT : goal.returns-then-mode-eq-REPEAT
unfolding mapped
returns-then-mode-eq-REPEAT c =
    rw (eq-eqb _ _ c.if-mode-eq-REPEAT.true)
    (back w64 c.floor_mod.result c.floor_mod.type_inv ∙ c.floor_mod.ensures ∙ rw (to_z-of_z c.ranges.t))

pub floor_mod-rest-requires : goal.floor_mod-rest-requires
floor_mod-rest-requires c =
    record { lt = tt }

pub floor_div-requires : goal.floor_div-requires
floor_div-requires c =
    record { lt = tt }

pub floor_mod-requires-then-mode-eq-REFLECT : goal.floor_mod-requires-then-mode-eq-REFLECT
floor_mod-requires-then-mode-eq-REFLECT c =
    record { lt = tt }

pub overflow_sub-result : goal.overflow_sub-result
overflow_sub-result c =
    need (back_again c) tt

pub returns-then-floor_mod-eq1 : goal.returns-then-floor_mod-eq1
unfolding mapped
returns-then-floor_mod-eq1 c =
    rw (ne_eqb _ _ c.if-mode-eq-REPEAT.false, eq-eqb _ _ c.if-mode-eq-REFLECT.true, eq-eqb _ _ (sym (odd c.before) ∙ c.if-floor_mod-eq1.true))
    (keep w64 (back_again c) tt).same

pub returns-then-mode-eq-REFLECT : goal.returns-then-mode-eq-REFLECT
unfolding mapped
returns-then-mode-eq-REFLECT c =
    let m = c.floor_mod-rest in
    rw (ne_eqb _ _ c.if-mode-eq-REPEAT.false, eq-eqb _ _ c.if-mode-eq-REFLECT.true, ne_eqb _ _ (λ e. c.if-floor_mod-eq1.false (odd c.before ∙ e)))
    (back w64 m.result m.type_inv ∙ rest c.before)

pub returns : goal.returns
unfolding mapped
returns c =
    rw (ne_eqb _ _ c.if-mode-eq-REPEAT.false, ne_eqb _ _ c.if-mode-eq-REFLECT.false) (to_z-of_z c.ranges.t)
