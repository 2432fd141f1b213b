-- `gradient::linear_t` meets its contract.
use Rattle.std.proofs.Common.{◌≡◌, ℤ, nat_abs, sym, ap, ◌∙◌, ap₂, w64, eq-eqb, ne_eqb}
use Rattle.fixed.specs.Floor.{floor_div}
use Rattle.fixed.proofs.Signed.{back, zero_yes, zero_no}
use Rattle.paint.specs.Gradient.{linear_t, squared_length}
use Rattle.paint.proofs.Slope.{squared_is, above}
use Rattle.paint.proofs.gradient.linear_t.Goals as goal

-- the points do not coincide
apart : (c : goal.Else-d-eq0) → nat_abs (squared_length c.args.p) ≡ 0 → ⊥
apart c e = zero_no w64 c.squared_length-d.result c.if-d-eq0.false (ap nat_abs c.squared_length-d.ensures ∙ e)

pub squared_length-d-requires : goal.squared_length-d-requires
squared_length-d-requires c =
    c.requires.limited_points

pub returns-then-d-eq0 : goal.returns-then-d-eq0
unfolding linear_t
returns-then-d-eq0 c =
    let d = c.squared_length-d in
    rw (eq-eqb _ _ (ap nat_abs (sym d.ensures) ∙ zero_yes w64 d.result d.type_inv c.if-d-eq0.true))

pub numerator-requires : goal.numerator-requires
numerator-requires c =
    record { limited_points = c.requires.limited_points; x_bound = c.requires.x_bound }

pub floor_div-requires : goal.floor_div-requires
floor_div-requires c =
    let d = c.squared_length-d in
    rw (back w64 d.result d.type_inv, d.ensures) (above (squared_is c.args.p) (apart c.before))

pub returns : goal.returns
unfolding linear_t
returns c =
    let d = c.squared_length-d in
    let n = c.numerator in
    rw (ne_eqb _ _ (apart c.before.before))
    (back w64 c.floor_div.result c.floor_div.type_inv ∙ c.floor_div.ensures
    ∙ ap₂ (λ (a b : ℤ). floor_div a (nat_abs b)) (back w64 n.result n.type_inv ∙ n.ensures) (back w64 d.result d.type_inv ∙ d.ensures))
