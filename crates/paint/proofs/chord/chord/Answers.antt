-- `chord::chord` meets its contract.
use Rattle.std.proofs.Common.{◌≡◌, Bool, T, pos, ◌-ℤ◌, ◌*ℤ◌, nat_abs, ◌<ℤ◌, sym, ◌∙◌, subst, arith, to_z-of_z, w64, to_z, of_z}
use lib.Signed.{le_z}
use Rattle.fixed.proofs.Roots.{root_small}
use Rattle.fixed.proofs.Sign.{is_positive}
use Rattle.fixed.proofs.Signed.{back}
use Rattle.paint.proofs.Focal.{above_zero, natural_cast}
use Rattle.paint.proofs.Outer.{row_enclosing, none_enclosing}
use Rattle.paint.proofs.chord.chord.Goals as goal
use Rattle.paint.proofs.chord.chord.Tie as tie
use Rattle.paint.proofs.chord.chord.Lts as lts
use Rattle.paint.proofs.chord.chord.Reads as reads

-- ---- r² - ey²
rest-is : (c : lts.After-less_squared tie.the-claims reads.Pre reads.Post) → let a = c.args in c.less_squared-rest.result ≡ a.r *ℤ a.r -ℤ a.ey *ℤ a.ey
rest-is c = c.less_squared-rest.ensures.0 ∙ rw (to_z-of_z c.ranges.r, to_z-of_z c.ranges.ey)

read : (c : lts.After-less_squared tie.the-claims reads.Pre reads.Post) → to_z w64 (of_z w64 c.less_squared-rest.result) ≡ c.less_squared-rest.result
read c = back w64 c.less_squared-rest.result c.less_squared-rest.type_inv

-- what the test tells of it
told : (c : lts.After-less_squared tie.the-claims reads.Pre reads.Post) {t : Bool} → le_z (to_z w64 (of_z w64 c.less_squared-rest.result)) (pos 0) ≡ t
    → le_z c.less_squared-rest.result (pos 0) ≡ t
told c e = rw (read c) at e

above : (c : goal.Else-rest-le0) → pos 0 <ℤ c.less_squared-rest.result
above c = above_zero c.less_squared-rest.result (told c.before c.if-rest-le0.false)

pub returns-then-rest-le0 : goal.returns-then-rest-le0
returns-then-rest-le0 c =
    let a = c.args in
    none_enclosing a.r a.ey a.ex c.less_squared-rest.result a.n (rest-is c.before)
    (record { le = subst T (sym (told c.before c.if-rest-le0.true)) tt })

pub overflow_cast-rest : goal.overflow_cast-rest
overflow_cast-rest c =
    rw (read c.before) (natural_cast _ (is_positive (above c)), record { fits = omega (arith, c.less_squared-rest.ensures.1) })

pub overflow_cast-r : goal.overflow_cast-r
overflow_cast-r c =
    rw (to_z-of_z c.ranges.r) (natural_cast _ (is_positive c.requires.3), record { fits = omega (arith, c.requires.0) })

pub isqrt_near-requires : goal.isqrt_near-requires
isqrt_near-requires c =
    rw (read c.before) (omega (arith, c.less_squared-rest.ensures.1))

pub columns_from-requires : goal.columns_from-requires
columns_from-requires c =
    let small = root_small (nat_abs (to_z w64 (of_z w64 c.less_squared-rest.result))) (isqrt_near-requires c.before) in
    (rw (to_z-of_z c.ranges.ex) c.requires.1, omega (arith, small, c.isqrt_near.ensures))

pub returns : goal.returns
returns c =
    let a = c.args in
    let rest = c.less_squared-rest.result in
    rw (c.columns_from.ensures, to_z-of_z c.ranges.ex, c.isqrt_near.ensures, read c.before.before.before)
    (row_enclosing a.r a.ey a.ex rest a.n (rest-is c.before.before.before) (above c.before.before))
