-- `positions::is_inner` meets its contract.
use Rattle.std.proofs.Common.{◌≡◌, true, T, pos, sym, ◌∙◌, subst, to_z-of_z}
use lib.Signed.{le_z, lt_z}
use Rattle.paint.proofs.positions.is_inner.Goals as goal

pub returns-then-t-ge0 : goal.returns-then-t-ge0
returns-then-t-ge0 c e =
    let t = c.args.t in
    let from : le_z (pos 0) t ≡ true = rw (to_z-of_z c.ranges.t) at c.if-t-ge0.true in
    let to : lt_z t (pos 1152921504606846976) ≡ true = rw (to_z-of_z c.ranges.t) at e in
    record { above = record { le = subst T (sym from) tt }; below = record { lt = subst T (sym to) tt } }

pub returns-else-t-ge0 : goal.returns-else-t-ge0
returns-else-t-ge0 c e =
    absurd (subst T (sym e ∙ c.if-t-ge0.false) tt)
