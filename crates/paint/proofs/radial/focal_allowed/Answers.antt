-- `radial::focal_allowed` meets its contract.
use Rattle.std.proofs.Common.{◌≡◌, Bool, pos, w64, to_z, of_z}
use lib.Signed.{lt_z}
use Rattle.fixed.proofs.Signed.{back, clean}
use Rattle.paint.proofs.radial.focal_allowed.Goals as goal
use Rattle.paint.proofs.radial.focal_allowed.Tie as tie
use Rattle.paint.proofs.radial.focal_allowed.Lts as lts
use Rattle.paint.proofs.radial.focal_allowed.Reads as reads

-- what the test tells of the radius
told : (s : lts.Start tie.the-claims reads.Pre reads.Post) {t : Bool} → lt_z (pos 0) (to_z w64 (of_z w64 s.args.c.r)) ≡ t → lt_z (pos 0) s.args.c.r ≡ t
told s e = rw (clean w64 16384 s.args.c.r tt s.requires.r) at e

pub returns-then-c-gt0 : goal.returns-then-c-gt0
returns-then-c-gt0 c =
    let d = c.circle_d in
    rw (told c.before.before.before.before c.if-c-gt0.true, back w64 d.result d.type_inv, d.ensures)

pub returns-else-c-gt0 : goal.returns-else-c-gt0
returns-else-c-gt0 c =
    rw (told c.before.before.before c.if-c-gt0.false)
