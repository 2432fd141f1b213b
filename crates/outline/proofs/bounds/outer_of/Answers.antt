-- `outline::bounds::outer_of` meets its contract.
use Rattle.std.proofs.Common.{◌≡◌, ℕ, ℤ, pos, negsuc, Bool, true, false, not, cond, ltb, leb, refl, ◌∙◌}
use borrow.Author.Rules.{sfits_of}
use borrow.Author.Tests.{le-ltb, lt-ltb, leb-true, leb-false}
use lib.Signed.{lt_z, le_z}
use mir.Syntax.{w32}
use mir.Facts.{to_z-of_z}
use Rattle.path.specs.Boxes.{outer}
use Rattle.outline.proofs.bounds.outer_of.Goals as goal

-- a test that turns another round picks the other
less : (m n : ℕ) → ltb m n ≡ not (leb n m)
less m n = by (leb n m) refl
  where
    by : (t : Bool) → leb n m ≡ t → ltb m n ≡ not t
    by true e = le-ltb m n (leb-true n m e)
    by false e = lt-ltb m n (leb-false n m e)

below : (a b : ℤ) → lt_z b a ≡ not (le_z a b)
below (pos a) (pos b) = less b a
below (pos a) (negsuc b) = refl
below (negsuc a) (pos b) = refl
below (negsuc a) (negsuc b) = less a b

picked : (a b x y : ℤ) → cond (lt_z b a) x y ≡ cond (le_z a b) y x
picked a b x y = rw (below a b) (by (le_z a b))
  where
    by : (t : Bool) → cond (not t) x y ≡ cond t y x
    by true = refl
    by false = refl

pub returns-then-greater : goal.returns-then-greater
unfolding outer
returns-then-greater c =
    to_z-of_z {w = w32} (sfits_of c.max.type_inv)
    ∙ rw (to_z-of_z c.ranges.a, to_z-of_z c.ranges.b) at c.max.ensures.value ∙ rw c.if-greater.true (picked c.args.a c.args.b c.args.a c.args.b)

pub returns-else-greater : goal.returns-else-greater
unfolding outer
returns-else-greater c =
    to_z-of_z {w = w32} (sfits_of c.min.type_inv)
    ∙ rw (to_z-of_z c.ranges.a, to_z-of_z c.ranges.b) at c.min.ensures.value ∙ rw c.if-greater.false (picked c.args.a c.args.b c.args.b c.args.a)
