-- A proposal's numbers: their sizes, and both axes of a rectangle.
use mathlib.Core.Path.{◌≡◌}
use mathlib.Core.Bool.{true, ◌&&◌, false≢true}
use mathlib.Core.List.{List}
use Prim.Native.Nat.{ℕ, ◌+◌, ◌/◌, ◌≤◌, ◌<◌}
use native.Mathlib.Omega.{arith}
use lib.IntN.{ℤ, pos, negsuc, nat_abs, ◌+ℤ◌}
use lib.Signed.{le_z, lt_z}
use lib.ListN.{length}
use borrow.Author.Tests.{leb-true}
use Rattle.rect.specs.Rects.{On}
use Rattle.rect.proofs.Laws.{both}
use Rattle.regions.specs.Proposals.{x_at, y_at, width_at, height_at, lies, lies_in, proposed_at}
use Rattle.regions.specs.Runs.{AllOn}

-- ---- what lies in a surface is on it
ends_of : (start size : ℤ) (limit : ℕ) → le_z (pos 0) start ≡ true → lt_z (pos 0) size ≡ true → le_z (start +ℤ size) (pos limit) ≡ true
    → nat_abs start + nat_abs size ≤ limit
ends_of (pos a) (pos b) limit p q r = leb-true (a + b) limit r
ends_of (pos a) (negsuc b) limit p q r = absurd (false≢true q)
ends_of (negsuc a) size limit p q r = absurd (false≢true p)

ends_in : (start size : ℤ) (limit : ℕ) → lies start size limit ≡ true → nat_abs start + nat_abs size ≤ limit
ends_in start size limit h =
    let p = both (le_z (pos 0) start) (lt_z (pos 0) size && le_z (start +ℤ size) (pos limit)) h in
    let q = both (lt_z (pos 0) size) (le_z (start +ℤ size) (pos limit)) p.1 in
    ends_of start size limit p.0 q.0 q.1

pub lying_on : (w h : ℕ) (l : List ℤ) (k : ℕ) → lies_in w h l k ≡ true → On w h (proposed_at l k)
unfolding lies_in
lying_on w h l k e =
    let p = both (lies (x_at l k) (width_at l k) w) (lies (y_at l k) (height_at l k) h) e in
    record {
      across = omega arith;
      wide = ends_in (x_at l k) (width_at l k) w p.0;
      up = omega arith;
      high = ends_in (y_at l k) (height_at l k) h p.1;
    }

pub all_lying_on : (w h m n : ℕ) (l : List ℤ) → w ≤ m → h ≤ n → ((k : ℕ) → k < length l / 4 → lies_in w h l k ≡ true) → AllOn m n l
all_lying_on w h m n l a b e k i =
    let o = lying_on w h l k (e k i) in
    record { across = o.across; wide = omega (arith, o.wide, a); up = o.up; high = omega (arith, o.high, b) }
