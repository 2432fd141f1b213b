-- The points of a segment and the pen after it, by its command: half its byte, rounded down.
use mathlib.Core.Path.{◌≡◌, refl, subst}
use mathlib.Core.List.{List}
use mathlib.Core.Bool.{Bool, true, false, cond, ◌||◌}
use Prim.Native.Nat.{ℕ, zero, suc, ◌+◌, ◌*◌, ◌/◌, ◌%◌, ◌^◌, ◌≤◌, ◌<◌}
use native.Mathlib.Omega.{arith}
use lib.Dec.{T, leb, ltb, eqb, lit≤, leb→le}
use borrow.Author.Tests.{ltb-true, eqb-true}
use lib.ListN.{length, get_or}
use lib.IntN.{ℤ, pos, ◌+ℤ◌}
use Rattle.fixed.proofs.Upto.{upto}
use Rattle.fixed.proofs.Tests.{is_true}
use Rattle.path.specs.declared.Point.{Point}
use Rattle.path.specs.declared.Pen.{Pen}
use Rattle.path.specs.declared.Walk.{Walk}
use Rattle.path.specs.Segments.{taking, coordinates_taken, relative, point, pen_at, reflected, base, line_to, quad_to, cubic_to, pair_at, points_of, pen_after}
use Rattle.path.specs.Answers.{traced_as}
use Rattle.path.specs.Limits.{Near, Held, Supplied}

-- ---- coordinates
few : ℕ → Bool
few byte = leb (coordinates_taken byte) 6

pub takes_few : (byte : ℕ) → byte < 18 → coordinates_taken byte ≤ 6
unfolding few
takes_few byte h = leb→le (coordinates_taken byte) 6 (upto few 18 tt byte h)

-- four bits for each command
packed : ℕ → Bool
packed byte = eqb (17821667872 / 2 ^ (byte / 2 * 4) % 16) (coordinates_taken byte)

pub packed_takes : (byte : ℕ) → byte < 18 → 17821667872 / 2 ^ (byte / 2 * 4) % 16 ≡ coordinates_taken byte
unfolding packed
packed_takes byte h = eqb-true (17821667872 / 2 ^ (byte / 2 * 4) % 16) (coordinates_taken byte) (is_true (packed byte) (upto packed 18 tt byte h))

-- a curve takes a point at least
some : ℕ → Bool
some byte = ltb byte 10 || leb 2 (coordinates_taken byte)

-- by the command
abbrev pub taken_by : ℕ → ℕ
taken_by command = get_or taking command 0

pub enough_at : (cs : List ℕ) (walk : Walk) (byte k : ℕ) → Supplied cs walk byte → byte / 2 ≡ k → 2 * (walk.used + taken_by k) ≤ length cs
enough_at cs walk byte k s h = subst (λ (n : ℕ). 2 * (walk.used + taken_by n) ≤ length cs) h s.enough

-- ---- what coordinates are added to
pub near_base : (byte : ℕ) (pen : Pen) → Held pen → Near (base byte pen)
near_base byte pen h = by (relative byte)
  where
    by : (t : Bool) → Near (cond t pen.current (point (pos 0) (pos 0)))
    by true = h.current
    by false = record { x = lit≤ tt; y = lit≤ tt }

-- ---- the pen after a line
module _ (pen : Pen) (byte : ℕ) (c : ℕ → ℤ) where
  pub pen_close : byte / 2 ≡ 0 → pen_at pen.start pen.start pen.start ≡ pen_after pen byte (points_of pen byte c)
  unfolding pen_after points_of
  pen_close h = rw h

  pub pen_move : byte / 2 ≡ 1 → (e : Point) → e ≡ pair_at (base byte pen) c 0 → pen_at e e e ≡ pen_after pen byte (points_of pen byte c)
  unfolding pen_after points_of
  pen_move h e q = rw (h, q)

  pub pen_line : byte / 2 ≡ 2 → (e : Point) → e ≡ pair_at (base byte pen) c 0 → pen_at pen.start e e ≡ pen_after pen byte (points_of pen byte c)
  unfolding pen_after points_of
  pen_line h e q = rw (h, q)

  pub pen_horizontal : byte / 2 ≡ 3 → (x : ℤ) → x ≡ (base byte pen).x +ℤ c 0
      → pen_at pen.start (point x pen.current.y) (point x pen.current.y) ≡ pen_after pen byte (points_of pen byte c)
  unfolding pen_after points_of
  pen_horizontal h x q = rw (h, q)

  pub pen_vertical : byte / 2 ≡ 4 → (y : ℤ) → y ≡ (base byte pen).y +ℤ c 0
      → pen_at pen.start (point pen.current.x y) (point pen.current.x y) ≡ pen_after pen byte (points_of pen byte c)
  unfolding pen_after points_of
  pen_vertical h y q = rw (h, q)

  -- its end is all that there is to it
  pub line_end : byte < 10 → line_to (pen_after pen byte (points_of pen byte c)).current ≡ points_of pen byte c
  unfolding pen_after points_of
  line_end h = by (byte / 2) refl (omega arith)
    where
      by : (k : ℕ) → byte / 2 ≡ k → k < 5 → line_to (pen_after pen byte (points_of pen byte c)).current ≡ points_of pen byte c
      by zero e l = rw e
      by (suc zero) e l = rw e
      by (suc (suc zero)) e l = rw e
      by (suc (suc (suc zero))) e l = rw e
      by (suc (suc (suc (suc zero)))) e l = rw e
      by (suc (suc (suc (suc (suc k))))) e l = absurd (omega arith)

  -- ---- a curve and the pen after it
  pub traced_quad : byte / 2 ≡ 5 → (u : ℕ) (p q : Point) → p ≡ pair_at (base byte pen) c 0 → q ≡ pair_at (base byte pen) c 2
      → traced_as u (pen_at pen.start q p) (quad_to p q) ≡ traced_as u (pen_after pen byte (points_of pen byte c)) (points_of pen byte c)
  unfolding pen_after points_of
  traced_quad h u p q e f = rw (h, e, f)

  pub traced_cubic : byte / 2 ≡ 6 → (u : ℕ) (p q r : Point) → p ≡ pair_at (base byte pen) c 0 → q ≡ pair_at (base byte pen) c 2
      → r ≡ pair_at (base byte pen) c 4
      → traced_as u (pen_at pen.start r q) (cubic_to p q r) ≡ traced_as u (pen_after pen byte (points_of pen byte c)) (points_of pen byte c)
  unfolding pen_after points_of
  traced_cubic h u p q r e f g = rw (h, e, f, g)

  pub traced_smooth_quad : byte / 2 ≡ 7 → (u : ℕ) (p : Point) → p ≡ pair_at (base byte pen) c 0
      → traced_as u (pen_at pen.start p (reflected pen)) (quad_to (reflected pen) p)
      ≡ traced_as u (pen_after pen byte (points_of pen byte c)) (points_of pen byte c)
  unfolding pen_after points_of
  traced_smooth_quad h u p e = rw (h, e)

  pub traced_smooth_cubic : byte / 2 ≡ 8 → (u : ℕ) (p q : Point) → p ≡ pair_at (base byte pen) c 0 → q ≡ pair_at (base byte pen) c 2
      → traced_as u (pen_at pen.start q p) (cubic_to (reflected pen) p q) ≡ traced_as u (pen_after pen byte (points_of pen byte c)) (points_of pen byte c)
  unfolding pen_after points_of
  traced_smooth_cubic h u p q e f = rw (h, e, f)
