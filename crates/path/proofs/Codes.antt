-- The code of a segment, and what an accepted segment has.
use mathlib.Core.Path.{◌≡◌, refl, sym, subst, ◌∙◌}
use mathlib.Core.List.{List}
use mathlib.Core.Bool.{Bool, true, false, cond, ◌&&◌}
use Prim.Native.Nat.{ℕ, ◌+◌, ◌*◌, ◌/◌, ◌≤◌, ◌<◌}
use native.Mathlib.Omega.{arith}
use lib.Dec.{T, leb, ltb, eqb, leb→le}
use lib.ListN.{length}
use lib.IntN.{ℤ, pos, negsuc, nat_abs}
use borrow.Author.Tests.{le-leb, lt-leb, lt-ltb, le-ltb, leb-true, leb-false, ltb-false}
use Rattle.std.specs.Prelude.{Result, Ok, Err}
use Rattle.std.specs.Result.{result_and}
use Rattle.codes.specs.declared.Code.{Code}
use Rattle.codes.specs.declared.Code.TheVariants.{IllegalArgument, UnsupportedPathFormat}
use Rattle.fixed.proofs.Tests.{both_left, both_right}
use Rattle.path.specs.declared.FixedMatrix.{FixedMatrix}
use Rattle.path.specs.declared.Point.{Point}
use Rattle.path.specs.declared.Pen.{Pen}
use Rattle.path.specs.declared.Curve.{Curve}
use Rattle.path.specs.declared.Walk.{Walk}
use Rattle.path.specs.declared.Traced.{Traced}
use Rattle.path.specs.Segments.{coordinates_taken, number, number_move, in_sixteen_bits, in_range}
use Rattle.path.specs.Segments.{curve_at, pen_after, walk_on, curve_in_range, curve_on_grid, segment_code}
use Rattle.path.specs.Answers.{traced_by, step_of}
use Rattle.path.specs.Limits.{Near, Held, NearCurve, Ready, Supplied}

-- ---- points in range
sixteen : (z : ℤ) → T (in_sixteen_bits z) → nat_abs z ≤ 32768
sixteen (pos n) t = omega (arith, leb→le n 32767 t)
sixteen (negsuc n) t = omega (arith, leb→le n 32767 (both_left (leb n 32767) true t))

near_point : (p : Point) → T (in_range p) → Near p
near_point p t = record {
  x = sixteen p.x (both_left (in_sixteen_bits p.x) (in_sixteen_bits p.y) t);
  y = sixteen p.y (both_right (in_sixteen_bits p.x) (in_sixteen_bits p.y) t);
}

pub near_curve : (c : Curve) → T (curve_in_range c) → NearCurve c
near_curve c t =
    let u = both_right (in_range c.p1) (in_range c.p2 && in_range c.p3) t in
    record {
      p1 = near_point c.p1 (both_left (in_range c.p1) (in_range c.p2 && in_range c.p3) t);
      p2 = near_point c.p2 (both_left (in_range c.p2) (in_range c.p3) u);
      p3 = near_point c.p3 (both_right (in_range c.p2) (in_range c.p3) u);
    }

near_after : (pen : Pen) (byte : ℕ) (c : Curve) → Held pen → NearCurve c → Held (pen_after pen byte c)
unfolding pen_after
near_after pen byte c h n = record {
  start = either (eqb (number byte) number_move) n.p3 h.start;
  current = n.p3;
  control = either (eqb c.degree 2) n.p1 n.p2;
}
  where
    either : (t : Bool) {p q : Point} → Near p → Near q → Near (cond t p q)
    either true a b = a
    either false a b = b

-- ---- one segment
module _ (m : FixedMatrix) (cs : List ℕ) (walk : Walk) (byte : ℕ) where
  pub record Accepted : Type 0 where
    pub segment : byte < 18
    pub enough : 2 * (walk.used + coordinates_taken byte) ≤ length cs
    pub in_range : T (curve_in_range (curve_at cs walk byte))
    pub on_grid : T (curve_on_grid m (curve_at cs walk byte))

  pub code_arc : 9 ≤ byte / 2 → byte / 2 ≤ 12 → segment_code m cs walk byte ≡ Err UnsupportedPathFormat
  unfolding segment_code
  code_arc h k =
      let a : 18 ≤ number byte = omega arith in
      let b : number byte ≤ 24 = omega arith in
      rw (le-leb 18 (number byte) a, le-leb (number byte) 24 b)

  pub code_number : 12 < byte / 2 → segment_code m cs walk byte ≡ Err IllegalArgument
  unfolding segment_code
  code_number h =
      let a : 18 ≤ number byte = omega arith in
      let b : 24 < number byte = omega arith in
      let c : 26 ≤ number byte = omega arith in
      rw (le-leb 18 (number byte) a, lt-leb (number byte) 24 b, le-leb 26 (number byte) c)

  pub code_short : byte < 18 → length cs < 2 * (walk.used + coordinates_taken byte) → segment_code m cs walk byte ≡ Err IllegalArgument
  unfolding segment_code
  code_short h k =
      let a : number byte < 18 = omega arith in
      let b : number byte < 26 = omega arith in
      rw (lt-leb 18 (number byte) a, lt-leb 26 (number byte) b, lt-ltb (length cs) (2 * (walk.used + coordinates_taken byte)) k)

  pub code_judged : byte < 18 → 2 * (walk.used + coordinates_taken byte) ≤ length cs → (t : Bool)
      → (curve_in_range (curve_at cs walk byte) && curve_on_grid m (curve_at cs walk byte)) ≡ t
      → segment_code m cs walk byte ≡ cond t (Ok tt) (Err IllegalArgument)
  unfolding segment_code
  code_judged h k t e =
      let a : number byte < 18 = omega arith in
      let b : number byte < 26 = omega arith in
      rw (lt-leb 18 (number byte) a, lt-leb 26 (number byte) b, le-ltb (length cs) (2 * (walk.used + coordinates_taken byte)) k, e)

  pub accepted : segment_code m cs walk byte ≡ Ok tt → Accepted
  unfolding segment_code
  accepted z =
      by (leb 18 (number byte)) (leb (number byte) 24) (leb 26 (number byte)) (ltb (length cs) (2 * (walk.used + coordinates_taken byte)))
      (curve_in_range (curve_at cs walk byte) && curve_on_grid m (curve_at cs walk byte))
      refl refl refl refl refl z
    where
      by : (a b c d e : Bool) → leb 18 (number byte) ≡ a → leb (number byte) 24 ≡ b → leb 26 (number byte) ≡ c
          → ltb (length cs) (2 * (walk.used + coordinates_taken byte)) ≡ d
          → (curve_in_range (curve_at cs walk byte) && curve_on_grid m (curve_at cs walk byte)) ≡ e
          → ◌≡◌ {A = Result Unit Code} (cond (a && b) (Err UnsupportedPathFormat)
          (cond c (Err IllegalArgument) (cond d (Err IllegalArgument) (cond e (Ok tt) (Err IllegalArgument))))) (Ok tt)
          → Accepted
      by true true c d e p q r s t z = absurd (cc)
      by true false true d e p q r s t z = absurd (cc)
      by true false false d e p q r s t z = absurd (omega (arith, leb-true 18 (number byte) p, leb-false (number byte) 24 q, leb-false 26 (number byte) r))
      by false b true d e p q r s t z = absurd (cc)
      by false b false true e p q r s t z = absurd (cc)
      by false b false false false p q r s t z = absurd (cc)
      by false b false false true p q r s t z = record {
        segment = omega (arith, leb-false 18 (number byte) p);
        enough = ltb-false (length cs) (2 * (walk.used + coordinates_taken byte)) s;
        in_range = both_left (curve_in_range (curve_at cs walk byte)) (curve_on_grid m (curve_at cs walk byte)) (subst T (sym t) tt);
        on_grid = both_right (curve_in_range (curve_at cs walk byte)) (curve_on_grid m (curve_at cs walk byte)) (subst T (sym t) tt);
      }

  pub ready_next : Ready cs walk → segment_code m cs walk byte ≡ Ok tt → Ready cs (walk_on cs walk byte)
  ready_next r z =
      let a = accepted z in
      record { held = near_after walk.pen byte (curve_at cs walk byte) r.held (near_curve (curve_at cs walk byte) a.in_range); there = a.enough }

  pub supplied : Ready cs walk → segment_code m cs walk byte ≡ Ok tt → Supplied cs walk byte
  supplied r z =
      let a = accepted z in
      record { held = r.held; segment = a.segment; enough = a.enough }

  -- ---- as an answer
  pub step_refused : (k : Code) → segment_code m cs walk byte ≡ Err k → Err k ≡ step_of m cs walk byte
  unfolding step_of
  step_refused k e = rw e

  pub step_drawn : segment_code m cs walk byte ≡ Ok tt → (t : Traced) → t ≡ traced_by cs walk byte → Ok t ≡ step_of m cs walk byte
  unfolding step_of
  step_drawn e t q = rw (e, q)

  pub from_drawn : (t : Traced) → Ok t ≡ step_of m cs walk byte → (segment_code m cs walk byte ≡ Ok tt) × (t ≡ traced_by cs walk byte)
  unfolding step_of
  from_drawn t o = by (segment_code m cs walk byte) refl o
    where
      by : (r : Result Unit Code) → segment_code m cs walk byte ≡ r → Ok t ≡ result_and r (Ok (traced_by cs walk byte))
          → (segment_code m cs walk byte ≡ Ok tt) × (t ≡ traced_by cs walk byte)
      by (Ok u) q o = (q, cc)
      by (Err e) q o = absurd (cc)

  pub from_refused : (k : Code) → Err k ≡ step_of m cs walk byte → segment_code m cs walk byte ≡ Err k
  unfolding step_of
  from_refused k o = by (segment_code m cs walk byte) refl o
    where
      by : (r : Result Unit Code) → segment_code m cs walk byte ≡ r → Err k ≡ result_and r (Ok (traced_by cs walk byte)) → segment_code m cs walk byte ≡ Err k
      by (Ok u) q o = absurd (cc)
      by (Err e) q o = q ∙ cc
