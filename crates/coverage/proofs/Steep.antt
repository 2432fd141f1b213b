-- An edge that goes past all four sample rows of a row of pixels: its columns by one slope.
use mathlib.Core.Path.{◌≡◌, refl, sym, ap, subst, ◌∙◌}
use mathlib.Core.Bool.{Bool, true, false, cond, ◌&&◌}
use Prim.Native.Nat.{ℕ, ◌+◌, ◌*◌, ◌-◌, ◌≤◌, ◌<◌, min, max}
use native.Mathlib.Omega.{arith}
use lib.Dec.{T, leb, leb→le}
use borrow.Author.Tests.{leb-true, leb-false}
use lib.IntN.{ℤ, pos, negsuc, nat_abs, ◌+ℤ◌, ◌-ℤ◌, ◌*ℤ◌}
use lib.Signed.{le_z, lt_z, ◌≤ℤ◌, ◌<ℤ◌, le_z_yes, lt_z_yes}
use Rattle.fixed.proofs.Poly.{Poly, var, num, ◌⊕◌, ◌⊖◌, ◌⊗◌, eq, le, lt, from_le, from_lt}
use Rattle.fixed.proofs.Sign.{above_zero}
use Rattle.fixed.proofs.Tests.{is_true, both_left, both_right, le_z_not}
use Rattle.path.specs.declared.Edge.{Edge}
use Rattle.path.specs.Stored.{Small}
use Rattle.coverage.specs.declared.Rise.{Rise}
use Rattle.coverage.specs.declared.Columns.{Columns}
use Rattle.coverage.specs.Winding.{turned, spans_up, sample}
use Rattle.coverage.specs.Scanline.{ceil_div, first_column, place, start_of, start_with, rise_of, column_in, columns_of, Straight}
use Rattle.coverage.proofs.Begin.{start_up, start_down}
use Rattle.coverage.proofs.Crossing.{ceil_rises, crossing_is}
use Rattle.coverage.proofs.Sides.{product_le}
use Rattle.coverage.proofs.Sums.{span_rises}

-- a column further right has its place no further left
place_rises : (c k : ℕ) (a b : ℤ) → a ≤ℤ b → place c k a ≤ place c k b
unfolding place
place_rises c k (negsuc m) b h = omega arith
place_rises c k (pos m) (negsuc n) h = absurd h.le
place_rises c k (pos m) (pos n) h = by (leb m c) (leb (c + k) m) (leb n c) (leb (c + k) n) refl refl refl refl (leb→le m n h.le)
  where
    by : (s t u v : Bool) → leb m c ≡ s → leb (c + k) m ≡ t → leb n c ≡ u → leb (c + k) n ≡ v → m ≤ n
        → cond s 0 (cond t k (m - c)) ≤ cond u 0 (cond v k (n - c))
    by true t u v e f g i l = omega arith
    by false t true v e f g i l = absurd (omega (arith, leb-false m c e, leb-true n c g, l))
    by false true false true e f g i l = omega arith
    by false true false false e f g i l = absurd (omega (arith, leb-true (c + k) m f, leb-false (c + k) n i, l))
    by false false false true e f g i l = omega (arith, leb-false (c + k) m f)
    by false false false false e f g i l = omega arith

gap : (a b : ℤ) → a ≤ℤ b → pos 0 ≤ℤ (b -ℤ a)
gap a b h = le (num 0) (var b ⊖ var a) (omega (arith, from_le (var a) (var b) h))

-- ---- its columns are in order, to the right or to the left
module _ (c k : ℕ) (r : Rise) (up : pos 0 <ℤ r.d) where
  abbrev top : ℕ → Poly
  top i = var r.n ⊕ num i ⊗ var r.step

  rises : (i j : ℕ) → (top i).int ≤ℤ (top j).int → column_in c k r i ≤ column_in c k r j
  rises i j h =
      let D = 64 * nat_abs r.d in
      place_rises c k (ceil_div (top i).int D) (ceil_div (top j).int D) (ceil_rises (top i).int (top j).int D (omega (arith, above_zero up)) h)

  module _ (i j : ℕ) (h : i ≤ j) where
    along : pos 0 ≤ℤ (pos j -ℤ pos i)
    along = gap (pos i) (pos j) (le (num i) (num j) (omega (arith, h)))

    to_right : pos 0 ≤ℤ r.step → column_in c k r i ≤ column_in c k r j
    to_right s =
        rises i j
        (le (top i) (top j) (omega (arith, from_le (num 0) ((num j ⊖ num i) ⊗ var r.step) (product_le (pos j -ℤ pos i) r.step along s))))

    to_left : r.step ≤ℤ pos 0 → column_in c k r j ≤ column_in c k r i
    to_left s =
        rises j i
        (le (top j) (top i)
        (omega (
          arith,
          from_le (num 0) ((num j ⊖ num i) ⊗ (num 0 ⊖ var r.step)) (product_le (pos j -ℤ pos i) (pos 0 -ℤ r.step) along (gap r.step (pos 0) s)),
        )))

  middle : (j : ℕ) → j ≤ 3 → (min (column_in c k r 0) (column_in c k r 3) ≤ column_in c k r j)
      × (column_in c k r j ≤ max (column_in c k r 0) (column_in c k r 3))
  middle j h = by (le_z (pos 0) r.step) refl
    where
      rising : (a b d : ℕ) → a ≤ b → b ≤ d → (min a d ≤ b) × (b ≤ max a d)
      rising a b d g i = (omega arith, omega arith)

      falling : (a b d : ℕ) → b ≤ a → d ≤ b → (min a d ≤ b) × (b ≤ max a d)
      falling a b d g i = (omega arith, omega arith)

      by : (t : Bool) → le_z (pos 0) r.step ≡ t
          → (min (column_in c k r 0) (column_in c k r 3) ≤ column_in c k r j) × (column_in c k r j ≤ max (column_in c k r 0) (column_in c k r 3))
      by true q =
          let s : pos 0 ≤ℤ r.step = le_z_yes (subst T (sym q) tt) in
          rising (column_in c k r 0) (column_in c k r j) (column_in c k r 3) (to_right 0 j (omega arith) s) (to_right j 3 h s)
      by false q =
          let s = le_z_not (pos 0) r.step q in
          falling (column_in c k r 0) (column_in c k r j) (column_in c k r 3) (to_left 0 j (omega arith) s) (to_left j 3 h s)

  pub columns_straight : Straight (columns_of c k r)
  unfolding columns_of
  columns_straight = record { second = middle 1 (omega arith); third = middle 2 (omega arith) }

-- where the first is the last, so are those between
pub straight_one : (s : Columns) → Straight s → s.a ≡ s.d → (s.b ≡ s.a) × (s.c ≡ s.a)
straight_one s o q = (by s.a s.b s.d q o.second.0 o.second.1, by s.a s.c s.d q o.third.0 o.third.1)
  where
    by : (a b d : ℕ) → a ≡ d → min a d ≤ b → b ≤ max a d → b ≡ a
    by a b d q l h = omega arith

pub straight_ends : (s : Columns) → Straight s
    → (min (min s.a s.b) (min s.c s.d) ≡ min s.a s.d) × (max (max s.a s.b) (max s.c s.d) ≡ max s.a s.d)
straight_ends s o = (
  least s.a s.b s.c s.d o.second.0 o.third.0,
  most s.a s.b s.c s.d o.second.1 o.third.1,
)
  where
    least : (a b c d : ℕ) → min a d ≤ b → min a d ≤ c → min (min a b) (min c d) ≡ min a d
    least a b c d h k = omega arith

    most : (a b c d : ℕ) → b ≤ max a d → c ≤ max a d → max (max a b) (max c d) ≡ max a d
    most a b c d h k = omega arith

-- ---- sample row r of the pixel row y
module _ (c k y : ℕ) (u : Edge) (r : ℕ) where
  abbrev run : Poly
  run = var u.x1 ⊖ var u.x0

  abbrev from : ℕ → Poly
  from i = (num (64 * (4 * y + i) + 32) ⊖ var u.y0) ⊗ run ⊕ (var u.x0 ⊖ num 32) ⊗ (var u.y1 ⊖ var u.y0)

  further : (from 0).int +ℤ pos r *ℤ (pos 64 *ℤ run.int) ≡ (from r).int
  further = eq (from 0 ⊕ num r ⊗ (num 64 ⊗ run)) (from r) (omega arith)

  column_row : column_in c k (rise_of u (sample (4 * y + 0))) r ≡ place c k (first_column u (sample (4 * y + r)))
  unfolding rise_of
  column_row = ap (place c k) (crossing_is u (sample (4 * y + r)) ((from 0).int +ℤ pos r *ℤ (pos 64 *ℤ run.int)) further)

-- an edge that goes past the first and the last goes past those between
module _ (y : ℕ) (u : Edge) (q : (le_z u.y0 (sample (4 * y + 0)) && lt_z (sample (4 * y + 3)) u.y1) ≡ true) where
  abbrev row : ℕ → Poly
  row i = num (64 * (4 * y + i) + 32)

  all_spanned : (r : ℕ) → r < 4 → spans_up u (sample (4 * y + r)) ≡ true
  all_spanned r h =
      let first = le_z u.y0 (sample (4 * y + 0)) in
      let last = lt_z (sample (4 * y + 3)) u.y1 in
      let told : T (first && last) = subst T (sym q) tt in
      let low = le (var u.y0) (row r) (omega (arith, from_le (var u.y0) (row 0) (le_z_yes (both_left first last told)))) in
      let high = lt (row r) (var u.y1) (omega (arith, h, from_lt (row 3) (var u.y1) (lt_z_yes (both_right first last told)))) in
      both (is_true (le_z u.y0 (sample (4 * y + r))) low.le) (is_true (lt_z (sample (4 * y + r)) u.y1) high.lt)
    where
      both : {s t : Bool} → s ≡ true → t ≡ true → (s && t) ≡ true
      both o p = rw (o, p)

  -- what its slope asks for
  pub rise_asks : Small u → y < 1024
      → (u.y0 <ℤ u.y1)
      × ((nat_abs u.x0 ≤ 8388608) × (nat_abs u.y0 ≤ 8388608) × (nat_abs u.x1 ≤ 8388608) × (nat_abs u.y1 ≤ 8388608)
      × (nat_abs (sample (4 * y + 0)) ≤ 8388608))
  rise_asks p h = (span_rises u (sample (4 * y + 0)) (subst T (sym (all_spanned 0 (omega arith))) tt), (p.x0, p.y0, p.x1, p.y1, omega (arith, h)))

pub small_turned : (e : Edge) → Small e → Small (turned e)
small_turned e p = record { x0 = p.x1; y0 = p.y1; x1 = p.x0; y1 = p.y0 }

-- ---- where an edge's count begins that goes past all four, up or down
module _ (c k y : ℕ) (e : Edge) (s : Columns) where
  abbrev pub Begins : ℤ → Type 0
  Begins v =
      (start_with s.a v ≡ start_of c k (sample (4 * y + 0)) e) × (start_with s.b v ≡ start_of c k (sample (4 * y + 1)) e)
      × (start_with s.c v ≡ start_of c k (sample (4 * y + 2)) e) × (start_with s.d v ≡ start_of c k (sample (4 * y + 3)) e)

  begins : (u : Edge) (v : ℤ) → s ≡ columns_of c k (rise_of u (sample (4 * y + 0)))
      → ((r : ℕ) → r < 4 → start_with (place c k (first_column u (sample (4 * y + r)))) v ≡ start_of c k (sample (4 * y + r)) e) → Begins v
  unfolding columns_of
  begins u v o h = (
    ap (λ (z : Columns). start_with z.a v) o ∙ row 0 (omega arith),
    ap (λ (z : Columns). start_with z.b v) o ∙ row 1 (omega arith),
    ap (λ (z : Columns). start_with z.c v) o ∙ row 2 (omega arith),
    ap (λ (z : Columns). start_with z.d v) o ∙ row 3 (omega arith),
  )
    where
      row : (r : ℕ) → r < 4 → start_with (column_in c k (rise_of u (sample (4 * y + 0))) r) v ≡ start_of c k (sample (4 * y + r)) e
      row r l = ap (λ (n : ℕ). start_with n v) (column_row c k y u r) ∙ h r l

  pub passes_up : (le_z e.y0 (sample (4 * y + 0)) && lt_z (sample (4 * y + 3)) e.y1) ≡ true → s ≡ columns_of c k (rise_of e (sample (4 * y + 0)))
      → Begins (pos 1)
  passes_up q o = begins e (pos 1) o (λ r h. start_up c k (sample (4 * y + r)) e (all_spanned y e q r h))

  pub passes_down : (le_z e.y1 (sample (4 * y + 0)) && lt_z (sample (4 * y + 3)) e.y0) ≡ true
      → s ≡ columns_of c k (rise_of (turned e) (sample (4 * y + 0))) → Begins (negsuc 0)
  passes_down q o = begins (turned e) (negsuc 0) o (λ r h. start_down c k (sample (4 * y + r)) e (all_spanned y (turned e) q r h))
