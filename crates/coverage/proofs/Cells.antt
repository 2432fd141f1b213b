-- Pixel after pixel along a row: the winding numbers of four sample rows, and k.
use mathlib.Core.Path.{◌≡◌, refl, sym, ap, ap₂, subst, ◌∙◌}
use mathlib.Core.List.{List, ◌++◌}
use mathlib.Core.Bool.{Bool, true, false, cond}
use Prim.Native.Nat.{ℕ, suc, ◌+◌, ◌*◌, ◌-◌, ◌/◌, ◌≤◌, ◌<◌}
use native.Mathlib.Omega.{arith}
use lib.Dec.{eqb}
use borrow.Author.Tests.{eqb-true}
use lib.IntN.{ℤ, pos, nat_abs, ◌+ℤ◌, +ℤ_idr}
use lib.ListN.{length, get_or, take, drop, length-take, length-drop, take-append-drop}
use lib.Seq.{get_or-append-add, get_or-drop, get_or-take}
use Rattle.lists.specs.Lists.{over}
use Rattle.lists.proofs.Laws.{tab_length, tab_ext, over_length, over_part}
use Rattle.fixed.proofs.Within.{within_add}
use Rattle.coverage.specs.declared.Cell.{Cell}
use Rattle.coverage.specs.declared.Windings.{Windings}
use Rattle.coverage.specs.Winding.{inside_by, one_if, tally}
use Rattle.coverage.specs.Scanline.{at, laid, zeros, running, row_of, LowFour, Sized, Bounded, Marked, Tame}
use Rattle.coverage.specs.Scanline.{Taken, taken_of, taken_from, line_from, last_of, column_from, full_of, cell_of, cell_in, cell_from, cell_after, pixel_of}
use Rattle.coverage.proofs.Tally.{taken_law}
use Rattle.coverage.proofs.Zeros.{zeros_join}

-- ---- one sample row of a pixel
line_as : (non_zero : Bool) (z : ℤ) (s : List ℤ) (b r : ℕ) {i j k l : ℕ} → i ≡ b + r → j ≡ b + (r + 4) → k ≡ b + (r + 8) → l ≡ b + (r + 12)
    → taken_from non_zero z (at s i) (at s j) (at s k) (at s l) ≡ line_from non_zero z (λ j. at s (b + j)) r
line_as non_zero z s b r e f g h = rw (e, f, g, h)

four_lines : (non_zero : Bool) {t u v w t' u' v' w' : Taken} → t ≡ t' → u ≡ u' → v ≡ v' → w ≡ w' → cell_of non_zero t u v w ≡ cell_of non_zero t' u' v' w'
four_lines non_zero p q r s = rw (p, q, r, s)

-- ---- the four columns of a pixel
pub column_sized : {n : ℕ} {z w : Windings} (s : List ℤ) (i : ℕ) → Sized n z → LowFour s i → w ≡ column_from z s i → Sized (n + 1000000) w
unfolding column_from
column_sized {n} {z} s i h l e =
    subst (λ (v : Windings). Sized (n + 1000000) v) (sym e) (record {
      a = sum z.a i h.a l.0;
      b = sum z.b (i + 1) h.b l.1;
      c = sum z.c (i + 2) h.c l.2;
      d = sum z.d (i + 3) h.d l.3;
    })
  where
    sum : (u : ℤ) (j : ℕ) → nat_abs u ≤ n → nat_abs (at s j) ≤ 1000000 → nat_abs (u +ℤ at s j) ≤ n + 1000000
    sum u j p q = (within_add {a = u} {b = at s j} (record { size = p }) (record { size = q })).size

pub columns_cell : (non_zero : Bool) (z : Cell) (s : List ℤ) (b : ℕ) {t u v w : Windings} → t ≡ column_from (last_of z) s b → u ≡ column_from t s (b + 4)
    → v ≡ column_from u s (b + 8) → w ≡ column_from v s (b + 12) → cell_in non_zero t u v w ≡ cell_from non_zero z (λ j. at s (b + j))
unfolding column_from
columns_cell non_zero z s b e f g h =
    rw (h, g, f, e)
    (four_lines non_zero (line_as non_zero z.a s b 0 (omega arith) (omega arith) (omega arith) (omega arith))
    (line_as non_zero z.b s b 1 (omega arith) (omega arith) (omega arith) (omega arith))
    (line_as non_zero z.c s b 2 (omega arith) (omega arith) (omega arith) (omega arith))
    (line_as non_zero z.d s b 3 (omega arith) (omega arith) (omega arith) (omega arith)))

module _ (non_zero : Bool) (s : List ℤ) (p : ℕ) where
  -- what a sample row of pixel p comes to
  abbrev line : ℕ → Taken
  line r = record { sum = running (row_of s r) ((p + 1) * 4); count = tally non_zero (λ j. running (row_of s r) (suc j)) p }

  line_law : (r : ℕ) → line_from non_zero (running (row_of s r) (p * 4)) (λ j. at s (p * 16 + j)) r ≡ line r
  line_law r =
      five (at_same (number 0 (p * 16 + r) (p * 4) (omega arith) (omega arith))) (at_same (number 1 (p * 16 + (r + 4)) (p * 4 + 1) (omega arith) (omega arith)))
      (at_same (number 2 (p * 16 + (r + 8)) (p * 4 + 2) (omega arith) (omega arith)))
      (at_same (number 3 (p * 16 + (r + 12)) (p * 4 + 3) (omega arith) (omega arith)))
      ∙ taken_law non_zero (row_of s r) p
    where
      number : (m i j : ℕ) → i ≡ p * 16 + (r + 4 * m) → j ≡ p * 4 + m → i ≡ j * 4 + r
      number m i j e f = omega arith

      at_same : {i j : ℕ} → i ≡ j → at s i ≡ at s j
      at_same q = ap (at s) q

      five : {p' q u v e f g h : ℤ} → p' ≡ e → q ≡ f → u ≡ g → v ≡ h
          → taken_from non_zero (running (row_of s r) (p * 4)) p' q u v ≡ taken_from non_zero (running (row_of s r) (p * 4)) e f g h
      five p' q u v = rw (p', q, u, v)

-- where the numbers are 0
still_line : (non_zero : Bool) (z : ℤ)
    → taken_from non_zero z (pos 0) (pos 0) (pos 0) (pos 0)
    ≡ record { sum = z; count = one_if (inside_by non_zero z) + one_if (inside_by non_zero z) + one_if (inside_by non_zero z) + one_if (inside_by non_zero z) }
unfolding taken_of
still_line non_zero z = simp +ℤ_idr

-- ---- z stands at the left end of pixel p: its winding numbers are the running sums so far
pub record Stands (non_zero : Bool) (s : List ℤ) (p : ℕ) (z : Cell) : Type 0 where
  pub a : z.a ≡ running (row_of s 0) (p * 4)
  pub b : z.b ≡ running (row_of s 1) (p * 4)
  pub c : z.c ≡ running (row_of s 2) (p * 4)
  pub d : z.d ≡ running (row_of s 3) (p * 4)
  pub full : z.full ≡ full_of non_zero z.a z.b z.c z.d

pub stands_first : (non_zero : Bool) (s : List ℤ) → Stands non_zero s 0 (record { a = pos 0; b = pos 0; c = pos 0; d = pos 0; full = 0; count = 0 })
unfolding full_of
stands_first non_zero s = record { a = refl; b = refl; c = refl; d = refl; full = none non_zero }
  where
    none : (r : Bool) → 0 ≡ (one_if (inside_by r (pos 0)) + one_if (inside_by r (pos 0)) + one_if (inside_by r (pos 0)) + one_if (inside_by r (pos 0))) * 4
    none true = refl
    none false = refl

pub stands_bounded : {non_zero : Bool} {s : List ℤ} {p : ℕ} {z : Cell} (n : ℕ) → Stands non_zero s p z → Tame s n → p * 4 ≤ n → Bounded z
stands_bounded {non_zero} {s} {p} {z} n t m h = record {
  a = size t.a (m.sums 0 (p * 4) (omega arith) h);
  b = size t.b (m.sums 1 (p * 4) (omega arith) h);
  c = size t.c (m.sums 2 (p * 4) (omega arith) h);
  d = size t.d (m.sums 3 (p * 4) (omega arith) h);
}
  where
    size : {v w : ℤ} → v ≡ w → nat_abs w ≤ 1000000 → nat_abs v ≤ 1000000
    size e k = subst (λ (u : ℤ). nat_abs u ≤ 1000000) (sym e) k

module _ (non_zero : Bool) (s : List ℤ) (p : ℕ) (z : Cell) (st : Stands non_zero s p z) where
  -- its 16 numbers
  abbrev pub numbers : ℕ → ℤ
  numbers j = at s (p * 16 + j)

  cell_is : cell_from non_zero z numbers ≡ cell_of non_zero (line non_zero s p 0) (line non_zero s p 1) (line non_zero s p 2) (line non_zero s p 3)
  cell_is =
      four_lines non_zero (ap (λ (v : ℤ). line_from non_zero v numbers 0) st.a ∙ line_law non_zero s p 0)
      (ap (λ (v : ℤ). line_from non_zero v numbers 1) st.b ∙ line_law non_zero s p 1)
      (ap (λ (v : ℤ). line_from non_zero v numbers 2) st.c ∙ line_law non_zero s p 2)
      (ap (λ (v : ℤ). line_from non_zero v numbers 3) st.d ∙ line_law non_zero s p 3)

  pub next_stands : (t : Cell) → t ≡ cell_from non_zero z numbers → Stands non_zero s (p + 1) t
  unfolding cell_of
  next_stands t e = subst (λ (v : Cell). Stands non_zero s (p + 1) v) (sym (e ∙ cell_is)) (record { a = refl; b = refl; c = refl; d = refl; full = refl })

  pub next_count : (t : Cell) → t ≡ cell_from non_zero z numbers → t.count ≡ pixel_of non_zero s p
  unfolding cell_of
  next_count t e = ap (λ (v : Cell). v.count) (e ∙ cell_is) ∙ from_none (count 0) (count 1) (count 2) (count 3)
    where
      count : ℕ → ℕ
      count r = tally non_zero (λ j. running (row_of s r) (suc j)) p

      from_none : (a b c d : ℕ) → a + b + c + d ≡ 0 + a + b + c + d
      from_none a b c d = omega arith

  -- where nothing begins, it is as the pixel before
  blank_cell : ((j : ℕ) → j < 16 → numbers j ≡ pos 0) → cell_after z ≡ cell_from non_zero z numbers
  unfolding cell_of full_of
  blank_cell h =
      same_cell st.full
      (count_of (one_if (inside_by non_zero z.a)) (one_if (inside_by non_zero z.b)) (one_if (inside_by non_zero z.c)) (one_if (inside_by non_zero z.d)))
      ∙ sym (four_lines non_zero (still 0 z.a (omega arith)) (still 1 z.b (omega arith)) (still 2 z.c (omega arith)) (still 3 z.d (omega arith)))
    where
      still : (r : ℕ) (v : ℤ) → r < 4
          → line_from non_zero v numbers r
          ≡ record {
            sum = v;
            count = one_if (inside_by non_zero v) + one_if (inside_by non_zero v) + one_if (inside_by non_zero v) + one_if
                (inside_by non_zero v);
          }
      still r v l =
          ap₂ (λ (a b : ℤ). taken_from non_zero v a b (numbers (r + 8)) (numbers (r + 12))) (h r (omega arith)) (h (r + 4) (omega arith))
          ∙ ap₂ (λ (a b : ℤ). taken_from non_zero v (pos 0) (pos 0) a b) (h (r + 8) (omega arith)) (h (r + 12) (omega arith)) ∙ still_line non_zero v

      count_of : (a b c d : ℕ) → (a + b + c + d) * 4 ≡ (a + a + a + a) + (b + b + b + b) + (c + c + c + c) + (d + d + d + d)
      count_of a b c d = omega arith

      same_cell : {f g : ℕ} → z.full ≡ f → f ≡ g → ◌≡◌ {A = Cell} (cell_after z) (record { a = z.a; b = z.b; c = z.c; d = z.d; full = f; count = g })
      same_cell p q = ap₂ (λ (m n : ℕ). record { a = z.a; b = z.b; c = z.c; d = z.d; full = m; count = n }) p (p ∙ q)

-- ---- the sums, of which those of the first p pixels are 0 again
module _ (s v : List ℤ) (p : ℕ) (now : v ≡ over (zeros (p * 16)) s) where
  pub numbers_stand : (j : ℕ) → at v (p * 16 + j) ≡ at s (p * 16 + j)
  numbers_stand j =
      ap (λ (t : List ℤ). at t (p * 16 + j)) now
      ∙ ap (λ (n : ℕ). get_or (zeros (p * 16) ++ drop n s) (p * 16 + j) (pos 0)) wide
      ∙ ap (λ (n : ℕ). get_or (zeros (p * 16) ++ drop (p * 16) s) (n + j) (pos 0)) (sym wide)
      ∙ get_or-append-add (zeros (p * 16)) (drop (p * 16) s) j (pos 0) ∙ get_or-drop (p * 16) s j (pos 0)
    where
      wide : length (zeros (p * 16)) ≡ p * 16
      wide = tab_length (p * 16) (λ j. pos 0)

  -- what an unmarked pixel has
  module _ (cover : List ℕ) (marks : Marked cover (at s)) (here : p < length cover) (mark : ℕ) (is : mark ≡ get_or cover p 0) where
    nothing_begins : mark ≡ 0 → (j : ℕ) → j < 16 → at s (p * 16 + j) ≡ pos 0
    nothing_begins e j h = marks.unmarked (p * 16 + j) (omega arith) (ap (λ (n : ℕ). get_or cover n 0) (pixel p j h) ∙ sym is ∙ e)
      where
        pixel : (p j : ℕ) → j < 16 → (p * 16 + j) / 16 ≡ p
        pixel p j h = omega arith

    pub turn_cell : (non_zero : Bool) (z t : Cell) → Stands non_zero s p z
        → t ≡ cond (eqb mark 0) (cell_after z) (cell_from non_zero z (λ j. at v (p * 16 + j))) → t ≡ cell_from non_zero z (λ j. at s (p * 16 + j))
    turn_cell non_zero z t st o = o ∙ by (eqb mark 0) refl
      where
        by : (b : Bool) → eqb mark 0 ≡ b → cond b (cell_after z) (cell_from non_zero z (λ j. at v (p * 16 + j))) ≡ cell_from non_zero z (λ j. at s (p * 16 + j))
        by true q = blank_cell non_zero s p z st (nothing_begins (eqb-true mark 0 q))
        by false q = ap (cell_from non_zero z) (λ i j. numbers_stand j i)

    pub turn_sums : p * 16 + 16 ≤ length s → (t : List ℤ) → t ≡ cond (eqb mark 0) v (laid (p * 16) 16 v (zeros 16)) → t ≡ over (zeros ((p + 1) * 16)) s
    turn_sums fit t o = o ∙ by (eqb mark 0) refl ∙ zeroed
      where
        zeroed : laid (p * 16) 16 v (zeros 16) ≡ over (zeros ((p + 1) * 16)) s
        zeroed =
            ap (λ (u : List ℤ). laid (p * 16) 16 u (zeros 16)) now
            ∙ over_part (zeros (p * 16)) s (zeros 16) (p * 16) 16 (tab_length (p * 16) (λ j. pos 0)) (tab_length 16 (λ j. pos 0)) fit
            ∙ ap (λ (u : List ℤ). over u s) (zeros_join (p * 16) 16 ∙ ap zeros (next p))
          where
            next : (p : ℕ) → p * 16 + 16 ≡ (p + 1) * 16
            next p = omega arith

        by : (b : Bool) → eqb mark 0 ≡ b → cond b v (laid (p * 16) 16 v (zeros 16)) ≡ laid (p * 16) 16 v (zeros 16)
        by true q =
            sym (take-append-drop (p * 16) v) ∙ ap (λ (u : List ℤ). take (p * 16) v ++ u)
            (sym (take-append-drop 16 (drop (p * 16) v)) ∙ ap (λ (u : List ℤ). u ++ drop 16 (drop (p * 16) v)) part)
          where
            long : 16 ≤ length v - p * 16
            long = omega (arith, ap length now, over_length (zeros (p * 16)) s (omega (arith, tab_length (p * 16) (λ j. pos 0))))

            part : take 16 (drop (p * 16) v) ≡ zeros 16
            part =
                tab_ext (pos 0) (take 16 (drop (p * 16) v)) 16 (λ j. pos 0) (simp (length-take, length-drop) (omega (arith, long)))
                (λ j h. get_or-take 16 (drop (p * 16) v) j (pos 0) h ∙ get_or-drop (p * 16) v j (pos 0) ∙ numbers_stand j
                ∙ nothing_begins (eqb-true mark 0 q) j h)
        by false q = refl
