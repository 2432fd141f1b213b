-- `coverage::samples::take_cell` meets its contract. Assumes nothing.
use mathlib.Core.Path.{◌≡◌, sym, ap, subst, ◌∙◌}
use Prim.Native.Nat.{ℕ, ◌+◌, ◌*◌, ◌-◌, ◌≤◌, ◌<◌}
use native.Mathlib.Omega.{arith}
use lib.IntN.{nat_abs}
use Rattle.coverage.specs.declared.Windings.{Windings}
use Rattle.coverage.specs.Scanline.{at, LowFour, Sized, last_of, column_from}
use Rattle.coverage.proofs.Cells.{column_sized, columns_cell}
use Rattle.coverage.proofs.Zeros.{part_zeroed}
use Rattle.coverage.proofs.samples.take_cell.Goals.{Start}
use Rattle.coverage.proofs.samples.take_cell.Goals as goal

-- the numbers of a column do not overflow, nor do the winding numbers at the first three
low-four : (s : Start) (i : ℕ) → s.args.p * 16 ≤ i → LowFour s.args.sums.now i
low-four s i k = (size i k, size (i + 1) (omega arith), size (i + 2) (omega arith), size (i + 3) (omega arith))
  where
    size : (j : ℕ) → s.args.p * 16 ≤ j → nat_abs (at s.args.sums.now j) ≤ 1000000
    size j k = subst (λ (n : ℕ). nat_abs (at s.args.sums.now n) ≤ 1000000) (whole (s.args.p * 16) j k) (s.requires.by_index (j - s.args.p * 16))
      where
        whole : (b j : ℕ) → b ≤ j → b + (j - b) ≡ j
        whole b j k = omega arith

abbrev column : (s : Start) → Windings → ℕ → Windings
column s z i = column_from z s.args.sums.now i

first : (s : Start) → {z : Windings} → z ≡ last_of s.args.z → Sized 1000000 z
first s e =
    subst (λ (v : Windings). Sized 1000000 v) (sym e)
    (record { a = s.requires.p_in_bounds.1.a; b = s.requires.p_in_bounds.1.b; c = s.requires.p_in_bounds.1.c; d = s.requires.p_in_bounds.1.d })

next : (s : Start) → {n : ℕ} {z w : Windings} (i : ℕ) → s.args.p * 16 ≤ i → Sized n z → w ≡ (column s) z i → Sized (n + 1000000) w
next s i k h e = column_sized s.args.sums.now i h (low-four s i k) e

second : (s : Start) → {z t : Windings} → z ≡ last_of s.args.z → t ≡ (column s) z (s.args.p * 16) → Sized 2000000 t
second s e f = (next s) (s.args.p * 16) (omega arith) ((first s) e) f

third : (s : Start) → {z t u : Windings} → z ≡ last_of s.args.z → t ≡ (column s) z (s.args.p * 16) → u ≡ (column s) t (s.args.p * 16 + 4) → Sized 3000000 u
third s e f g = (next s) (s.args.p * 16 + 4) (omega arith) ((second s) e f) g

larger : {n : ℕ} {z : Windings} → n ≤ 4000000 → Sized n z → Sized 4000000 z
larger k h = record { a = omega (arith, h.a); b = omega (arith, h.b); c = omega (arith, h.c); d = omega (arith, h.d) }

-- where its numbers end fits a machine word, in bytes too
far : (s : Start) → (s.args.p * 16 + 16) * 4 < 18446744073709551616
far s = omega (arith, s.requires.p_in_bounds.0)

pub take_column-a-requires : goal.take_column-a-requires
take_column-a-requires c =
    (omega (arith, c.requires.p_in_bounds.0), low-four c.before (c.args.p * 16) (omega arith), larger (omega arith) (first c.before c.last_column.ensures))

pub take_column-b-requires : goal.take_column-b-requires
take_column-b-requires c = (
  omega (arith, c.requires.p_in_bounds.0),
  low-four c.before.before (c.args.p * 16 + 4) (omega arith),
  larger (omega arith) (second c.before.before c.last_column.ensures c.take_column-a.ensures),
)

pub take_column-c-requires : goal.take_column-c-requires
take_column-c-requires c = (
  omega (arith, c.requires.p_in_bounds.0),
  low-four c.before.before.before (c.args.p * 16 + 8) (omega arith),
  larger (omega arith)
      (third c.before.before.before c.last_column.ensures c.take_column-a.ensures c.take_column-b.ensures),
)

pub take_column-d-requires : goal.take_column-d-requires
take_column-d-requires c = (
  omega (arith, c.requires.p_in_bounds.0),
  low-four c.before.before.before.before (c.args.p * 16 + 12) (omega arith),
  next c.before.before.before.before (c.args.p * 16 + 8) (omega arith)
      (third c.before.before.before.before c.last_column.ensures c.take_column-a.ensures c.take_column-b.ensures)
      c.take_column-c.ensures,
)

pub overflow_add-e : goal.overflow_add-e
overflow_add-e c =
    omega (arith, far c.before.before.before.before.before)

pub offset_bounds-sums-i : goal.offset_bounds-sums-i
offset_bounds-sums-i c =
    omega (arith, far c.before.before.before.before.before)

pub slice_bounds-zero_numbers-end : goal.slice_bounds-zero_numbers-end
slice_bounds-zero_numbers-end c =
    omega (arith, c.requires.p_in_bounds.0)

pub returns : goal.returns
returns c =
    let a = c.args in
    record {
      value = c.cell_of.ensures
          ∙ columns_cell a.nonzero a.z a.sums.now (a.p * 16)
          (c.take_column-a.ensures ∙ ap (λ (z : Windings). column_from z a.sums.now (a.p * 16)) c.last_column.ensures)
          c.take_column-b.ensures c.take_column-c.ensures c.take_column-d.ensures;
      sums_after = part_zeroed a.sums.now c.zero_numbers.new.s (a.p * 16) 16 c.requires.p_in_bounds.0 c.zero_numbers.ensures;
    }
