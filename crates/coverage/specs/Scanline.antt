-- What the functions behind `coverage_row` and `scissor_row` compute, and what stands in the scratch. A reviewer of the paper need not read it.
use Rattle.std.specs.Prelude.{ℕ, zero, suc, ◌+◌, ◌*◌, ◌-◌, ◌/◌, ◌%◌, ◌≤◌, ◌<◌, min, max, ◌≡◌, List, ◌++◌, Bool, cond, ◌&&◌, eqb, ltb, leb, length, get_or}
use Rattle.std.specs.Prelude.{set, take, drop, ℤ, pos, nat_abs, ◌+ℤ◌, ◌-ℤ◌, ◌*ℤ◌, ◌<ℤ◌}
use Rattle.std.specs.Int.Signed.{le_z, lt_z}
use Rattle.lists.specs.Lists.{tab, total}
use Rattle.fixed.specs.Floor.{floor_div}
use Rattle.fixed.specs.Little.{i32_at}
use Rattle.path.specs.declared.Edge.{Edge}
use Rattle.path.specs.Stored.{edge_at, edges_of, Small}
use Rattle.coverage.specs.declared.Start.{Start}
use Rattle.coverage.specs.declared.Rise.{Rise}
use Rattle.coverage.specs.declared.Columns.{Columns}
use Rattle.coverage.specs.declared.Windings.{Windings}
use Rattle.coverage.specs.declared.Cell.{Cell}
use Rattle.coverage.specs.declared.Span.{Span}
use Rattle.coverage.specs.Winding.{upward, spans, weight, sum_of, inside_by, one_if, tally, sample}

abbrev pub edge : ℤ → ℤ → ℤ → ℤ → Edge
edge a b c d = record { x0 = a; y0 = b; x1 = c; y1 = d }

-- ---- where an edge's count begins
-- n / d, rounded up
abbrev pub ceil_div : ℤ → ℕ → ℤ
ceil_div n d = floor_div (n +ℤ pos d -ℤ pos 1) d

-- of an edge that goes up: the first column whose sample is at or right of the crossing with the row Y
unfoldable pub first_column : Edge → ℤ → ℤ
first_column u Y =
    ceil_div ((Y -ℤ u.y0) *ℤ (u.x1 -ℤ u.x0) +ℤ (u.x0 -ℤ pos 32) *ℤ (u.y1 -ℤ u.y0)) (64 * nat_abs (u.y1 -ℤ u.y0))

-- the column z in a window of k columns from c on: 0 where it lies left of it, k where it lies right of it
unfoldable pub place : ℕ → ℕ → ℤ → ℕ
place c k z = cond (le_z z (pos c)) 0 (cond (le_z (pos (c + k)) z) k (nat_abs z - c))

-- where an edge's count begins in such a window, in the row Y
unfoldable pub start_at : ℕ → ℕ → ℤ → Edge → ℕ
start_at c k Y e = cond (spans e Y) (place c k (first_column (upward e) Y)) k

unfoldable pub start_of : ℕ → ℕ → ℤ → Edge → Start
start_of c k Y e = record { at = start_at c k Y e; by = weight Y e }

abbrev pub start_with : ℕ → ℤ → Start
start_with n v = record { at = n; by = v }

-- of an edge that goes up: its crossing with the row Y and how far the next sample row's is from it, in parts of 1 / 64 d columns
unfoldable pub rise_of : Edge → ℤ → Rise
rise_of u Y = record {
  n = (Y -ℤ u.y0) *ℤ (u.x1 -ℤ u.x0) +ℤ (u.x0 -ℤ pos 32) *ℤ (u.y1 -ℤ u.y0);
  d = u.y1 -ℤ u.y0;
  step = pos 64 *ℤ (u.x1 -ℤ u.x0);
}

-- it goes up, and no sum of its numbers overflows
pub record Sloped (r : Rise) : Type 0 where
  pub up : pos 0 <ℤ r.d
  pub high : nat_abs r.d ≤ 16777216
  pub far : nat_abs r.n ≤ 450000000000000
  pub wide : nat_abs r.step ≤ 1073741824

-- the column of sample row j in such a window, and those of all four
abbrev pub column_in : ℕ → ℕ → Rise → ℕ → ℕ
column_in c k r j = place c k (ceil_div (r.n +ℤ pos j *ℤ r.step) (64 * nat_abs r.d))

unfoldable pub columns_of : ℕ → ℕ → Rise → Columns
columns_of c k r = record { a = column_in c k r 0; b = column_in c k r 1; c = column_in c k r 2; d = column_in c k r 3 }

-- the two columns between lie between the first and the last
pub record Straight (s : Columns) : Type 0 where
  pub second : (min s.a s.d ≤ s.b) × (s.b ≤ max s.a s.d)
  pub third : (min s.a s.d ≤ s.c) × (s.c ≤ max s.a s.d)

-- what begins at column j of the window
unfoldable pub starts : ℕ → ℕ → ℤ → List Edge → ℕ → ℤ
starts c k Y es j = sum_of (λ e. cond (eqb (start_at c k Y e) j) (weight Y e) (pos 0)) es

-- f 0 + f 1 + .. + f (n - 1)
abbrev pub running : (ℕ → ℤ) → ℕ → ℤ
running f zero = pos 0
running f (suc n) = running f n +ℤ f n

-- ---- the scratch: n edges of four numbers each, and then the sums
-- number i of the sums: what begins at column i / 4 of the window, in sample row i % 4 of the pixel row y
abbrev pub sums_at : ℕ → ℕ → ℕ → List Edge → ℕ → ℤ
sums_at c k y es i = starts c k (sample (4 * y + i % 4)) es (i / 4)

-- an edge with such ends has no sample row of the pixel row y between them
abbrev pub missed : ℤ → ℤ → ℕ → Bool
missed y0 y1 y = cond (le_z y0 (sample (4 * y))) (le_z y1 (sample (4 * y))) (lt_z (sample (4 * y + 3)) y0 && lt_z (sample (4 * y + 3)) y1)

-- an edge with such ends lies right of every sample before the column c
abbrev pub beyond : ℤ → ℤ → ℕ → Bool
beyond x0 x1 c = le_z (pos (64 * c)) x0 && le_z (pos (64 * c)) x1

-- v added to number i
abbrev pub bumped : List ℤ → ℕ → ℤ → List ℤ
bumped l i v = set l i (get_or l i (pos 0) +ℤ v)

-- v added to each of the four numbers from i on
unfoldable pub bumped_four : List ℤ → ℕ → ℤ → List ℤ
bumped_four l i v = bumped (bumped (bumped (bumped l i v) (i + 1) v) (i + 2) v) (i + 3) v

-- what begins in sample row r of a window of w pixels, added to the sums from b on
unfoldable pub put_row : ℕ → ℕ → ℕ → Start → List ℤ → List ℤ
put_row b w r s l = cond (ltb (s.at / 4) w) (bumped l (b + (s.at * 4 + r)) s.by) l

-- what begins in the four sample rows
unfoldable pub put_rows : ℕ → ℕ → Start → Start → Start → Start → List ℤ → List ℤ
put_rows b w s u v t l = put_row b w 3 t (put_row b w 2 v (put_row b w 1 u (put_row b w 0 s l)))

-- a pixel that is not marked has no number but 0
pub record Marked (cover : List ℕ) (f : ℕ → ℤ) : Type 0 where
  pub unmarked : (i : ℕ) → i < length cover * 16 → get_or cover (i / 16) 0 ≡ 0 → f i ≡ pos 0

-- l with the m numbers q from b on
abbrev pub laid : ℕ → ℕ → List ℤ → List ℤ → List ℤ
laid b m l q = take b l ++ (q ++ drop m (drop b l))

abbrev pub zeros : ℕ → List ℤ
zeros m = tab m (λ j. pos 0)

-- l with the sums of its first i edges after its n edges, for w pixels from column c on in the pixel row y
abbrev pub with_sums : ℕ → ℕ → ℕ → ℕ → ℕ → List ℤ → List ℤ
with_sums n w c y i l = laid (n * 4) (w * 16) l (tab (w * 16) (sums_at c (w * 4) y (edges_of l i)))

-- n edges of the size that the path rules keep, and room for m numbers after them
pub record Edges (l : List ℤ) (n m : ℕ) : Type 0 where
  pub few : n ≤ 2049
  pub room : n * 4 + m ≤ length l
  pub small : (i : ℕ) → i < n → Small (edge_at l i)

-- what a row asks for: the edges, the paper's working room, and zeros after the edges
pub record Outlined (l : List ℤ) (n : ℕ) : Type 0 where
  pub few : n ≤ 2049
  pub room : 12300 ≤ length l
  pub small : (i : ℕ) → i < n → Small (edge_at l i)
  pub clear : drop (n * 4) l ≡ zeros (length l - n * 4)

-- ---- the samples inside
abbrev pub at : List ℤ → ℕ → ℤ
at s j = get_or s j (pos 0)

-- so small that no sum overflows
abbrev pub Low : ℤ → Type 0
Low z = nat_abs z ≤ 1000000

-- so are the four numbers from i on
abbrev pub LowFour : List ℤ → ℕ → Type 0
LowFour s i = Low (at s i) × Low (at s (i + 1)) × Low (at s (i + 2)) × Low (at s (i + 3))

-- so is the number that is to be added to, and so is what is added: in sample row r, and in the four
abbrev pub Fits : List ℤ → ℕ → ℕ → ℕ → Start → Type 0
Fits l b w r s = (nat_abs s.by ≤ 1) × (s.at / 4 < w → Low (get_or l (b + (s.at * 4 + r)) (pos 0)))

abbrev pub FitRows : List ℤ → ℕ → ℕ → Start → Start → Start → Start → Type 0
FitRows l b w s u v t = Fits l b w 0 s × Fits l b w 1 u × Fits l b w 2 v × Fits l b w 3 t

-- the winding numbers of four sample rows at the next column, after z, by the four numbers from i on
unfoldable pub column_from : Windings → List ℤ → ℕ → Windings
column_from z s i = record { a = z.a +ℤ at s i; b = z.b +ℤ at s (i + 1); c = z.c +ℤ at s (i + 2); d = z.d +ℤ at s (i + 3) }

-- how many of the four are inside
unfoldable pub inside_of : Bool → Windings → ℕ
inside_of non_zero w =
    one_if (inside_by non_zero w.a) + one_if (inside_by non_zero w.b) + one_if (inside_by non_zero w.c) + one_if (inside_by non_zero w.d)

-- a sample row of a pixel: the last winding number, and how many are inside
pub record Taken : Type 0 where
  pub sum : ℤ
  pub count : ℕ

unfoldable pub taken_of : Bool → ℤ → ℤ → ℤ → ℤ → Taken
taken_of non_zero a b c d = record {
  sum = d;
  count = one_if (inside_by non_zero a) + one_if (inside_by non_zero b) + one_if (inside_by non_zero c) + one_if (inside_by non_zero d);
}

abbrev pub taken_from : Bool → ℤ → ℤ → ℤ → ℤ → ℤ → Taken
taken_from non_zero z a b c d = taken_of non_zero (z +ℤ a) (z +ℤ a +ℤ b) (z +ℤ a +ℤ b +ℤ c) (z +ℤ a +ℤ b +ℤ c +ℤ d)

-- four columns of sample row r among a pixel's 16 numbers q
abbrev pub line_from : Bool → ℤ → (ℕ → ℤ) → ℕ → Taken
line_from non_zero z q r = taken_from non_zero z (q r) (q (r + 4)) (q (r + 8)) (q (r + 12))

-- k of a pixel whose four sample rows have these winding numbers all along
unfoldable pub full_of : Bool → ℤ → ℤ → ℤ → ℤ → ℕ
full_of non_zero a b c d = (one_if (inside_by non_zero a) + one_if (inside_by non_zero b) + one_if (inside_by non_zero c) + one_if (inside_by non_zero d)) * 4

unfoldable pub cell_of : Bool → Taken → Taken → Taken → Taken → Cell
cell_of non_zero t u v w = record {
  a = t.sum;
  b = u.sum;
  c = v.sum;
  d = w.sum;
  full = full_of non_zero t.sum u.sum v.sum w.sum;
  count = t.count + u.count + v.count + w.count;
}

-- the pixel of four columns, and the winding numbers at the last column of one
abbrev pub cell_in : Bool → Windings → Windings → Windings → Windings → Cell
cell_in non_zero t u v w =
    cell_of non_zero (taken_of non_zero t.a u.a v.a w.a) (taken_of non_zero t.b u.b v.b w.b) (taken_of non_zero t.c u.c v.c w.c)
    (taken_of non_zero t.d u.d v.d w.d)

abbrev pub last_of : Cell → Windings
last_of z = record { a = z.a; b = z.b; c = z.c; d = z.d }

-- the next pixel after z: its 16 numbers are q, or nothing begins in it
abbrev pub cell_from : Bool → Cell → (ℕ → ℤ) → Cell
cell_from non_zero z q = cell_of non_zero (line_from non_zero z.a q 0) (line_from non_zero z.b q 1) (line_from non_zero z.c q 2) (line_from non_zero z.d q 3)

abbrev pub cell_after : Cell → Cell
cell_after z = record { a = z.a; b = z.b; c = z.c; d = z.d; full = z.full; count = z.full }

-- sample row r of the sums
abbrev pub row_of : List ℤ → ℕ → ℕ → ℤ
row_of s r j = at s (j * 4 + r)

-- k of pixel p by the sums
abbrev pub pixel_of : Bool → List ℤ → ℕ → ℕ
pixel_of non_zero s p = total 4 (λ r. tally non_zero (λ j. running (row_of s r) (suc j)) p)

-- no sum overflows: of a pixel, of a column, and of the running sums over n columns
pub record Bounded (z : Cell) : Type 0 where
  pub a : Low z.a
  pub b : Low z.b
  pub c : Low z.c
  pub d : Low z.d

pub record Sized (n : ℕ) (w : Windings) : Type 0 where
  pub a : nat_abs w.a ≤ n
  pub b : nat_abs w.b ≤ n
  pub c : nat_abs w.c ≤ n
  pub d : nat_abs w.d ≤ n

pub record Tame (s : List ℤ) (n : ℕ) : Type 0 where
  pub each : (j : ℕ) → Low (at s j)
  pub sums : (r j : ℕ) → r < 4 → j ≤ n → Low (running (row_of s r) j)

-- ---- scissors
abbrev pub in_span : Span → ℕ → Bool
in_span s x = le_z s.start (pos x) && lt_z (pos x) s.end

abbrev pub no_span : Span
no_span = record { start = pos 0; end = pos 0 }

abbrev pub run_of : ℤ → ℤ → Span
run_of start size = record { start = start; end = start +ℤ size }

-- the columns that rectangle r of the n has in the row y
unfoldable pub span_of : List ℕ → ℕ → ℕ → ℕ → Span
span_of scissors n r y =
    cond (leb n r) no_span
    (cond (in_span (run_of (i32_at scissors (16 * r + 4)) (i32_at scissors (16 * r + 12))) y) (run_of (i32_at scissors (16 * r)) (i32_at scissors (16 * r + 8)))
    no_span)
