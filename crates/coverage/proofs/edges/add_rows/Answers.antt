-- `coverage::edges::add_rows` meets its contract. Assumes nothing.
use mathlib.Core.Path.{◌≡◌, refl, sym, ap, subst, ◌∙◌}
use mathlib.Core.List.{List}
use mathlib.Core.Bool.{◌&&◌}
use mir.Syntax.{w32}
use mir.Val.{to_z}
use mir.Facts.{to_z_pos}
use Prim.Native.Nat.{ℕ, ◌+◌, ◌*◌, ◌/◌, ◌^◌, ◌≤◌, ◌<◌}
use native.Mathlib.Omega.{arith}
use lib.ListN.{length}
use lib.IntN.{ℤ, pos, negsuc, nat_abs}
use lib.Signed.{le_z, lt_z}
use Rattle.lists.proofs.Laws.{tab_length}
use Rattle.path.specs.Stored.{edge_at, edges_of, Small}
use Rattle.coverage.specs.declared.Start.{Start}
use Rattle.coverage.specs.Winding.{turned, sample}
use Rattle.coverage.specs.Scanline.{start_of, start_with, rise_of, columns_of, put_rows, sums_at, with_sums, Fits, FitRows, Straight, Marked}
use Rattle.coverage.specs.Marks.{mark_rows}
use Rattle.coverage.proofs.Begin.{clean}
use Rattle.coverage.proofs.Starts.{by_small}
use Rattle.coverage.proofs.Steep.{Begins, columns_straight, rise_asks, small_turned, passes_up, passes_down}
use Rattle.coverage.proofs.Turn.{Added, added_none, added_low, added_rows, added_all}
use Rattle.coverage.proofs.edges.add_rows.Goals as goal
use Rattle.coverage.proofs.edges.add_rows.Tie as tie
use Rattle.coverage.proofs.edges.add_rows.Lts as lts
use Rattle.coverage.proofs.edges.add_rows.Reads as reads

abbrev wide : (c : lts.Start tie.the-claims reads.Pre reads.Post tie.handed_clauses) → ℕ
wide c = length c.args.cover.now

-- the sums with the first r sample rows
abbrev Upto : (c : lts.Start tie.the-claims reads.Pre reads.Post tie.handed_clauses) → ℕ → List ℤ → List ℕ → Type 0
Upto c r v d = Added c.args.n (wide c) c.args.c c.args.y c.args.scratch.now (edges_of c.args.scratch.now c.args.i) c.args.e r v d

none : (c : lts.Start tie.the-claims reads.Pre reads.Post tie.handed_clauses) → (Upto c) 0 c.args.scratch.now c.args.cover.now
none c =
    added_none c.args.n (wide c) c.args.c c.args.y c.args.scratch.now c.requires.edges.0.room c.args.i c.args.e c.requires.edges.1
    c.args.cover.now refl c.requires.scratch_value c.requires.marked

few : (c : lts.Start tie.the-claims reads.Pre reads.Post tie.handed_clauses) → length (edges_of c.args.scratch.now c.args.i) < 1000000
few c = omega (arith, tab_length c.args.i (edge_at c.args.scratch.now), c.requires.i_lt_n.0, c.requires.edges.0.few)

small : (c : lts.Start tie.the-claims reads.Pre reads.Post tie.handed_clauses) → Small c.args.e
small c = subst Small (sym c.requires.edges.1) (c.requires.edges.0.small c.args.i c.requires.i_lt_n.0)

-- where the count begins in the row Y, and in the sample row r
abbrev start_by : (c : lts.Start tie.the-claims reads.Pre reads.Post tie.handed_clauses) → ℤ → Start
start_by c Y = start_of c.args.c ((wide c) * 4) Y c.args.e

abbrev start_in : (c : lts.Start tie.the-claims reads.Pre reads.Post tie.handed_clauses) → ℕ → Start
start_in c r = (start_by c) (sample (4 * c.args.y + r))

-- a sample row, as it is handed on
line : (c : lts.Start tie.the-claims reads.Pre reads.Post tie.handed_clauses) → (r n : ℕ) → (h : r < 4) → (q : n ≡ 64 * (4 * c.args.y + r) + 32)
    → to_z w32 n ≡ sample (4 * c.args.y + r)
line c r n h q = ap (to_z w32) q ∙ to_z_pos w32 (omega (arith, h, c.requires.i_lt_n.1))

asks : (c : lts.Start tie.the-claims reads.Pre reads.Post tie.handed_clauses) → (r n : ℕ) → (h : r < 4) → (q : n ≡ 64 * (4 * c.args.y + r) + 32)
    → Small c.args.e × ((nat_abs (to_z w32 n) ≤ 8388608) × (c.args.c + (wide c) * 4 < 2 ^ 31))
asks c r n h q = (
  (small c),
  (subst (λ (z : ℤ). nat_abs z ≤ 8388608) (sym ((line c) r n h q)) (omega (arith, h, c.requires.i_lt_n.1)), omega (arith, c.requires.i_lt_n.2)),
)

found : (c : goal.After-put_rows-arg-3-1) → (r n : ℕ) → (h : r < 4) → (q : n ≡ 64 * (4 * c.args.y + r) + 32) → (s : Start)
    → s ≡ (start_by c.before.before.before.before.before.before.before.before.before.before.before.before.before.before.before.before.before) (to_z w32 n)
    → s ≡ (start_in c.before.before.before.before.before.before.before.before.before.before.before.before.before.before.before.before.before) r
found c r n h q s o = o
    ∙ ap (start_by c.before.before.before.before.before.before.before.before.before.before.before.before.before.before.before.before.before)
    ((line c.before.before.before.before.before.before.before.before.before.before.before.before.before.before.before.before.before) r n h q)

-- what begins in it may be added
unit : (c : lts.Start tie.the-claims reads.Pre reads.Post tie.handed_clauses) → (r : ℕ) → (h : r < 4) → (s : Start) → (q : s ≡ (start_in c) r)
    → nat_abs s.by ≤ 1
unit c r h s q = by_small c.args.c ((wide c) * 4) (sample (4 * c.args.y + r)) c.args.e s q

fit : (c : lts.Start tie.the-claims reads.Pre reads.Post tie.handed_clauses) → (r : ℕ) → (h : r < 4) → (s : Start) → (q : s ≡ (start_in c) r)
    → Fits c.args.scratch.now (c.args.n * 4) (wide c) r s
fit c r h s q = (
  ((unit c) r h s q),
  λ i. added_low c.args.n (wide c) c.args.c c.args.y c.args.scratch.now c.requires.edges.0.room
      (edges_of c.args.scratch.now c.args.i) c.args.e 0 c.args.scratch.now c.args.cover.now (none c) (few c) (s.at * 4 + r)
      (omega (arith, h, i)),
)

-- what begins in all four may be added, and is all that the edge begins
fit_all : (c : lts.Start tie.the-claims reads.Pre reads.Post tie.handed_clauses) → (s u v t : Start) → (q0 : s ≡ (start_in c) 0)
    → (q1 : u ≡ (start_in c) 1) → (q2 : v ≡ (start_in c) 2) → (q3 : t ≡ (start_in c) 3) → FitRows c.args.scratch.now (c.args.n * 4) (wide c) s u v t
fit_all c s u v t q0 q1 q2 q3 = ((fit c) 0 (omega arith) s q0, (fit c) 1 (omega arith) u q1, (fit c) 2 (omega arith) v q2, (fit c) 3 (omega arith) t q3)

all-added : (c : lts.Start tie.the-claims reads.Pre reads.Post tie.handed_clauses) → (s u v t : Start) → (q0 : s ≡ (start_in c) 0)
    → (q1 : u ≡ (start_in c) 1) → (q2 : v ≡ (start_in c) 2) → (q3 : t ≡ (start_in c) 3) → (z : List ℤ) (m : List ℕ)
    → z ≡ put_rows (c.args.n * 4) (wide c) s u v t c.args.scratch.now
    → m ≡ mark_rows (s.at / 4) (u.at / 4) (v.at / 4) (t.at / 4) c.args.cover.now
    → (z ≡ with_sums c.args.n (wide c) c.args.c c.args.y (c.args.i + 1) c.args.scratch.now)
    × Marked m (sums_at c.args.c ((wide c) * 4) c.args.y (edges_of c.args.scratch.now (c.args.i + 1)))
all-added c s u v t q0 q1 q2 q3 z m o p =
    let a = c.args in
    let room = c.requires.edges.0.room in
    added_all a.n (wide c) a.c a.y a.scratch.now room a.i a.e c.requires.edges.1 m 4 z refl
    (added_rows a.n (wide c) a.c a.y a.scratch.now room (edges_of a.scratch.now a.i) a.e s u v t q0 q1 q2 q3 a.scratch.now z
    a.cover.now m o p (none c))

-- the first and the last sample row
first : (c : lts.Start tie.the-claims reads.Pre reads.Post tie.handed_clauses) → to_z w32 (256 * c.args.y + 32) ≡ sample (4 * c.args.y + 0)
first c = (line c) 0 (256 * c.args.y + 32) (omega arith) (omega arith)

last : (c : lts.Start tie.the-claims reads.Pre reads.Post tie.handed_clauses) → to_z w32 (256 * c.args.y + 224) ≡ sample (4 * c.args.y + 3)
last c = (line c) 3 (256 * c.args.y + 224) (omega arith) (omega arith)

-- ---- an edge that goes past all four sample rows, up
up : (c : goal.After-put_columns-arg-then-passes-2-1)
    → let a = c.args in
    c.passes.result ≡ (le_z a.e.y0 (sample (4 * a.y + 0)) && lt_z (sample (4 * a.y + 3)) a.e.y1)
up c =
    let e = c.args.e in
    let p = small c.before.before.before.before.before.before.before.before.before.before.before in
    rw (
      clean e.y0 p.y0,
      clean e.y1 p.y1,
      first c.before.before.before.before.before.before.before.before.before.before.before,
      last c.before.before.before.before.before.before.before.before.before.before.before,
    ) at c.passes.ensures

begins-up : (c : goal.After-columns)
    → let a = c.args in
    (Begins a.c (length a.cover.now * 4) a.y a.e c.columns.result (pos 1)) × Straight c.columns.result
begins-up c =
    let rise = c.rise in
    let a = c.args in
    let k = length a.cover.now * 4 in
    let e = a.e in
    let p = small c.before.before.before.before.before.before.before.before.before.before.before.before.before in
    let slope : rise.result ≡ rise_of e (sample (4 * a.y + 0)) =
    rw (
      clean e.x0 p.x0,
      clean e.y0 p.y0,
      clean e.x1 p.x1,
      clean e.y1 p.y1,
      first c.before.before.before.before.before.before.before.before.before.before.before.before.before,
    ) at rise.ensures.value in (
      passes_up a.c k a.y e c.columns.result (sym (up c.before.before) ∙ c.if-passes.true)
          (c.columns.ensures ∙ ap (columns_of a.c k) slope),
      subst Straight (sym c.columns.ensures) (columns_straight a.c k rise.result rise.ensures.sloped.up),
    )

-- ---- and down
down : (c : goal.After-put_columns-arg-then-passes-2-4-1)
    → let a = c.args in
    c.passes-2.result ≡ (le_z a.e.y1 (sample (4 * a.y + 0)) && lt_z (sample (4 * a.y + 3)) a.e.y0)
down c =
    let e = c.args.e in
    let p = small c.before.before.before.before.before.before.before.before.before.before.before.before.before in
    rw (
      clean e.y0 p.y0,
      clean e.y1 p.y1,
      first c.before.before.before.before.before.before.before.before.before.before.before.before.before,
      last c.before.before.before.before.before.before.before.before.before.before.before.before.before,
    ) at c.passes-2.ensures

begins-down : (c : goal.After-columns-then-passes-2)
    → let a = c.args in
    (Begins a.c (length a.cover.now * 4) a.y a.e c.columns-then-passes-2.result (negsuc 0)) × Straight c.columns-then-passes-2.result
begins-down c =
    let rise = c.rise-then-passes-2 in
    let a = c.args in
    let k = length a.cover.now * 4 in
    let e = a.e in
    let p = small c.before.before.before.before.before.before.before.before.before.before.before.before.before.before.before in
    let slope : rise.result ≡ rise_of (turned e) (sample (4 * a.y + 0)) =
    rw (
      clean e.x0 p.x0,
      clean e.y0 p.y0,
      clean e.x1 p.x1,
      clean e.y1 p.y1,
      first c.before.before.before.before.before.before.before.before.before.before.before.before.before.before.before,
    ) at rise.ensures.value in (
      passes_down a.c k a.y e c.columns-then-passes-2.result (sym (down c.before.before) ∙ c.if-passes-2.true)
          (c.columns-then-passes-2.ensures ∙ ap (columns_of a.c k) slope),
      subst Straight (sym c.columns-then-passes-2.ensures) (columns_straight a.c k rise.result rise.ensures.sloped.up),
    )

first_at : (c : goal.After-put_rows-arg-3-1)
    → c.start-s.result ≡ start_in c.before.before.before.before.before.before.before.before.before.before.before.before.before.before.before.before.before 0
first_at c =
    found c 0 (256 * c.args.y + 32) (omega arith) (omega arith) c.start-s.result c.start-s.ensures

last-at : (c : goal.After-put_rows-arg-3-1)
    → c.start-t.result ≡ start_in c.before.before.before.before.before.before.before.before.before.before.before.before.before.before.before.before.before 3
last-at c =
    found c 3 (256 * c.args.y + 224) (omega arith) (omega arith) c.start-t.result c.start-t.ensures

second_at : (c : goal.After-put_rows-arg-3-1)
    → c.start-u.result ≡ start_in c.before.before.before.before.before.before.before.before.before.before.before.before.before.before.before.before.before 1
second_at c =
    found c 1 (256 * c.args.y + 96) (omega arith) (omega arith) c.start-u.result c.start-u.ensures

third_at : (c : goal.After-put_rows-arg-3-1)
    → c.start-v.result ≡ start_in c.before.before.before.before.before.before.before.before.before.before.before.before.before.before.before.before.before 2
third_at c =
    found c 2 (256 * c.args.y + 160) (omega arith) (omega arith) c.start-v.result c.start-v.ensures

pub rise-requires : goal.rise-requires
rise-requires c =
    let e = c.args.e in
    let p = small c.before.before.before.before.before.before.before.before.before.before.before in
    let asks = rise_asks c.args.y e (sym (up c) ∙ c.if-passes.true) p c.requires.i_lt_n.1 in
    record {
      y0_lt_y1 = rw (clean e.y0 p.y0, clean e.y1 p.y1) asks.0;
      x0_bound = rw (
        clean e.x0 p.x0,
        clean e.y0 p.y0,
        clean e.x1 p.x1,
        clean e.y1 p.y1,
        first c.before.before.before.before.before.before.before.before.before.before.before,
      ) asks.1;
    }

pub columns-requires : goal.columns-requires
columns-requires c =
    (c.rise.ensures.sloped, omega (arith, c.requires.i_lt_n.2))

pub put_columns-requires : goal.put_columns-requires
put_columns-requires c =
    let s = c.columns.result in
    let b = begins-up c in
    record {
      cover_in_bounds = (c.requires.edges.0.room, c.requires.i_lt_n.3, b.1);
      fit_rows = fit_all c.before.before.before.before.before.before.before.before.before.before.before.before.before (start_with s.a (pos 1))
          (start_with s.b (pos 1)) (start_with s.c (pos 1)) (start_with s.d (pos 1))
          b.0.0 b.0.1 b.0.2 b.0.3;
    }

pub returns-then-passes : goal.returns-then-passes
returns-then-passes c =
    let s = c.columns.result in
    let b = (begins-up c.before.before.before.before.before.before.before).0 in
    let p = c.put_columns in
    let all = all-added
    c.before.before.before.before.before.before.before.before.before.before.before.before.before.before.before.before.before.before.before.before
    (start_with s.a (pos 1)) (start_with s.b (pos 1)) (start_with s.c (pos 1)) (start_with s.d (pos 1))
    b.0 b.1 b.2 b.3 p.new.scratch p.new.cover p.ensures.scratch_after p.ensures.cover_after in
    record { scratch_after = all.0; marked_2 = all.1; grouped = p.ensures.grouped }

pub rise-requires-then-passes-2 : goal.rise-requires-then-passes-2
rise-requires-then-passes-2 c =
    let e = c.args.e in
    let p = small c.before.before.before.before.before.before.before.before.before.before.before.before.before in
    let asks = rise_asks c.args.y (turned e) (sym (down c) ∙ c.if-passes-2.true) (small_turned e p) c.requires.i_lt_n.1 in
    record {
      y0_lt_y1 = rw (clean e.y0 p.y0, clean e.y1 p.y1) asks.0;
      x0_bound = rw (
        clean e.x0 p.x0,
        clean e.y0 p.y0,
        clean e.x1 p.x1,
        clean e.y1 p.y1,
        first c.before.before.before.before.before.before.before.before.before.before.before.before.before,
      ) asks.1;
    }

pub columns-requires-then-passes-2 : goal.columns-requires-then-passes-2
columns-requires-then-passes-2 c =
    (c.rise-then-passes-2.ensures.sloped, omega (arith, c.requires.i_lt_n.2))

pub put_columns-requires-then-passes-2 : goal.put_columns-requires-then-passes-2
put_columns-requires-then-passes-2 c =
    let s = c.columns-then-passes-2.result in
    let b = begins-down c in
    record {
      cover_in_bounds = (c.requires.edges.0.room, c.requires.i_lt_n.3, b.1);
      fit_rows = fit_all c.before.before.before.before.before.before.before.before.before.before.before.before.before.before.before (start_with s.a
          (negsuc 0)) (start_with s.b (negsuc 0)) (start_with s.c (negsuc 0)) (start_with s.d (negsuc 0))
          b.0.0 b.0.1 b.0.2 b.0.3;
    }

pub returns-then-passes-2 : goal.returns-then-passes-2
returns-then-passes-2 c =
    let s = c.columns-then-passes-2.result in
    let b = (begins-down c.before.before.before.before.before.before.before).0 in
    let p = c.put_columns-then-passes-2 in
    let all = all-added
    c.before.before.before.before.before.before.before.before.before.before.before.before.before.before.before.before.before.before.before.before.before.before
    (start_with s.a (negsuc 0)) (start_with s.b (negsuc 0)) (start_with s.c (negsuc 0)) (start_with s.d (negsuc 0))
    b.0 b.1 b.2 b.3 p.new.scratch p.new.cover p.ensures.scratch_after p.ensures.cover_after in
    record { scratch_after = all.0; marked_2 = all.1; grouped = p.ensures.grouped }

pub start-s-requires : goal.start-s-requires
start-s-requires c =
    record {
      small = (asks c.before.before.before.before.before.before.before.before.before.before.before 0 (256 * c.args.y + 32) (omega arith)
          (omega arith)).0;
      y_bound = (asks c.before.before.before.before.before.before.before.before.before.before.before 0 (256 * c.args.y + 32)
          (omega arith) (omega arith)).1;
    }

pub start-t-requires : goal.start-t-requires
start-t-requires c =
    record {
      small = (asks c.before.before.before.before.before.before.before.before.before.before.before.before 3 (256 * c.args.y + 224) (omega arith)
          (omega arith)).0;
      y_bound = (asks c.before.before.before.before.before.before.before.before.before.before.before.before 3 (256 * c.args.y + 224)
          (omega arith) (omega arith)).1;
    }

pub overflow_mul-y : goal.overflow_mul-y
overflow_mul-y c =
    omega (arith, c.requires.i_lt_n.1)

pub overflow_add-y : goal.overflow_add-y
overflow_add-y c =
    omega (arith, c.requires.i_lt_n.1)

pub overflow_cast-y : goal.overflow_cast-y
overflow_cast-y c =
    omega (arith, c.requires.i_lt_n.1)

pub start-u-requires : goal.start-u-requires
start-u-requires c =
    record {
      small = (asks c.before.before.before.before.before.before.before.before.before.before.before.before.before 1 (256 * c.args.y + 96)
          (omega arith) (omega arith)).0;
      y_bound = (asks c.before.before.before.before.before.before.before.before.before.before.before.before.before 1
          (256 * c.args.y + 96) (omega arith) (omega arith)).1;
    }

pub overflow_mul-y-2 : goal.overflow_mul-y-2
overflow_mul-y-2 c =
    omega (arith, c.requires.i_lt_n.1)

pub overflow_add-y-2 : goal.overflow_add-y-2
overflow_add-y-2 c =
    omega (arith, c.requires.i_lt_n.1)

pub overflow_cast-y-2 : goal.overflow_cast-y-2
overflow_cast-y-2 c =
    omega (arith, c.requires.i_lt_n.1)

pub start-v-requires : goal.start-v-requires
start-v-requires c =
    record {
      small = (asks c.before.before.before.before.before.before.before.before.before.before.before.before.before.before 2 (256 * c.args.y + 160)
          (omega arith) (omega arith)).0;
      y_bound = (asks c.before.before.before.before.before.before.before.before.before.before.before.before.before.before
          2 (256 * c.args.y + 160) (omega arith) (omega arith)).1;
    }

pub put_rows-requires : goal.put_rows-requires
put_rows-requires c =
    record {
      cover_in_bounds = (c.requires.edges.0.room, c.requires.i_lt_n.3);
      fit_rows = fit_all c.before.before.before.before.before.before.before.before.before.before.before.before.before.before.before.before.before
          c.start-s.result c.start-u.result c.start-v.result c.start-t.result
          (first_at c) (second_at c) (third_at c) (last-at c);
    }

pub returns : goal.returns
returns c =
    let half = c.before.before.before.before.before.before.before.before.before.before.before.before in
    let p = c.put_rows in
    let all = all-added
    half.before.before.before.before.before.before.before.before.before.before.before.before
    c.start-s.result c.start-u.result c.start-v.result
    c.start-t.result (first_at c.before.before.before.before.before.before.before) (second_at c.before.before.before.before.before.before.before)
    (third_at c.before.before.before.before.before.before.before) (last-at c.before.before.before.before.before.before.before) p.new.scratch
    p.new.cover p.ensures.scratch_after p.ensures.cover_after in
    record { scratch_after = all.0; marked_2 = all.1; grouped = p.ensures.grouped }
