-- `coverage::walk::take_runs` meets its contract. Assumes nothing.
use mathlib.Core.Path.{◌≡◌, refl, sym, ap, subst, ◌∙◌}
use mathlib.Core.List.{◌++◌, append-nil}
use Prim.Native.Nat.{ℕ, ◌+◌, ◌-◌, ◌*◌, ◌≤◌, min}
use native.Mathlib.Omega.{arith}
use lib.IntN.{ℤ, nat_abs}
use lib.ListN.{length}
use Rattle.lists.specs.Lists.{tab}
use Rattle.runs.specs.Runs.{expand, Runs}
use Rattle.coverage.specs.Scanline.{pixel_of}
use Rattle.coverage.specs.Marks.{Blank}
use Rattle.coverage.proofs.Cells.{stands_bounded, numbers_stand}
use Rattle.coverage.proofs.Walked.{Walked, Longer, no_cell, pixel_le, walked_first, walked_blank, cell_count, cell_full, walked_cell, walked_sums}
use Rattle.coverage.proofs.walk.take_runs.Goals as goal
use Rattle.coverage.proofs.walk.take_runs.Tie as tie
use Rattle.coverage.proofs.walk.take_runs.Lts as lts
use Rattle.coverage.proofs.walk.take_runs.Reads as reads

-- what the first run comes to
first_run : (c : lts.After-push tie.the-claims reads.Pre reads.Post goal.the-invariant-loop-e goal.the-decreases-loop-e tie.handed_clauses)
    → let a = c.args in
    Walked a.nonzero a.sums.now a.from c.group_from-e.result no_cell a.sums.now c.push-m.new.runs c.push-m.result
    × Longer (pixel_of a.nonzero a.sums.now) a.runs.now a.n 0 c.push-m.new.runs c.push-m.result c.group_from-e.result
first_run c =
    let a = c.args in
    let m = c.group_from-e in
    let p = c.push-m in
    let e : min (0 * 64) (length a.marks.now) ≡ 0 = omega arith in
    walked_blank a.nonzero a.sums.now a.marks.now a.from 0 a.n no_cell a.sums.now a.runs.now
    (walked_first a.nonzero a.sums.now a.marks.now a.from a.runs.now a.n c.requires.runs.0) c.requires.sums_len.0 c.requires.sums_len.1
    m.result p.result (a.from + m.result - a.from) p.new.runs (subst (λ (q : ℕ). Blank a.marks.now q m.result) e m.ensures)
    p.ensures.runs_2.0 (omega arith) p.ensures.result_after

-- the runs have room for the row
room : (c : lts.At-loop tie.the-claims reads.Pre reads.Post goal.the-invariant-loop-e goal.the-decreases-loop-e tie.handed_clauses)
    → let a = c.args in
    a.from + length a.marks.now ≤ length c.loop-e.runs
room c =
    omega (arith, c.loop-e.invariant.2, c.push-m.ensures.runs_2.1, c.requires.runs.1)

-- the pixel that is taken
taken : (c : lts.After-take_cell tie.the-claims reads.Pre reads.Post goal.the-invariant-loop-e goal.the-decreases-loop-e tie.handed_clauses)
    → let a = c.args in
    (c.take_cell-z.result.count ≡ pixel_of a.nonzero a.sums.now c.loop-e.e) × (c.take_cell-z.result.full ≤ 16)
taken c =
    let a = c.args in
    let l = c.loop-e in
    let t = c.take_cell-z in (
      cell_count a.nonzero a.sums.now a.marks.now a.from l.e l.m l.z l.sums l.runs l.invariant.3 c.requires.sums_len.0 t.result
          c.loop-e-test.true t.ensures.value,
      cell_full a.nonzero a.sums.now a.marks.now a.from l.e l.m l.z l.sums l.runs l.invariant.3 c.requires.sums_len.0 t.result
          c.loop-e-test.true t.ensures.value,
    )

pub group_from-e-requires : goal.group_from-e-requires
group_from-e-requires c =
    (omega arith, c.requires.grouped)

pub overflow_add-from : goal.overflow_add-from
overflow_add-from c =
    omega (arith, c.group_from-e.ensures.high, c.requires.runs.2)

pub push-m-requires : goal.push-m-requires
push-m-requires c =
    let b = c.group_from-e.ensures in
    let r = c.requires.runs in
    record { runs = r.0; p_le_e = (omega arith, omega (arith, b.high, r.1), omega (arith, b.high, r.2), omega arith) }

pub loop-e-init : goal.loop-e-init
loop-e-init c =
    (c.group_from-e.ensures.high, refl, refl, (first_run c.before.before.before).0, λ h q. q)

pub take_cell-z-requires : goal.take_cell-z-requires
take_cell-z-requires c =
    let a = c.args in
    let l = c.loop-e in
    let w = l.invariant.3 in
    let m = c.requires.sums_len.2 in
    record {
      p_in_bounds = (omega (arith, l.invariant.1, c.requires.sums_len.0), stands_bounded (length a.marks.now * 4) w.stands m (omega arith));
      by_index = λ j. subst (λ (z : ℤ). nat_abs z ≤ 1000000) (sym (numbers_stand a.sums.now l.sums l.e w.zeroed j)) (m.each (l.e * 16 + j));
    }

pub overflow_add-from-in-loop-e : goal.overflow_add-from-in-loop-e
overflow_add-from-in-loop-e c =
    omega (arith, c.loop-e.invariant.0, c.requires.runs.2)

pub overflow_add-from-in-loop-e-2 : goal.overflow_add-from-in-loop-e-2
overflow_add-from-in-loop-e-2 c =
    omega (arith, c.loop-e-test.true, c.requires.runs.2)

pub push-m-requires-in-loop-e : goal.push-m-requires-in-loop-e
push-m-requires-in-loop-e c =
    let a = c.args in
    let l = c.loop-e in
    let here = c.loop-e-test.true in
    let k = (taken c.before.before.before).0 in
    record {
      runs = l.invariant.3.runs;
      p_le_e = (
        omega arith,
        omega (arith, room c.before.before.before.before.before.before, here),
        omega (arith, here, c.requires.runs.2),
        omega (arith, k, pixel_le a.nonzero a.sums.now l.e),
      );
    }

pub next_mark-e-requires : goal.next_mark-e-requires
next_mark-e-requires c =
    (omega (arith, c.loop-e-test.true), c.requires.grouped)

pub overflow_add-from-in-loop-e-3 : goal.overflow_add-from-in-loop-e-3
overflow_add-from-in-loop-e-3 c =
    omega (arith, c.loop-e-test.true, c.requires.runs.2)

pub overflow_add-from-in-loop-e-4 : goal.overflow_add-from-in-loop-e-4
overflow_add-from-in-loop-e-4 c =
    omega (arith, c.next_mark-e.ensures.high, c.requires.runs.2)

pub push-m-requires-in-loop-e-2 : goal.push-m-requires-in-loop-e-2
push-m-requires-in-loop-e-2 c =
    let b = c.next_mark-e.ensures in
    let p = c.push-m-in-loop-e in
    record {
      runs = p.ensures.runs_2.0;
      p_le_e = (
        omega (arith, b.low),
        omega (arith, b.high, room c.before.before.before.before.before.before.before.before.before.before.before, p.ensures.runs_2.1),
        omega (arith, b.high, c.requires.runs.2),
        omega (arith, (taken c.before.before.before.before.before.before.before.before).1),
      );
    }

pub loop-e-smaller : goal.loop-e-smaller
loop-e-smaller c =
    omega (arith, c.loop-e-test.true, c.next_mark-e.ensures.low, c.next_mark-e.ensures.high)

pub loop-e-preserved : goal.loop-e-preserved
loop-e-preserved c =
    let a = c.args in
    let l = c.loop-e in
    let t = c.take_cell-z in
    let p = c.push-m-in-loop-e in
    let m = c.next_mark-e in
    let q = c.push-m-in-loop-e-2 in
    let u = walked_cell a.nonzero a.sums.now a.marks.now a.from l.e l.m l.z l.sums l.runs l.invariant.3 c.requires.sums_len.0
    t.result c.loop-e-test.true t.ensures.value t.new.sums t.ensures.sums_after p.result (a.from + (l.e + 1) - (a.from + l.e)) p.new.runs
    p.ensures.runs_2.0 (omega arith) p.ensures.result_after in
    let w = walked_blank a.nonzero a.sums.now a.marks.now a.from (l.e + 1) p.result t.result t.new.sums p.new.runs u.0
    c.requires.sums_len.0 c.requires.sums_len.1 m.result q.result (a.from + m.result - (a.from + (l.e + 1))) q.new.runs m.ensures q.ensures.runs_2.0
    (omega arith) q.ensures.result_after in (
      m.ensures.high,
      t.auto.sums ∙ l.invariant.1,
      q.ensures.runs_2.1 ∙ p.ensures.runs_2.1 ∙ l.invariant.2,
      w.0,
      λ h e. w.1 h (u.1 h (l.invariant.4 h e)),
    )

pub shape_of-runs : goal.shape_of-runs
shape_of-runs c =
    c.loop-e.invariant.2 ∙ c.push-m.ensures.runs_2.1

pub returns : goal.returns
returns c =
    let a = c.args in
    let l = c.loop-e in
    let w = l.invariant.3 in
    let e : l.e ≡ length a.marks.now = omega (arith, l.invariant.0) in
    let h = expand a.runs.now a.n in
    let f = pixel_of a.nonzero a.sums.now in
    record {
      sums_after = walked_sums a.nonzero a.sums.now a.marks.now a.from l.e l.m l.z l.sums l.runs w c.requires.sums_len.0 e;
      runs_2 = (subst (λ (p : ℕ). Runs l.runs l.m (a.from + p)) e w.runs, l.invariant.2 ∙ c.push-m.ensures.runs_2.1);
      result_after = l.invariant.4 h ((first_run c.before.before.before.before.before).1 h (sym (append-nil h))) ∙ ap (λ (p : ℕ). h ++ tab p f) e;
    }
