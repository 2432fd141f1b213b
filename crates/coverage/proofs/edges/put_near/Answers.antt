-- `coverage::edges::put_near` meets its contract. Assumes nothing.
use mathlib.Core.Path.{◌∙◌}
use Prim.Native.Nat.{◌/◌}
use native.Mathlib.Omega.{arith}
use lib.ListN.{length}
use Rattle.coverage.proofs.Rows.{fits_second, fits_third, fits_fourth, rows_put, rows_marked}
use Rattle.coverage.proofs.edges.put_near.Goals as goal

pub put_inside-requires-2 : goal.put_inside-requires-2
put_inside-requires-2 c =
    let a = c.args in
    let one = c.put_inside in
    let wide = one.auto.cover in
    let long = one.auto.scratch in
    record {
      r_bound = (omega arith, omega (arith, wide, long, c.requires.cover_in_bounds.0), omega (arith, wide, c.requires.at_in_bounds));
      fits = fits_second a.base (length a.cover.now) a.s a.u a.v a.t a.scratch.now c.requires.cover_in_bounds.1
          (length one.new.cover) one.new.scratch one.auto.cover one.ensures.scratch_after;
    }

pub put_inside-requires-3 : goal.put_inside-requires-3
put_inside-requires-3 c =
    let a = c.args in
    let one = c.put_inside in
    let two = c.put_inside-2 in
    let wide = two.auto.cover ∙ one.auto.cover in
    let long = two.auto.scratch ∙ one.auto.scratch in
    record {
      r_bound = (omega arith, omega (arith, wide, long, c.requires.cover_in_bounds.0), omega (arith, wide, c.requires.at_in_bounds));
      fits = fits_third a.base (length a.cover.now) a.s a.u a.v a.t a.scratch.now c.requires.cover_in_bounds.1
          (length one.new.cover) one.new.scratch one.auto.cover one.ensures.scratch_after
          (length two.new.cover) two.new.scratch two.auto.cover two.ensures.scratch_after;
    }

pub put_inside-requires-4 : goal.put_inside-requires-4
put_inside-requires-4 c =
    let a = c.args in
    let one = c.put_inside in
    let two = c.put_inside-2 in
    let three = c.put_inside-3 in
    let wide = three.auto.cover ∙ two.auto.cover ∙ one.auto.cover in
    let long = three.auto.scratch ∙ two.auto.scratch ∙ one.auto.scratch in
    record {
      r_bound = (omega arith, omega (arith, wide, long, c.requires.cover_in_bounds.0), omega (arith, wide, c.requires.at_in_bounds));
      fits = fits_fourth a.base (length a.cover.now) a.s a.u a.v a.t a.scratch.now c.requires.cover_in_bounds.1
          (length one.new.cover) one.new.scratch one.auto.cover one.ensures.scratch_after
          (length two.new.cover) two.new.scratch two.auto.cover two.ensures.scratch_after
          (length three.new.cover) three.new.scratch three.auto.cover three.ensures.scratch_after;
    }

pub returns : goal.returns
returns c =
    let a = c.args in
    let one = c.put_inside in
    let two = c.put_inside-2 in
    let three = c.put_inside-3 in
    let four = c.put_inside-4 in
    record {
      scratch_after = rows_put a.base (length a.cover.now) a.s a.u a.v a.t a.scratch.now c.requires.cover_in_bounds.1
          (length one.new.cover) one.new.scratch one.auto.cover one.ensures.scratch_after
          (length two.new.cover) two.new.scratch two.auto.cover two.ensures.scratch_after
          (length three.new.cover) three.new.scratch three.auto.cover three.ensures.scratch_after
          four.new.scratch four.ensures.scratch_after;
      cover_after = rows_marked (a.s.at / 4) (a.u.at / 4) (a.v.at / 4) (a.t.at / 4) a.cover.now
          one.ensures.cover_after two.ensures.cover_after three.ensures.cover_after four.ensures.cover_after;
    }
