-- `guesses::guess_roots` does nothing undefined: what Q grows by, less half of what that grows by, fits 64 bits.
use Rattle.std.proofs.Common.{◌<◌, T, ltb, nat_abs, refl, lt_of_le_of_lt, arith, ltb→lt, w64}
use Rattle.fixed.proofs.Means.{Num, need, keep, quot, sub, lit, tight}
use Rattle.paint.proofs.Sizes.{sized, quotient_size}
use Rattle.paint.proofs.guesses.guess_roots.Goals as goal
use Rattle.paint.proofs.guesses.guess_roots.Tie as tie
use Rattle.paint.proofs.guesses.guess_roots.Lts as lts
use Rattle.paint.proofs.guesses.guess_roots.Reads as reads

abbrev bend : lts.Start tie.the-claims reads.Pre reads.Post tie.handed_clauses → Num
bend s =
    tight 1152921504606846976 (quot (sized 2305843009213693952 s.args.ddq tt s.requires.q_bound.2) (lit 2))
    (quotient_size 2 1152921504606846976 s.args.ddq (omega (arith, s.requires.q_bound.2)))

abbrev slope : lts.Start tie.the-claims reads.Pre reads.Post tie.handed_clauses → Num
slope s = sub (sized 2305843009213693952 s.args.dq tt s.requires.q_bound.1) (keep w64 (bend s) tt)

below : (r : Num) → T (ltb r.bound 4611686018427387904) → nat_abs r.read < 4611686018427387904
below r t = rw r.same (lt_of_le_of_lt r.size.size (ltb→lt r.bound 4611686018427387904 t))

pub nonzero_div-bend : goal.nonzero_div-bend
nonzero_div-bend c =
    (omega arith, need (bend c.before.before) tt)

pub overflow_sub-slope : goal.overflow_sub-slope
overflow_sub-slope c =
    need (slope c.before.before) tt

pub guess_with-requires : goal.guess_with-requires
guess_with-requires c =
    let q = sized 2305843009213693952 c.args.q tt c.requires.q_bound.0 in
    let l = keep w64 (slope c.before.before.before) tt in
    let b = keep w64 (bend c.before.before.before) tt in
    record { q_bound = (below q tt, below l tt, below b tt); t = (c.requires.t.0, c.requires.t.1, refl) }
