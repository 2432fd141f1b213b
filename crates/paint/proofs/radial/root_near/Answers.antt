-- `radial::root_near` meets its contract: n is the guess's square and a rest that is at most twice the guess, so below the next square.
use Rattle.std.proofs.Common.{◌≡◌, ℕ, ◌+◌, ◌*◌, ◌%◌, ◌<◌, ◌≤◌, ℤ, nat_abs, ap, ◌∙◌, mul-le-mul, arith, to_z-of_z, w64, to_z, of_z}
use Rattle.fixed.specs.Roots.{isqrt}
use Rattle.fixed.proofs.Roots.{only_root}
use Rattle.paint.proofs.Focal.{natural_cast}
use Rattle.paint.proofs.radial.root_near.Goals as goal

-- Q, as it is cast
abbrev n : goal.Start → ℕ
n s = nat_abs (to_z w64 (of_z w64 s.args.q))

n-is : (s : goal.Start) → isqrt (n s) ≡ isqrt (nat_abs s.args.q)
n-is s = ap (λ (z : ℤ). isqrt (nat_abs z)) (to_z-of_z s.ranges.q)

n-small : (s : goal.Start) → n s < 1152921504606846976
n-small s = rw (to_z-of_z s.ranges.q) s.requires.1

square-small : (g : ℕ) → g < 4294967296 → (g + 1) * (g + 1) ≤ 18446744073709551616
square-small g h = let k : g + 1 ≤ 4294967296 = omega (arith, h) in mul-le-mul k k

near-root : (n g rest : ℕ) → g < 4294967296 → (rest + g * g) % 18446744073709551616 ≡ n → rest ≤ 2 * g → g ≡ isqrt n
near-root n g rest s e h =
    let k = square-small g s in
    let f : rest + g * g ≡ n = omega (arith, k, e, h) in
    only_root n g (omega (arith, f)) (omega (arith, f, h))

guess_small : (s : goal.Start) → s.args.guess < 4294967296
guess_small s = s.ranges.guess.fits

mul-rest : (s : goal.Start) → s.args.guess * s.args.guess < 18446744073709551616
mul-rest s = omega (arith, square-small s.args.guess (guess_small s))

pub overflow_cast-n : goal.overflow_cast-n
overflow_cast-n c =
    rw (to_z-of_z c.ranges.q) (natural_cast c.args.q c.requires.0, record { fits = omega (arith, c.requires.1) })

pub overflow_mul-g : goal.overflow_mul-g
overflow_mul-g c =
    record { fits = mul-rest c }

pub wrapping_sub_u64-rest-requires : goal.wrapping_sub_u64-rest-requires
wrapping_sub_u64-rest-requires c =
    tt

pub overflow_mul-g-2 : goal.overflow_mul-g-2
overflow_mul-g-2 c =
    record { fits = omega (arith, guess_small c.before) }

pub returns-then-rest-g : goal.returns-then-rest-g
returns-then-rest-g c =
    let s = c.before.before in
    near-root (n s) s.args.guess _ (guess_small s) c.wrapping_sub_u64-rest.ensures.value c.if-rest-g.true ∙ n-is s

pub isqrt_near-requires : goal.isqrt_near-requires
isqrt_near-requires c =
    n-small c.before.before

pub returns : goal.returns
returns c =
    c.isqrt_near.ensures ∙ n-is c.before.before.before
