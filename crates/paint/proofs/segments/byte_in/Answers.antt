-- `segments::byte_in` meets its contract: the line's number fits 64 bits, and its whole part is the byte.
use Rattle.std.proofs.Common.{◌≡◌, ℕ, ◌+◌, ◌-◌, ◌*◌, ◌/◌, ◌<◌, pos, ◌-ℤ◌, ◌*ℤ◌, nat_abs, ap, arith, w64}
use Rattle.fixed.proofs.Means.{Num, need, keep, add, mul, shr, said, tight, of_nat}
use Rattle.paint.specs.Ramps.{mix_byte}
use Rattle.paint.specs.Segments.{parts, reciprocal_of, line_of}
use Rattle.paint.specs.declared.Line.{Line}
use Rattle.paint.proofs.Mix.{mix_below}
use Rattle.paint.proofs.Sizes.{sized}
use Rattle.paint.proofs.Lines.{mixed_by_line, first_small, step_small, step_one, byte_cast}
use Rattle.paint.proofs.segments.byte_in.Goals as goal
use Rattle.paint.proofs.segments.byte_in.Lts as lts
use Rattle.paint.proofs.segments.byte_in.Reads as reads

-- the distance of the stops
abbrev d : lts.Start reads.Pre reads.Post → ℕ
d c = c.args.to - c.args.from

step_is : (c : lts.Start reads.Pre reads.Post) → c.args.l.step ≡ (pos c.args.cj -ℤ pos c.args.ci) *ℤ pos (reciprocal_of (d c))
unfolding line_of
step_is c = ap (λ (l : Line). l.step) c.requires.3

first-is : (c : lts.Start reads.Pre reads.Post) → c.args.l.first ≡ pos ((c.args.ci * d c + d c / 2) * reciprocal_of (d c))
unfolding line_of
first-is c = ap (λ (l : Line). l.first) c.requires.3

abbrev step : lts.Start reads.Pre reads.Post → Num
step c =
    let a = c.args in
    said (sized 562949953421312 a.l.step tt (rw (step_is c) (step_one a.ci a.cj (d c) (omega arith) (omega arith)).size))
    ((pos a.cj -ℤ pos a.ci) *ℤ pos (reciprocal_of (d c))) (step_is c)

abbrev first : lts.Start reads.Pre reads.Post → Num
first c =
    let a = c.args in
    said (sized 281492156579840 a.l.first tt (rw (first-is c) (first_small a.ci (d c) (omega arith) (omega arith) (omega arith))))
    (pos ((a.ci * d c + d c / 2) * reciprocal_of (d c))) (first-is c)

abbrev product : lts.Start reads.Pre reads.Post → Num
product c =
    let a = c.args in
    tight 562949953421312 (mul (step c) (of_nat w64 (a.k - a.from) 65536 (omega arith) tt))
    (step_small a.ci a.cj (d c) (a.k - a.from) (omega arith) (omega arith) (omega arith) (omega arith))

abbrev sum : lts.Start reads.Pre reads.Post → Num
sum c = add (keep w64 (product c) tt) (first c)

abbrev shifted : lts.Start reads.Pre reads.Post → Num
shifted c =
    let a = c.args in
    said (shr (keep w64 (sum c) tt) parts) (pos (mix_byte a.from a.to a.k a.ci a.cj))
    (mixed_by_line a.from a.to a.k a.ci a.cj c.requires.0 c.requires.1 c.requires.2 (omega arith) (omega arith))

is_byte : (c : lts.Start reads.Pre reads.Post) → mix_byte c.args.from c.args.to c.args.k c.args.ci c.args.cj < 256
is_byte c =
    let a = c.args in
    omega (arith, mix_below a.from a.to a.k a.ci a.cj c.requires.0 c.requires.1 255 (omega arith) (omega arith))

pub overflow_mul-result : goal.overflow_mul-result
overflow_mul-result c =
    need (product c.before.before.before) tt

pub overflow_add-result : goal.overflow_add-result
overflow_add-result c =
    need (sum c.before.before.before.before) tt

pub overflow_cast-result-2 : goal.overflow_cast-result-2
overflow_cast-result-2 c =
    byte_cast _ _ (keep w64 (shifted c.before.before.before.before) tt).same (is_byte c.before.before.before.before)

pub returns : goal.returns
returns c =
    ap nat_abs (keep w64 (shifted c.before.before.before.before) tt).same
