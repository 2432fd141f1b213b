-- `outline::curve::blend` meets its contract: the sum fits, and is rounded.
use mathlib.Core.Path.{◌≡◌, sym, ap, ◌∙◌, subst}
use Prim.Native.Nat.{ℕ, ◌*◌, ◌≤◌}
use native.Mathlib.Omega.{arith}
use lib.IntN.{ℤ, nat_abs}
use mir.Syntax.{w32, w64}
use mir.Facts.{to_z-of_z}
use borrow.Author.Rules.{sfits_of}
use Rattle.fixed.proofs.Within.{Within}
use Rattle.fixed.proofs.Means.{Num, need, keep, param, said, tight, lit, add, shr}
use Rattle.outline.specs.Asked.{summed, blended}
use Rattle.outline.proofs.Bezier.{weights_most, summed_most, blended_size}
use Rattle.outline.proofs.curve.blend.Goals as goal
use Rattle.outline.proofs.curve.blend.Tie as tie
use Rattle.outline.proofs.curve.blend.Lts as lts
use Rattle.outline.proofs.curve.blend.Reads as reads

told : (c : lts.After-weigh tie.the-claims reads.Pre reads.Post tie.handed_clauses)
    → c.weigh-sum.result ≡ summed c.args.w c.args.a c.args.b c.args.c c.args.d
told c =
    rw (to_z-of_z c.ranges.a, to_z-of_z c.ranges.b, to_z-of_z c.ranges.c, to_z-of_z c.ranges.d) at c.weigh-sum.ensures

-- the four numbers are small
a-size : (s : goal.Start) → Within 8388608 s.args.a
a-size s = record { size = s.requires.a_bound.0 }

b-size : (s : goal.Start) → Within 8388608 s.args.b
b-size s = record { size = s.requires.a_bound.1 }

c-size : (s : goal.Start) → Within 8388608 s.args.c
c-size s = record { size = s.requires.a_bound.2 }

d-size : (s : goal.Start) → Within 8388608 s.args.d
d-size s = record { size = s.requires.a_bound.3 }

abbrev sum : lts.After-weigh tie.the-claims reads.Pre reads.Post tie.handed_clauses → Num
sum c =
    let a = c.args in
    tight (4096 * 8388608)
    (said (param w64 c.weigh-sum.result (sfits_of c.weigh-sum.type_inv)) (summed a.w a.a a.b a.c a.d) (told c))
    (summed_most (a-size c.before) (b-size c.before) (c-size c.before) (d-size c.before) c.requires.full)

size : (c : goal.Start) → Within 8388608 (blended c.args.degree c.args.w c.args.a c.args.b c.args.c c.args.d)
size s = blended_size (a-size s) (b-size s) (c-size s) (d-size s) s.requires.full

-- of the degree n
size_of : (c : goal.Start) (n : ℕ) → c.args.degree ≡ n → Within 8388608 (blended n c.args.w c.args.a c.args.b c.args.c c.args.d)
size_of s n e = let a = s.args in subst (λ (m : ℕ). Within 8388608 (blended m a.w a.a a.b a.c a.d)) e (size s)

abbrev quad : (c : goal.Then-degree-eq2) → Num
quad c =
    keep w64 (tight 8388608 (shr (keep w64 (add (sum c.before) (lit 128)) tt) 256) (size_of c.before.before 2 c.if-degree-eq2.true)) tt

three : (c : goal.Else-degree-eq2) → c.args.degree ≡ 3
three c =
    let f = c.requires.full in omega (arith, f.some, f.most)

abbrev cubic : (c : goal.Else-degree-eq2) → Num
cubic c =
    keep w64 (tight 8388608 (shr (keep w64 (add (sum c.before) (lit 2048)) tt) 4096) (size_of c.before.before 3 (three c))) tt

-- what is returned, from the degree that it was computed by
returned : (s : goal.Start) (n : ℕ) → s.args.degree ≡ n → (r : ℤ) → r ≡ blended n s.args.w s.args.a s.args.b s.args.c s.args.d
    → (r ≡ blended s.args.degree s.args.w s.args.a s.args.b s.args.c s.args.d) × (nat_abs r ≤ 8388608)
returned s n e r h =
    let a = s.args in
    let f = h ∙ ap (λ (m : ℕ). blended m a.w a.a a.b a.c a.d) (sym e) in
    (f, subst (λ (z : ℤ). nat_abs z ≤ 8388608) (sym f) (size s).size)

pub weigh-sum-requires : goal.weigh-sum-requires
weigh-sum-requires c =
    weights_most c.requires.full

pub overflow_add-result : goal.overflow_add-result
overflow_add-result c =
    need (add (sum c.before) (lit 128)) tt

pub overflow_cast-result : goal.overflow_cast-result
overflow_cast-result c =
    need (quad c) tt

pub overflow_add-result-else-degree-eq2 : goal.overflow_add-result-else-degree-eq2
overflow_add-result-else-degree-eq2 c =
    need (add (sum c.before) (lit 2048)) tt

pub overflow_cast-result-else-degree-eq2 : goal.overflow_cast-result-else-degree-eq2
overflow_cast-result-else-degree-eq2 c =
    need (cubic c) tt

pub returns-then-degree-eq2 : goal.returns-then-degree-eq2
returns-then-degree-eq2 c =
    returned c.before.before 2 c.if-degree-eq2.true _ (keep w32 (quad c) tt).same

pub returns-else-degree-eq2 : goal.returns-else-degree-eq2
returns-else-degree-eq2 c =
    returned c.before.before 3 (three c) _ (keep w32 (cubic c) tt).same
