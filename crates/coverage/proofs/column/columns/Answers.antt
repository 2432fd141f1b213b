-- `coverage::column::columns` meets its contract: no step overflows, by the sizes of the slope's numbers. Assumes nothing.
use mathlib.Core.Path.{◌≡◌, refl, sym, ap, ap₂, subst, ◌∙◌}
use Prim.Native.Nat.{ℕ, ◌+◌, ◌*◌, ◌^◌, ◌≤◌, ◌<◌}
use native.Mathlib.Omega.{arith}
use lib.Dec.{T, ltb}
use lib.IntN.{ℤ, pos, nat_abs, ◌+ℤ◌, ◌-ℤ◌, ◌*ℤ◌}
use lib.Signed.{◌<ℤ◌}
use mir.Syntax.{w64}
use Rattle.fixed.proofs.Within.{fits}
use Rattle.fixed.proofs.Means.{Num, need, keep, small, lit, of_nat, add, sub, mul}
use Rattle.fixed.proofs.Poly.{var, num, ◌⊕◌, ◌⊗◌, eq}
use Rattle.coverage.specs.declared.Columns.{Columns}
use Rattle.coverage.specs.Scanline.{ceil_div, place, column_in, columns_of}
use Rattle.coverage.proofs.Steep.{columns_straight, straight_one}
use Rattle.coverage.proofs.column.columns.Goals as goal
use Rattle.coverage.proofs.column.columns.Tie as tie
use Rattle.coverage.proofs.column.columns.Lts as lts
use Rattle.coverage.proofs.column.columns.Reads as reads

-- a number of the slope
abbrev held : (c : goal.After-struct_told-3-1) → (b : ℕ) (z : ℤ) → T (ltb b (2 ^ 63)) → nat_abs z ≤ b → Num
held c b z t h = small w64 b z (fits {w = w64} {n = b} {z = z} t (record { size = h })) (record { size = h })

abbrev n : (c : goal.After-struct_told-3-1) → Num
n c = (held c) 450000000000000 c.args.r.n tt c.requires.0.far

abbrev d : (c : goal.After-struct_told-3-1) → Num
d c = (held c) 16777216 c.args.r.d tt c.requires.0.high

abbrev step : (c : goal.After-struct_told-3-1) → Num
step c = (held c) 1073741824 c.args.r.step tt c.requires.0.wide

abbrev w : (c : goal.After-struct_told-3-1) → Num
w c = mul (lit 64) (d c)

abbrev low : (c : goal.After-struct_told-3-1) → Num
low c = mul (of_nat w64 c.args.c 2147483648 (omega arith) tt) (keep w64 (w c) tt)

abbrev end : (c : goal.After-struct_told-3-1) → Num
end c = sub (of_nat w64 (c.args.c + c.args.k) 2147483648 (omega arith) tt) (lit 1)

abbrev high : (c : goal.After-struct_told-3-1) → Num
high c = mul (keep w64 (end c) tt) (keep w64 (w c) tt)

-- the crossings with the second, the third and the last sample row
abbrev second : (c : goal.After-struct_told-3-1) → Num
second c = add (n c) (step c)

abbrev two : (c : goal.After-struct_told-3-1) → Num
two c = mul (lit 2) (step c)

abbrev third : (c : goal.After-struct_told-3-1) → Num
third c = add (n c) (keep w64 (two c) tt)

abbrev three : (c : goal.After-struct_told-3-1) → Num
three c = mul (lit 3) (step c)

abbrev last : (c : goal.After-struct_told-3-1) → Num
last c = add (n c) (keep w64 (three c) tt)

asks : (c : goal.After-struct_told-3-1) → (m : Num) → nat_abs m.int ≤ 562949953421312
    → ((pos 0 <ℤ (d c).read) × (nat_abs (d c).read ≤ 16777216) × (nat_abs m.read ≤ 562949953421312) × (c.args.c + c.args.k < 2 ^ 31))
    × (((keep w64 (low c) tt).read ≡ pos c.args.c *ℤ (pos 64 *ℤ (d c).read))
    × ((keep w64 (high c) tt).read ≡ (pos (c.args.c + c.args.k) -ℤ pos 1) *ℤ (pos 64 *ℤ (d c).read)))
asks c m h = (
  (
    subst (λ (z : ℤ). pos 0 <ℤ z) (sym (d c).same) c.requires.0.up,
    subst (λ (z : ℤ). nat_abs z ≤ 16777216) (sym (d c).same) c.requires.0.high,
    subst (λ (z : ℤ). nat_abs z ≤ 562949953421312) (sym m.same) h,
    c.requires.1,
  ),
  (
    (keep w64 (low c) tt).same ∙ ap (λ (z : ℤ). pos c.args.c *ℤ (pos 64 *ℤ z)) (sym (d c).same),
    (keep w64 (high c) tt).same ∙ ap (λ (z : ℤ). (pos (c.args.c + c.args.k) -ℤ pos 1) *ℤ (pos 64 *ℤ z)) (sym (d c).same),
  ),
)

found : (c : goal.After-struct_told-3-1) → (m : Num) (j : ℕ) → m.int ≡ c.args.r.n +ℤ pos j *ℤ c.args.r.step
    → (x : ℕ) → x ≡ place c.args.c c.args.k (ceil_div m.read (64 * nat_abs (d c).read)) → x ≡ column_in c.args.c c.args.k c.args.r j
found c m j q x o =
    o ∙ ap₂ (λ (y z : ℤ). place c.args.c c.args.k (ceil_div y (64 * nat_abs z))) (m.same ∙ q) (d c).same

none_more : (c : goal.After-struct_told-3-1) → (n c).int ≡ c.args.r.n +ℤ pos 0 *ℤ c.args.r.step
none_more c = eq (var c.args.r.n) (var c.args.r.n ⊕ num 0 ⊗ var c.args.r.step) (omega arith)

one_more : (c : goal.After-struct_told-3-1) → (second c).int ≡ c.args.r.n +ℤ pos 1 *ℤ c.args.r.step
one_more c = eq (var c.args.r.n ⊕ var c.args.r.step) (var c.args.r.n ⊕ num 1 ⊗ var c.args.r.step) (omega arith)

first-is : (c : goal.After-column_at-first) → c.column_at-first.result ≡ column_in c.args.c c.args.k c.args.r 0
first-is c =
    found c.before (n c.before) 0 (none_more c.before) c.column_at-first.result c.column_at-first.ensures

last_is : (c : lts.After-column_at2 tie.the-claims reads.Pre reads.Post tie.handed_clauses) → c.column_at-last.result ≡ column_in c.args.c c.args.k c.args.r 3
last_is c =
    found c.before.before (keep w64 (last c.before.before) tt) 3 refl c.column_at-last.result c.column_at-last.ensures

same-columns : {a b c d a' b' c' d' : ℕ} → a ≡ a' → b ≡ b' → c ≡ c' → d ≡ d'
    → ◌≡◌ {A = Columns} (record { a = a; b = b; c = c; d = d }) (record { a = a'; b = b'; c = c'; d = d' })
same-columns p q r s = rw (p, q, r, s)

pub overflow_mul-w : goal.overflow_mul-w
overflow_mul-w c =
    need (w c) tt

pub overflow_mul-low : goal.overflow_mul-low
overflow_mul-low c =
    need (low c) tt

pub overflow_sub-high : goal.overflow_sub-high
overflow_sub-high c =
    need (end c) tt

pub overflow_mul-high : goal.overflow_mul-high
overflow_mul-high c =
    need (high c) tt

pub column_at-first-requires : goal.column_at-first-requires
column_at-first-requires c =
    record { pos_bound = (asks c (n c) (omega (arith, (n c).size.size))).0; low_value = (asks c (n c) (omega (arith, (n c).size.size))).1 }

pub overflow_mul-step : goal.overflow_mul-step
overflow_mul-step c =
    need (three c.before) tt

pub overflow_add-n : goal.overflow_add-n
overflow_add-n c =
    need (last c.before) tt

pub column_at-last-requires : goal.column_at-last-requires
column_at-last-requires c =
    record {
      pos_bound = (asks c.before (keep w64 (last c.before) tt) (omega (arith, (last c.before).size.size))).0;
      low_value = (asks c.before (keep w64 (last c.before) tt) (omega (arith, (last c.before).size.size))).1;
    }

pub returns-then-first-last : goal.returns-then-first-last
unfolding columns_of
returns-then-first-last c =
    let a = c.args in
    let first = first-is c.before.before in
    let same = sym first ∙ c.if-first-last.true ∙ last_is c.before in
    let one = straight_one (columns_of a.c a.k a.r) (columns_straight a.c a.k a.r c.requires.0.up) same in
    same-columns first (first ∙ sym one.0) (first ∙ sym one.1) (first ∙ same)

pub overflow_add-n-2 : goal.overflow_add-n-2
overflow_add-n-2 c =
    need (second c.before.before.before) tt

pub column_at-requires : goal.column_at-requires
column_at-requires c =
    record {
      pos_bound = (asks c.before.before.before (keep w64 (second c.before.before.before) tt) (omega (
        arith,
        (second c.before.before.before).size.size,
      ))).0;
      low_value = (asks c.before.before.before (keep w64 (second c.before.before.before) tt)
          (omega (arith, (second c.before.before.before).size.size))).1;
    }

pub overflow_mul-step-2 : goal.overflow_mul-step-2
overflow_mul-step-2 c =
    need (two c.before.before.before.before) tt

pub overflow_add-n-3 : goal.overflow_add-n-3
overflow_add-n-3 c =
    need (third c.before.before.before.before) tt

pub column_at-requires-2 : goal.column_at-requires-2
column_at-requires-2 c =
    record {
      pos_bound = (asks c.before.before.before.before (keep w64 (third c.before.before.before.before) tt) (omega (
        arith,
        (third c.before.before.before.before).size.size,
      ))).0;
      low_value = (asks c.before.before.before.before (keep w64 (third c.before.before.before.before) tt) (omega (
        arith,
        (third c.before.before.before.before).size.size,
      ))).1;
    }

pub returns : goal.returns
unfolding columns_of
returns c =
    same-columns (first-is c.before.before.before.before)
    (found c.before.before.before.before.before (keep w64 (second c.before.before.before.before.before) tt) 1
    (one_more c.before.before.before.before.before) c.column_at.result c.column_at.ensures)
    (found c.before.before.before.before.before (keep w64 (third c.before.before.before.before.before) tt) 2 refl c.column_at-2.result c.column_at-2.ensures)
    (last_is c.before.before.before)
