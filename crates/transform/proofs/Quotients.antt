-- The table of reciprocals: its entries, and a quotient by an alpha as a product and a shift.
use mathlib.Core.Path.{◌≡◌, sym, ap, ◌∙◌}
use Prim.Native.Nat.{ℕ, zero, suc, ◌+◌, ◌-◌, ◌*◌, ◌/◌, ◌≤◌, ◌<◌}
use native.Mathlib.Nat.{div-add-mod, mod-lt, div-eq_of_lt-le, div-le_self, div-zero}
use native.Mathlib.Nat.{mul-le-mul, mul-le-mul_right, lt_of_mul-lt-mul_right, le_of_mul-le-mul_right}
use native.Mathlib.Omega.{arith}
use borrow.Author.Tests.{ne_eqb}
use lib.ListN.{length, get_or}
use Rattle.lists.proofs.Laws.{tab_length, tab_at}
use Rattle.transform.specs.Transforms.{unpremultiply}
use Rattle.transform.specs.Reciprocals.{reciprocal_of, reciprocals}

pub table_length : length reciprocals ≡ 256
unfolding reciprocals
table_length = tab_length 256 reciprocal_of

pub table_entry : (a : ℕ) → a < 256 → get_or reciprocals a 0 ≡ reciprocal_of a
unfolding reciprocals
table_entry a h = tab_at 256 reciprocal_of a 0 h

-- 2^24 ≤ a r < 2^24 + a
rounded_up : (a : ℕ) → 0 < a → (16777216 ≤ a * reciprocal_of a) × (a * reciprocal_of a < 16777216 + a)
rounded_up a h =
    let e = div-add-mod (16777215 + a) a in
    let l = mod-lt (16777215 + a) h in
    (omega arith, omega arith)

-- x r / n is x / a, where a r is n and a rest e so small that x e < n
quotient_is : (n a r x e : ℕ) → 0 < a → a * r ≡ n + e → x * e < n → x * r / n ≡ x / a
quotient_is n a r x e h g l =
    let q : ℕ = x / a in
    let m : x * (a * r) ≡ x * (n + e) = ap (λ (y : ℕ). x * y) g in
    let b = div-add-mod x a in
    let c = mod-lt x h in
    let low : q * a ≤ x = omega arith in
    let high : x + 1 ≤ (q + 1) * a = omega arith in
    div-eq_of_lt-le n
    (le_of_mul-le-mul_right {m = q * n} {n = x * r} {k = a} (omega (arith, mul-le-mul_right n low)) h)
    (lt_of_mul-lt-mul_right a {m = x * r} {n = (q + 1) * n} (omega (arith, mul-le-mul_right n high)))

-- half of a is rounded down before the division, and nothing is lost
halved : (c a : ℕ) → 0 < a → (c * 255 + a / 2) / a ≡ (510 * c + a) / (2 * a)
halved c a h =
    let q : ℕ = (c * 255 + a / 2) / a in
    let b = div-add-mod (c * 255 + a / 2) a in
    let l = mod-lt (c * 255 + a / 2) h in
    sym (div-eq_of_lt-le {k = q} (2 * a) (omega arith) (omega arith))

pub by_reciprocal : (c a : ℕ) → c < 256 → a < 256 → (c * 255 + a / 2) * reciprocal_of a / 16777216 ≡ unpremultiply c a
unfolding unpremultiply
by_reciprocal c zero h k = rw (div-zero (16777215 + 0)) (omega arith)
by_reciprocal c (suc a) h k =
    let w = rounded_up (suc a) (omega arith) in
    let r : ℕ = reciprocal_of (suc a) in
    let x : c * 255 + suc a / 2 ≤ 65152 = omega arith in
    let y : suc a * r - 16777216 ≤ 254 = omega arith in
    rw (ne_eqb (suc a) 0 (λ e. omega (arith, e)))
    (quotient_is 16777216 (suc a) r (c * 255 + suc a / 2) (suc a * r - 16777216) (omega arith) (omega arith) (omega (arith, mul-le-mul x y))
    ∙ halved c (suc a) (omega arith))
