-- t along a row, by quotients: each is the one before and the row's step, and none is large.
use Rattle.std.proofs.Common.{◌≡◌, ℕ, ◌+◌, ◌*◌, ◌<◌, ◌≤◌, List, ℤ, pos, ◌+ℤ◌, ◌-ℤ◌, ◌*ℤ◌, nat_abs, sym, ap, ◌∙◌, le_trans, arith, ne_eqb}
use Rattle.fixed.proofs.Within.{Within, within_pos, within_add, within_sub, within_mul, within_shr}
use Rattle.fixed.proofs.Poly as P
use Rattle.fixed.proofs.Poly.{◌⊕◌, ◌⊖◌, ◌⊗◌}
use Rattle.fixed.proofs.Sign.{is_positive, above_zero}
use Rattle.lists.proofs.Laws.{upto_same}
use Rattle.color.specs.declared.Pixel.{Pixel}
use Rattle.raster.specs.Surface.{bytes_of, run}
use Rattle.paint.specs.Gradient.{ramp_unit, centre, squared_length, projection, linear_t}
use Rattle.paint.specs.Paints.{gradient_color}
use Rattle.paint.specs.Buffers.{LimitedPoints, Moderate, quotient_of, add_quotients, quotient_at, row_step, linear_at}
use Rattle.paint.specs.declared.FixedPoints.{FixedPoints}
use Rattle.paint.specs.declared.LinearGradient.{LinearGradient}
use Rattle.paint.specs.declared.Stop.{Stop}
use Rattle.paint.proofs.Folded.{rest_below}
use Rattle.paint.proofs.Quotients.{quotients_add}
use Rattle.paint.proofs.Slope.{squared_is, above, one_t}

-- j pixels further on the row the numerator is larger by 65,536 times 256 dx j
pub shifted : (dx x0 rest : ℤ) (x j : ℕ)
    → pos 65536 *ℤ (dx *ℤ (pos (256 * (x + j) + 128) -ℤ x0) +ℤ rest)
    ≡ pos 65536 *ℤ (dx *ℤ (pos (256 * x + 128) -ℤ x0) +ℤ rest) +ℤ pos 16777216 *ℤ dx *ℤ pos j
shifted dx x0 rest x j =
    P.eq (P.num 65536 ⊗ (P.var dx ⊗ (P.num (256 * (x + j) + 128) ⊖ P.var x0) ⊕ P.var rest))
    (P.num 65536 ⊗ (P.var dx ⊗ (P.num (256 * x + 128) ⊖ P.var x0) ⊕ P.var rest) ⊕ P.num 16777216 ⊗ P.var dx ⊗ P.num j)
    (omega arith)

once : (z : ℤ) → z *ℤ pos 1 ≡ z
once z = P.eq (P.var z ⊗ P.num 1) (P.var z) (omega arith)

small : (z : ℤ) → nat_abs z ≤ 1048576 → Within 1048576 z
small z h = record { size = h }

-- ---- points that do not coincide
module _ (p : FixedPoints) (apart : nat_abs (squared_length p) ≡ 0 → ⊥) where
  pub positive : 0 < nat_abs (squared_length p)
  positive = above_zero (above (squared_is p) apart)

  pub whole_is_t : (x y : ℕ) → (quotient_at p x y).whole ≡ linear_t p x y
  unfolding quotient_at linear_t
  whole_is_t x y = rw (ne_eqb _ _ apart)

  pub next_pixel : (x y : ℕ) → add_quotients (quotient_at p x y) (row_step p) (squared_length p) ≡ quotient_at p (x + 1) y
  unfolding quotient_at row_step
  next_pixel x y =
      ap (add_quotients (quotient_of (pos ramp_unit *ℤ projection p x y) (nat_abs (squared_length p)))
      (quotient_of (pos 16777216 *ℤ (p.x1 -ℤ p.x0)) (nat_abs (squared_length p))))
      (is_positive (above (squared_is p) apart))
      ∙ quotients_add (pos ramp_unit *ℤ projection p x y) (pos 16777216 *ℤ (p.x1 -ℤ p.x0)) (nat_abs (squared_length p)) positive
      ∙ ap (λ (z : ℤ). quotient_of z (nat_abs (squared_length p)))
      (sym
      (shifted (p.x1 -ℤ p.x0) p.x0 ((p.y1 -ℤ p.y0) *ℤ (centre y -ℤ p.y0)) x 1
      ∙ ap (λ (z : ℤ). pos ramp_unit *ℤ projection p x y +ℤ z) (once (pos 16777216 *ℤ (p.x1 -ℤ p.x0)))))

  -- ---- sizes
  module _ (near : LimitedPoints p) where
    x_apart : Within 2097152 (p.x1 -ℤ p.x0)
    x_apart = within_sub (small p.x1 near.x1) (small p.x0 near.x0)

    y_apart : Within 2097152 (p.y1 -ℤ p.y0)
    y_apart = within_sub (small p.y1 near.y1) (small p.y0 near.y0)

    length_size : Within 8796093022208 (squared_length p)
    length_size = within_add (within_mul x_apart x_apart) (within_mul y_apart y_apart)

    pub length_moderate : nat_abs (squared_length p) ≤ 1152921504606846976
    length_moderate = omega (arith, length_size.size)

    moderate : {n : ℕ} {z : ℤ} → n ≤ 1152921504606846976 → Within n z → Moderate (quotient_of z (nat_abs (squared_length p)))
    moderate {n} {z} l h = record {
      whole = le_trans (within_shr {z = z} (nat_abs (squared_length p)) h).size l;
      rest = omega (arith, rest_below z (nat_abs (squared_length p)) positive, length_size.size);
    }

    pub step_moderate : Moderate (row_step p)
    unfolding row_step
    step_moderate = moderate {n = 16777216 * 2097152} (omega arith) (within_mul (within_pos 16777216) x_apart)

    centred : (x : ℕ) → x ≤ 1024 → Within 262272 (centre x)
    centred x h = record { size = omega arith }

    pub at_moderate : (x y : ℕ) → x ≤ 1024 → y ≤ 1024 → Moderate (quotient_at p x y)
    unfolding quotient_at
    at_moderate x y h k =
        moderate {n = 65536 * (2097152 * 1310848 + 2097152 * 1310848)} (omega arith)
        (within_mul (within_pos 65536)
        (within_add (within_mul x_apart (within_sub (centred x h) (small p.x0 near.x0)))
        (within_mul y_apart (within_sub (centred y k) (small p.y0 near.y0)))))

-- ---- points with one x: a row has one colour
pub flat_run : (g : LinearGradient) (ramp : List Stop) (x y n : ℕ) (c : Pixel) → g.points.x0 ≡ g.points.x1 → c ≡ linear_at g ramp x y
    → run n (λ i. c) ≡ run n (λ i. linear_at g ramp (x + i) y)
flat_run g ramp x y n c e h =
    upto_same n (λ i. bytes_of c) (λ i. bytes_of (linear_at g ramp (x + i) y))
    (λ k l. ap bytes_of (h ∙ ap (gradient_color g.spread g.premultiply ramp) (one_t g.points e x (x + k) y)))
