-- `words::line_planes` meets its contract.
use Rattle.std.proofs.Common.{◌≡◌, ℕ, ◌-◌, List, min, length, ℤ, pos, ◌+ℤ◌, ◌*ℤ◌, sym, ◌∙◌, ap₂, arith, to_z-of_z}
use Rattle.lists.specs.Lists.{tab}
use Rattle.fixed.specs.Floor.{floor_div}
use Rattle.paint.specs.Ramps.{mix_pixel}
use Rattle.paint.specs.Buffers.{line_parts}
use Rattle.paint.specs.Segments.{finished, position_of}
use Rattle.paint.proofs.Pairs.{joined_run, cut_on_ramp, cut_run}
use Rattle.paint.proofs.words.line_planes.Goals as goal

-- t at the ith pixel
abbrev t : ℤ → ℤ → ℕ → ℕ
t first step i = position_of (floor_div (first +ℤ step *ℤ pos i) line_parts) - 1

-- what line_ts wrote
written : (n : ℕ) (ts : List ℕ) {first step a b : ℤ} → ts ≡ tab n (λ i. min (t first step i) 65535) → first ≡ a → step ≡ b
    → ts ≡ tab n (λ i. min (t a b i) 65535)
written n ts e f g = e ∙ ap₂ (λ (first step : ℤ). tab n (λ i. min (t first step i) 65535)) f g

pub line_ts-requires : goal.line_ts-requires
line_ts-requires c =
    record {
      first_bound = rw (to_z-of_z c.ranges.first, to_z-of_z c.ranges.step) c.requires.first_bound;
      right_len = (c.requires.row_len.1, c.requires.row_len.2);
    }

pub mix_finished-requires : goal.mix_finished-requires
mix_finished-requires c =
    let call = c.line_ts in
    let a = c.args in
    let on = cut_on_ramp (length a.left.now) (t a.first a.step) _ (written (length a.left.now) _ c.line_ts.ensures.left_after (to_z-of_z c.ranges.first)
    (to_z-of_z c.ranges.step)) in
    (on, call.ensures.right_after, omega (arith, call.auto.left, c.requires.row_len.2))

pub put_planes-requires : goal.put_planes-requires
put_planes-requires c =
    let mixed = c.mix_finished.auto in
    let ts = c.line_ts.auto in
    let left = mixed.left ∙ ts.left in
    let right = mixed.right ∙ ts.right in
    (omega (arith, left, c.requires.row_len.0), right ∙ c.requires.row_len.1 ∙ sym left, omega (arith, left, c.requires.row_len.2))

pub returns : goal.returns
returns c =
    let a = c.args in
    c.put_planes.ensures
    ∙ joined_run c.mix_finished.ensures
    ∙ cut_run (length a.left.now) (t a.first a.step) _ (written (length a.left.now) _ c.line_ts.ensures.left_after (to_z-of_z c.ranges.first)
    (to_z-of_z c.ranges.step))
    (λ t. finished a.premultiply (mix_pixel 0 65536 t a.c a.d))
