use Rattle.difference.proofs.Turns.{row_same, row_pixels, noted_below, noted_largest}
use Rattle.difference.specs.Rows.{with_pixels}
use Rattle.difference.specs.Compare.{gap_at, greatest}
use Prim.Native.Nat.{ℕ, ◌+◌}
use mathlib.Core.Path.{ap, ◌∙◌, sym}
use Rattle.difference.proofs.Found.with_row.Goals as goal

pub returns-then-gap-eq0 : goal.returns-then-gap-eq0
returns-then-gap-eq0 c =
    let a = c.args in
    let n = c.largest-gap in
    let e = sym (ap (λ (k : ℕ). greatest k (gap_at a.a.now a.b.now)) c.requires.a_len.0) in
    record {
      value = row_same a.width a.y a.a.now a.b.now a.self (e ∙ sym n.ensures ∙ c.if-gap-eq0.true);
      noted_2 = noted_below a.width a.y a.self
          c.requires.noted;
    }

pub with_pixels-requires : goal.with_pixels-requires
with_pixels-requires c =
    let a = c.args in
    record {
      a_len = c.requires.a_len;
      noted = noted_largest a.width (a.y + 1) a.self c.with_largest.result c.largest-gap.result c.with_largest.ensures
          c.requires.noted;
    }

pub returns : goal.returns
returns c =
    let a = c.args in
    let n = c.largest-gap in
    let e = ap (λ (k : ℕ). greatest k (gap_at a.a.now a.b.now)) c.requires.a_len.0 in
    let f = c.with_largest in
    record {
      value = row_pixels a.width a.y a.a.now a.b.now a.self n.result c.with_pixels.result (n.ensures ∙ e)
          (c.with_pixels.ensures.value ∙ ap (with_pixels a.width a.y a.a.now a.b.now 0 a.width) f.ensures);
      noted_2 = c.with_pixels.ensures.noted_2;
    }
