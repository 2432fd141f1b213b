-- The entries of a matrix within its limits, and the sizes of the whole numbers that they become.
use mathlib.Core.Path.{◌≡◌}
use mathlib.Core.Bool.{true}
use Rattle.fixed.specs.Floats.{at_most}
use Rattle.fixed.proofs.Scaled.{scaled_size}
use Rattle.rect.proofs.Laws.{both}
use Rattle.path.specs.declared.Matrix.{Matrix}
use Rattle.path.specs.Matrices.{linear_limit, translation_limit, entries_in, matrix_in_limits, fixed_matrix}
use Rattle.path.specs.Limits.{Limited}

record Entries (m : Matrix) : Type 0 where
  pub sx : at_most linear_limit m.sx ≡ true
  pub shy : at_most linear_limit m.shy ≡ true
  pub shx : at_most linear_limit m.shx ≡ true
  pub sy : at_most linear_limit m.sy ≡ true
  pub tx : at_most translation_limit m.tx ≡ true
  pub ty : at_most translation_limit m.ty ≡ true

entries : (m : Matrix) → matrix_in_limits m ≡ true → Entries m
entries m e =
    let p = both (entries_in linear_limit m.sx m.shy) _ e in
    let q = both (entries_in linear_limit m.shx m.sy) _ p.1 in
    let a = both (at_most linear_limit m.sx) _ p.0 in
    let b = both (at_most linear_limit m.shx) _ q.0 in
    let c = both (at_most translation_limit m.tx) _ q.1 in
    record { sx = a.0; shy = a.1; shx = b.0; sy = b.1; tx = c.0; ty = c.1 }

-- and its whole number is small
pub matrix_limited : (m : Matrix) → matrix_in_limits m ≡ true → Limited (fixed_matrix m)
matrix_limited m e =
    let k = entries m e in
    record {
      sx = scaled_size 65536 linear_limit m.sx k.sx;
      shy = scaled_size 65536 linear_limit m.shy k.shy;
      shx = scaled_size 65536 linear_limit m.shx k.shx;
      sy = scaled_size 65536 linear_limit m.sy k.sy;
      tx = scaled_size 65536 translation_limit m.tx k.tx;
      ty = scaled_size 65536 translation_limit m.ty k.ty;
    }
