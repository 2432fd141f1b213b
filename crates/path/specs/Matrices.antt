-- The matrix as whole numbers, and a path's point on the surface ("Floats to whole numbers", "Paths").
use Rattle.std.specs.Prelude.{ℕ, Bool, ◌&&◌, leb, eqb, Float, ℤ, pos, nat_abs, ◌+ℤ◌, ◌-ℤ◌, ◌*ℤ◌}
use Rattle.fixed.specs.Floor.{floor_div}
use Rattle.fixed.specs.Floats.{scaled, at_most}
use Rattle.path.specs.declared.Matrix.{Matrix}
use Rattle.path.specs.declared.FixedMatrix.{FixedMatrix}
use Rattle.path.specs.declared.Point.{Point}

-- the limits of the entries, judged on the floats as given
abbrev pub linear_limit : ℕ
linear_limit = 256

abbrev pub translation_limit : ℕ
translation_limit = 32768

abbrev pub entries_in : ℕ → Float → Float → Bool
entries_in limit v w = at_most limit v && at_most limit w

abbrev pub matrix_in_limits : Matrix → Bool
matrix_in_limits m =
    entries_in linear_limit m.sx m.shy && (entries_in linear_limit m.shx m.sy && entries_in translation_limit m.tx m.ty)

-- each entry v becomes floor(65,536v + 1/2)
abbrev pub fixed_matrix : Matrix → FixedMatrix
fixed_matrix m = record {
  sx = scaled 65536 m.sx;
  shy = scaled 65536 m.shy;
  shx = scaled 65536 m.shx;
  sy = scaled 65536 m.sy;
  tx = scaled 65536 m.tx;
  ty = scaled 65536 m.ty;
}

-- sx·sy − shx·shy = 0, so that every path becomes a line or a point
abbrev pub is_flat : FixedMatrix → Bool
is_flat m = eqb (nat_abs (m.sx *ℤ m.sy -ℤ m.shx *ℤ m.shy)) 0

-- one axis of a point on the surface, in 1/256 pixel
abbrev pub transform_axis : ℤ → ℤ → ℤ → Point → ℤ
transform_axis a b t p = floor_div (a *ℤ p.x +ℤ b *ℤ p.y +ℤ t +ℤ pos 128) 256

abbrev pub transform : FixedMatrix → Point → Point
transform m p = record { x = transform_axis m.sx m.shx m.tx p; y = transform_axis m.shy m.sy m.ty p }

-- on both axes at most 8,388,608 in size
abbrev pub surface_limit : ℕ
surface_limit = 8388608

abbrev pub on_surface_grid : Point → Bool
on_surface_grid p = leb (nat_abs p.x) surface_limit && leb (nat_abs p.y) surface_limit
