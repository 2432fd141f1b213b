-- `coverage::column::column_in` meets its contract. Assumes nothing.
use mathlib.Core.Path.{◌≡◌, refl, ap, ap₂, ◌∙◌}
use Prim.Native.Nat.{◌*◌}
use native.Mathlib.Omega.{arith}
use lib.IntN.{ℤ, nat_abs}
use mir.Syntax.{w64}
use mir.Val.{to_z, of_z}
use mir.Facts.{to_z-of_z}
use Rattle.fixed.proofs.Within.{fits}
use Rattle.coverage.specs.declared.Rise.{Rise}
use Rattle.coverage.specs.Scanline.{ceil_div, first_column, place, edge, rise_of, Sloped}
use Rattle.coverage.proofs.Crossing.{crossing_is}
use Rattle.path.specs.declared.Edge.{Edge}
use Rattle.coverage.proofs.column.column_in.Goals as goal

-- its numbers, as they are handed on
n-read : (r : Rise) → Sloped r → to_z w64 (of_z w64 r.n) ≡ r.n
n-read r h = to_z-of_z (fits {w = w64} {n = 450000000000000} {z = r.n} tt (record { size = h.far }))

d-read : (r : Rise) → Sloped r → to_z w64 (of_z w64 r.d) ≡ r.d
d-read r h = to_z-of_z (fits {w = w64} {n = 16777216} {z = r.d} tt (record { size = h.high }))

-- the slope as the caller has it
slope : (c : goal.After-column_of) → let a = c.args in c.rise-r.result ≡ rise_of (edge a.x0 a.y0 a.x1 a.y1) a.y
slope c = let f = c.ranges in rw (to_z-of_z f.x0, to_z-of_z f.y0, to_z-of_z f.x1, to_z-of_z f.y1, to_z-of_z f.y) at c.rise-r.ensures.value

its-column : (u : Edge) (Y : ℤ) (r : Rise) → r ≡ rise_of u Y → ceil_div r.n (64 * nat_abs r.d) ≡ first_column u Y
unfolding rise_of
its-column u Y r q = ap (λ (z : Rise). ceil_div z.n (64 * nat_abs z.d)) q ∙ crossing_is u Y (rise_of u Y).n refl

pub rise-r-requires : goal.rise-r-requires
rise-r-requires c =
    let f = c.ranges in
    record {
      y0_lt_y1 = rw (to_z-of_z f.y0, to_z-of_z f.y1) c.requires.y0_lt_y1;
      x0_bound = rw (to_z-of_z f.x0, to_z-of_z f.y0, to_z-of_z f.x1, to_z-of_z f.y1, to_z-of_z f.y) c.requires.x0_bound;
    }

pub column_of-requires : goal.column_of-requires
column_of-requires c =
    let r = c.rise-r.result in
    let h = c.rise-r.ensures.sloped in
    rw (n-read r h, d-read r h) (h.up, h.high, omega (arith, h.far), c.requires.k_bound)

pub returns : goal.returns
returns c =
    let r = c.rise-r.result in
    let h = c.rise-r.ensures.sloped in
    let a = c.args in
    c.column_of.ensures
    ∙ ap₂ (λ (m z : ℤ). place a.c a.k (ceil_div m (64 * nat_abs z))) (n-read r h) (d-read r h)
    ∙ ap (place a.c a.k) (its-column (edge a.x0 a.y0 a.x1 a.y1) a.y r (slope c))
