-- `plain::samples::Outline::take_sample` meets its contract. Assumes nothing.
use mathlib.Core.Path.{◌≡◌, sym, ap, ap₂, subst, ◌∙◌}
use Prim.Native.Nat.{ℕ, ◌+◌, ◌*◌, ◌≤◌, ◌<◌}
use native.Mathlib.Omega.{arith}
use lib.IntN.{ℤ, nat_abs}
use mir.Syntax.{w32}
use mir.Val.{to_z}
use mir.Facts.{to_z_pos}
use Rattle.fixed.proofs.Signed.{back}
use Rattle.path.specs.Stored.{edges_of}
use Rattle.coverage.specs.Winding.{winding, inside_by, one_if, sample}
use Rattle.plain.proofs.samples.Outline.take_sample.Goals as goal

-- a sample's place, as it is handed on
place : (i : ℕ) → i < 4096 → to_z w32 (64 * i + 32) ≡ sample i
place i h = to_z_pos w32 (omega arith)

low : (i : ℕ) → i < 4096 → nat_abs (to_z w32 (64 * i + 32)) ≤ 8388608
low i h = subst (λ (z : ℤ). nat_abs z ≤ 8388608) (sym (place i h)) (omega arith)

pub wind-requires : goal.wind-requires
wind-requires c =
    (low c.args.i c.requires.0, low c.args.j c.requires.1)

pub returns : goal.returns
returns c =
    let a = c.args in
    let w = c.wind in (
      c.one_if_inside.ensures.0
          ∙ ap (λ (z : ℤ). one_if (inside_by a.self.now.nonzero z))
          (back w32 w.result w.type_inv ∙ w.ensures
          ∙ ap₂ (winding (edges_of a.self.now.scratch.now a.self.now.edges)) (place a.i c.requires.0) (place a.j c.requires.1)),
      c.one_if_inside.ensures.1,
    )
