-- `lines::scene_line` meets its contract.
use mathlib.Core.Path.{◌≡◌, sym, subst}
use mathlib.Core.Bool.{true}
use mathlib.Core.List.{List}
use Prim.Native.Nat.{ℕ, ◌+◌, ◌*◌, ◌<◌}
use native.Mathlib.Omega.{arith}
use lib.ListN.{length}
use Rattle.lists.proofs.Laws.{run_fits}
use Rattle.scene.specs.Header.{width_of, height_of}
use Rattle.scene.specs.Fields.{uses_mask}
use borrow.Author.Rules.{rules}
use Rattle.reason.proofs.lines.scene_line.Goals as goal

pub mask_byte-m-requires : goal.mask_byte-m-requires
mask_byte-m-requires c =
    let a = c.args in
    let p = c.requires in
    let w = width_of a.s.now in (
      search rules,
      λ asks.
          let long = p.mask_for_scene a.i p.accepted_scene.1 (subst (λ (z : List ℕ). uses_mask z ≡ true) c.read_draw.ensures asks) in
          let fits : a.y * w + a.x < length a.mask.now =
          omega (arith, long, p.x_bound.0, run_fits w a.y (height_of a.s.now) p.x_bound.1) in
          subst (λ (z : ℕ). a.y * z + a.x < length a.mask.now) (sym c.width.ensures.0) fits,
    )
