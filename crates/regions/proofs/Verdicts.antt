-- The verdict on a proposal, by how far the rules are kept.
use mathlib.Core.Path.{◌≡◌, refl, sym, ◌∙◌}
use mathlib.Core.List.{List}
use mathlib.Core.Bool.{Bool, true, false, ◌&&◌}
use Prim.Native.Nat.{ℕ}
use Rattle.rect.specs.declared.Rect.{Rect}
use Rattle.rect.specs.Rects.{whole}
use Rattle.damage.specs.Damage.{changed_boxes, same_background}
use Rattle.regions.specs.Pixels.{each}
use Rattle.regions.specs.Proposals.{to_cover}

-- ---- a list of one
second_none : (t : Bool) → (t && true) ≡ t
second_none true = refl
second_none false = refl

module _ (f : Rect → Bool) (w h : ℕ) (old new : List ℕ) where
  -- ---- what is to be covered
  pub changes_decide : same_background old new ≡ true → (r : Bool) → r ≡ each f (changed_boxes w h old new) → r ≡ each f (to_cover w h old new)
  unfolding to_cover
  changes_decide e r o = o ∙ rw e

  pub surface_decides : same_background old new ≡ false → (r : Bool) → r ≡ f (whole w h) → r ≡ each f (to_cover w h old new)
  unfolding to_cover
  surface_decides e r o = o ∙ rw e (sym (second_none (f (whole w h))))
