-- One rectangle more: the least rectangle round them, and what is painted.
use mathlib.Core.Path.{◌≡◌, sym, ap, ap₂, ◌∙◌}
use mathlib.Core.List.{List, foldl-append}
use Prim.Native.Nat.{ℕ, ◌+◌}
use native.Mathlib.Numerals.{add-one}
use Rattle.lists.specs.Lists.{tab}
use Rattle.rect.specs.declared.Rect.{Rect}
use Rattle.rect.specs.Rects.{On, join_of, smallest}
use Rattle.rect.proofs.Laws.{join_on}
use Rattle.color.specs.declared.Pixel.{Pixel}
use Rattle.raster.specs.Surface.{overlay}
use Rattle.regions.specs.Pixels.{overlays}
use Rattle.regions.proofs.Overlays.{overlays_more}

module _ (rs : ℕ → Rect) (k : ℕ) where
  pub round_turn : (a r b : Rect) → a ≡ smallest (tab k rs) → r ≡ rs k → b ≡ join_of a r → b ≡ smallest (tab (k + 1) rs)
  round_turn a r b e f g = g ∙ rw (add-one, foldl-append, e, f)

  pub round_on : (a r b : Rect) → r ≡ rs k → b ≡ join_of a r → On 1024 1024 a → On 1024 1024 (rs k) → On 1024 1024 b
  round_on a r b f g o on = rw (g, f) (join_on 1024 1024 a (rs k) o on.wide on.high)

  pub painted_turn : (w h : ℕ) (f : ℕ → ℕ → Pixel) (d s t : List ℕ) (a : Rect) → s ≡ overlays w h (tab k rs) f d → a ≡ rs k → t ≡ overlay w h a f s
      → t ≡ overlays w h (tab (k + 1) rs) f d
  painted_turn w h f d s t a e i o =
      o ∙ ap₂ (λ (b : Rect) (q : List ℕ). overlay w h b f q) i e ∙ overlays_more w h (tab k rs) (rs k) f d
      ∙ ap (λ (n : ℕ). overlays w h (tab n rs) f d) (sym (add-one k))
