-- Between stops of the alpha 255 a ramp has no other, and so has a gradient.
use Rattle.std.proofs.Common.{◌≡◌, ℕ, zero, suc, ◌+◌, ◌<◌, ◌≤◌, Bool, true, false, List, get_or, ℤ, refl, arith}
use Rattle.color.specs.declared.Pixel.{Pixel}
use Rattle.paint.specs.Gradient.{mapped}
use Rattle.paint.specs.Ramps.{mix, ramp_at}
use Rattle.paint.specs.Paints.{gradient_color}
use Rattle.paint.specs.Buffers.{HeldRamp, stop_at, stops_from, stops_in}
use Rattle.paint.specs.Opaque.{OpaqueStops}
use Rattle.paint.specs.declared.Stop.{Stop}
use Rattle.paint.proofs.Mix.{mix_same}
use Rattle.paint.proofs.Sound.{Each, none, more, Starts}
use Rattle.paint.proofs.Under.{ramp_has}

abbrev IsOpaque : Pixel → Type 0
IsOpaque p = p.a ≡ 255

mix_opaque : (i j : Stop) (t : ℕ) → i.offset ≤ t → t < j.offset → IsOpaque i.color → IsOpaque j.color → IsOpaque (mix i j t)
mix_opaque i j t from to p q = rw (p, q) (mix_same i.offset j.offset t 255 255 from to refl)

-- ---- stops in a run of numbers
each_opaque : (ramp : List ℕ) (i n : ℕ) → ((k : ℕ) → i ≤ k → k < i + n → (stop_at ramp k).color.a ≡ 255)
    → Each (λ s. IsOpaque s.color) (stops_from ramp i n)
each_opaque ramp i zero h = none
each_opaque ramp i (suc n) h = more (h i (omega arith) (omega arith)) (each_opaque ramp (suc i) n (λ k a b. h k (omega arith) (omega arith)))

starts_in : (ramp : List ℕ) (count : ℕ) → 0 < count → get_or ramp 0 0 ≡ 0 → Starts (stops_in ramp count)
starts_in ramp zero l e = absurd (omega arith)
starts_in ramp (suc n) l e = e

module _ (ramp : List ℕ) (count : ℕ) (held : HeldRamp ramp count) (opaque : OpaqueStops ramp count) where
  ramp_opaque : (t : ℤ) → IsOpaque (ramp_at (stops_in ramp count) t)
  ramp_opaque t =
      ramp_has IsOpaque mix_opaque (stops_in ramp count) t (starts_in ramp count held.some held.first)
      (each_opaque ramp 0 count (λ k a b. opaque k (omega arith)))

  -- premultiplying keeps the alpha
  pub color_opaque : (spread : ℕ) (premultiply : Bool) (t : ℤ) → IsOpaque (gradient_color spread premultiply (stops_in ramp count) t)
  unfolding gradient_color
  color_opaque spread true t = ramp_opaque (mapped spread t)
  color_opaque spread false t = ramp_opaque (mapped spread t)
