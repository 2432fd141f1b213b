-- No channel of a paint is above its alpha, whatever the draw's bytes: a premultiplied byte is not, and between two stops a channel and its alpha are mixed
-- in the same way.
use Rattle.std.proofs.Common.{◌≡◌, ℕ, zero, suc, ◌+◌, ◌-◌, ◌*◌, ◌/◌, ◌<◌, ◌≤◌, Bool, true, false, cond, T, ltb, List, [], ◌∷◌, ℤ, pos, nat_abs, sym, refl}
use Rattle.std.proofs.Common.{subst, mul-le-mul_right, arith, ltb→lt, ltb-false}
use native.Mathlib.Nat.{div-zero}
use lib.Ieee.Nearest.{div_mono}
use lib.Signed.{lt_z}
use Rattle.color.specs.declared.Pixel.{Pixel}
use Rattle.color.specs.Channels.{bytes_of_color, UnderAlpha}
use Rattle.color.proofs.Alpha.{channel_small, premultiplied_under}
use Rattle.paint.specs.Gradient.{ramp_unit, mapped}
use Rattle.paint.specs.Ramps.{prepared, ramp_of, mix_byte, mix, last_color, between, ramp_at}
use Rattle.paint.specs.Paints.{gradient_color, paint_at}
use Rattle.paint.specs.declared.Paint.{Paint}
use Rattle.paint.specs.declared.Paint.TheVariants.{Solid, Linear, Radial}
use Rattle.paint.specs.declared.Stop.{Stop}
use Rattle.paint.proofs.Mix.{mix_below}
use Rattle.paint.proofs.Sound.{Each, none, more, each_map, stops_given, Starts, ramp_starts}

-- ---- what holds of the colours of two stops, and of all between them, holds of a ramp's
module _ (P : Pixel → Type 0) (mixed : (i j : Stop) (t : ℕ) → i.offset ≤ t → t < j.offset → P i.color → P j.color → P (mix i j t)) where
  next : (i j : Stop) (rest : List Stop) (t : ℕ) → i.offset ≤ t → P i.color → P j.color → (j.offset ≤ t → P (between j rest t))
      → P (between i (j ∷ rest) t)
  next i j rest t h p q on = by (ltb t j.offset) refl
    where
      by : (b : Bool) → ltb t j.offset ≡ b → P (cond b (mix i j t) (between j rest t))
      by true e = mixed i j t h (ltb→lt t j.offset (subst T (sym e) tt)) p q
      by false e = on (ltb-false t j.offset e)

  between_has : (i : Stop) {l : List Stop} (t : ℕ) → i.offset ≤ t → P i.color → Each (λ s. P s.color) l → P (between i l t)
  between_has i t h p none = p
  between_has i t h p (more {s} {l} q e) = next i s l t h p q (λ k. between_has s t k q e)

  last_has : (i : Stop) {l : List Stop} → P i.color → Each (λ s. P s.color) l → P (last_color i l)
  last_has i p none = p
  last_has i p (more {s} q e) = last_has s q e

  chosen : (t : Bool) {p q : Pixel} → P p → P q → P (cond t p q)
  chosen true h k = h
  chosen false h k = k

  pub ramp_has : (l : List Stop) (t : ℤ) → Starts l → Each (λ s. P s.color) l → P (ramp_at l t)
  unfolding ramp_at
  ramp_has [] t h e = absurd h
  ramp_has (i ∷ l) t h (more p e) =
      chosen (lt_z t (pos 0)) p
      (chosen (lt_z t (pos ramp_unit)) {p = between i l (nat_abs t)} (between_has i (nat_abs t) (omega (arith, h)) p e) (last_has i p e))

-- ---- no channel above its alpha: mixing grows with both bytes
quotient_grows : (a c d : ℕ) → a ≤ c → a / d ≤ c / d
quotient_grows a c zero h = rw (div-zero a, div-zero c) (omega arith)
quotient_grows a c (suc d) h = div_mono a (suc d) c (suc d) (omega arith) (omega arith) (mul-le-mul_right (suc d) h)

mix_grows : (xi xj t ci cj ai aj : ℕ) → ci ≤ ai → cj ≤ aj → mix_byte xi xj t ci cj ≤ mix_byte xi xj t ai aj
mix_grows xi xj t ci cj ai aj h k =
    quotient_grows (ci * (xj - t) + cj * (t - xi) + (xj - xi) / 2) (ai * (xj - t) + aj * (t - xi) + (xj - xi) / 2) (xj - xi)
    (omega (arith, mul-le-mul_right (xj - t) h, mul-le-mul_right (t - xi) k))

mix_under : (i j : Stop) (t : ℕ) → i.offset ≤ t → t < j.offset → UnderAlpha i.color → UnderAlpha j.color → UnderAlpha (mix i j t)
mix_under i j t from to p q = record {
  r = mix_grows i.offset j.offset t i.color.r j.color.r i.color.a j.color.a p.r q.r;
  g = mix_grows i.offset j.offset t i.color.g j.color.g i.color.a j.color.a p.g q.g;
  b = mix_grows i.offset j.offset t i.color.b j.color.b i.color.a j.color.a p.b q.b;
}

-- ---- channels that are bytes
record Bytes (p : Pixel) : Type 0 where
  r : p.r < 256
  g : p.g < 256
  b : p.b < 256

mix_bytes : (i j : Stop) (t : ℕ) → i.offset ≤ t → t < j.offset → Bytes i.color → Bytes j.color → Bytes (mix i j t)
mix_bytes i j t from to p q = record {
  r = byte i.color.r j.color.r p.r q.r;
  g = byte i.color.g j.color.g p.g q.g;
  b = byte i.color.b j.color.b p.b q.b;
}
  where
    byte : (ci cj : ℕ) → ci < 256 → cj < 256 → mix_byte i.offset j.offset t ci cj < 256
    byte ci cj h k = omega (arith, mix_below i.offset j.offset t ci cj from to 255 (omega arith) (omega arith))

-- ---- a gradient's colour: the stops are premultiplied before, or the result is
gradient_under : (spread : ℕ) (premultiply : Bool) (stops : List ℕ) (n : ℕ) (t : ℤ)
    → UnderAlpha (gradient_color spread premultiply (ramp_of premultiply stops n) t)
unfolding gradient_color
gradient_under spread true stops n t =
    ramp_has UnderAlpha mix_under (ramp_of true stops n) (mapped spread t) (ramp_starts true stops n)
    (each_map (prepared true) (λ s h. premultiplied_under s.color h.r h.g h.b) (stops_given stops n))
gradient_under spread false stops n t =
    let h = ramp_has Bytes mix_bytes (ramp_of false stops n) (mapped spread t) (ramp_starts false stops n)
    (each_map (prepared false) (λ s h. record { r = h.r; g = h.g; b = h.b }) (stops_given stops n)) in
    premultiplied_under (ramp_at (ramp_of false stops n) (mapped spread t)) h.r h.g h.b

pub paint_under : (paint : Paint) (spread : ℕ) (premultiply : Bool) (stops : List ℕ) (n x y : ℕ) → UnderAlpha (paint_at paint spread premultiply stops n x y)
unfolding paint_at
paint_under (Solid c) spread premultiply stops n x y = premultiplied_under (bytes_of_color c) (channel_small _) (channel_small _) (channel_small _)
paint_under (Linear p) spread premultiply stops n x y = gradient_under spread premultiply stops n _
paint_under (Radial p) spread premultiply stops n x y = gradient_under spread premultiply stops n _
