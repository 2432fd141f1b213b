-- A loop over a block that writes a pixel's number in place of each position: before the first, a turn, and after the last.
use Rattle.std.proofs.Common.{◌≡◌, ℕ, ◌+◌, ◌<◌, ◌≤◌, List, length, get_or, set, refl, ap, ◌∙◌, ⊎_elim, eq-or-lt_of_le, arith, length-set, get_or-set_other}
use Rattle.std.proofs.Common.{get_or-set_same}
use Rattle.color.specs.declared.Pixel.{Pixel}
use Rattle.color.specs.Channels.{premultiply, premultiplied}
use Rattle.paint.specs.Buffers.{unpacked}
use Rattle.paint.specs.Segments.{Words, Begun, Covering}

pub begun_none : (f : ℕ → Pixel) (ws : List ℕ) → Begun f ws 0 ws
begun_none f ws = record { long = refl; color = λ j h. absurd (omega arith); rest = λ j h. refl }

module _ {f : ℕ → Pixel} {before ws : List ℕ} {i : ℕ} (o : Begun f before i ws) where
  pub begun_turn : (w : ℕ) → unpacked w ≡ f i → i < length before → Begun f before (i + 1) (set ws i w)
  begun_turn w e l = record { long = length-set ws i w ∙ o.long; color = color; rest = rest }
    where
      l' : i < length ws
      l' = omega (arith, o.long)

      color : (j : ℕ) → j < i + 1 → unpacked (get_or (set ws i w) j 0) ≡ f j
      color j h =
          ⊎_elim
          (λ (q : j ≡ i). rw (q, get_or-set_same ws i w 0 l') e)
          (λ (m : j < i). ap unpacked (get_or-set_other ws i j w 0 (λ q. omega (arith, q))) ∙ o.color j m)
          (eq-or-lt_of_le (omega arith))

      rest : (j : ℕ) → i + 1 ≤ j → get_or (set ws i w) j 0 ≡ get_or before j 0
      rest j h = get_or-set_other ws i j w 0 (λ q. omega (arith, q)) ∙ o.rest j (omega arith)

  pub begun_all : i ≡ length before → Words f (length before) ws
  begun_all e = record { long = o.long; color = λ j h. o.color j (omega arith) }

-- ---- alphas
pub covering_none : (low : ℕ) (ws : List ℕ) → Covering low 0 ws
covering_none low ws = record { above = λ i h. absurd (omega arith) }

pub covering_turn : (low r n : ℕ) (ws : List ℕ) → Covering low n ws → r ≤ low → r ≤ (unpacked (get_or ws n 0)).a → Covering r (n + 1) ws
covering_turn low r n ws o h k = record {
  above = λ i l.
      ⊎_elim (λ (q : i ≡ n). rw q k) (λ (m : i < n). omega (arith, o.above i m, h)) (eq-or-lt_of_le (omega arith));
}

whole : (x a : ℕ) → a ≡ 255 → x ≡ premultiply x a
whole x a e = rw e (omega arith)

-- under the alpha 255 a colour is the same premultiplied
pub opaque_same : (p : Pixel) → p.a ≡ 255 → p ≡ premultiplied p
opaque_same p e j = record { r = whole p.r p.a e j; g = whole p.g p.a e j; b = whole p.b p.a e j; a = p.a }

alpha_byte : (w : ℕ) → (unpacked w).a < 256
unfolding unpacked
alpha_byte w = omega arith

pub opaque_words : (low n : ℕ) (ws : List ℕ) → Covering low n ws → low ≡ 255 → length ws ≡ n → Words (λ i. premultiplied (unpacked (get_or ws i 0))) n ws
opaque_words low n ws o e l = record {
  long = l;
  color = λ i h. opaque_same (unpacked (get_or ws i 0)) (omega (arith, o.above i h, e, alpha_byte (get_or ws i 0)));
}
