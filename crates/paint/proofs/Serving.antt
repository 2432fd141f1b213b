-- Segments of a ramp: each has the ramp's colours at the positions that it serves.
use Rattle.std.proofs.Common.{◌≡◌, ℕ, zero, suc, ◌+◌, ◌-◌, ◌*◌, ◌/◌, ◌%◌, ◌<◌, ◌≤◌, min, Bool, true, false, ltb, List, get_or, pos, sym, refl, ◌∙◌, ap₂}
use Rattle.std.proofs.Common.{arith, ltb-false, ltb-true, le-ltb, lt-ltb}
use Rattle.color.specs.declared.Pixel.{Pixel}
use Rattle.paint.specs.Gradient.{ramp_unit}
use Rattle.paint.specs.Ramps.{mix_byte, mix_pixel, between, ramp_at}
use Rattle.paint.specs.Buffers.{HeldRamp, unpacked, stop_at, stops_from, stops_in}
use Rattle.paint.specs.Segments.{t_at, two_stops, segment_of, Serves, Passed}
use Rattle.paint.specs.declared.Segment.{Segment}
use Rattle.paint.proofs.Mix.{mix_same}
use Rattle.paint.proofs.Lookup.{between_here, between_on, between_end, ramp_before, ramp_within, ramp_after}

-- ---- mixing
-- positions are t and 1
moved : (xi xj t k : ℕ) (ci cj : Pixel) → k ≡ t + 1 → mix_pixel (xi + 1) (xj + 1) k ci cj ≡ mix_pixel xi xj t ci cj
moved xi xj t k ci cj e =
    let a : xj + 1 - k ≡ xj - t = omega arith in
    let b : k - (xi + 1) ≡ t - xi = omega arith in
    let d : xj + 1 - (xi + 1) ≡ xj - xi = omega arith in
    rw (a, b, d)

-- one colour all along
level : (from to k : ℕ) (c : Pixel) → from ≤ k → k < to → mix_pixel from to k c c ≡ c
level from to k c h l =
    rw (
      mix_same from to k c.r c.r h l refl,
      mix_same from to k c.g c.g h l refl,
      mix_same from to k c.b c.b h l refl,
      mix_same from to k c.a c.a h l refl,
    )

module _ (ramp : List ℕ) (count : ℕ) (held : HeldRamp ramp count) where
  one_more : count ≡ suc (count - 1)
  one_more = omega (arith, held.some)

  -- ---- the ramp's colour at a position
  at_first : ramp_at (stops_in ramp count) (t_at 0) ≡ (stop_at ramp 0).color
  at_first = ramp_before ramp count (count - 1) one_more (t_at 0) refl

  at_last : ramp_at (stops_in ramp count) (t_at 65537) ≡ (stop_at ramp (count - 1)).color
  at_last = ramp_after ramp count (count - 1) one_more (t_at 65537) refl refl

  at_t : (t k : ℕ) → k ≡ t + 1 → t < 65536 → ramp_at (stops_in ramp count) (t_at k) ≡ between (stop_at ramp 0) (stops_from ramp 1 (count - 1)) t
  at_t t k e h =
      let f : k ≡ suc t = omega arith in
      rw f (ramp_within ramp count (count - 1) one_more (pos t) (le-ltb t 0 (omega arith)) (lt-ltb t ramp_unit h))

  -- ---- the search
  pub passed_none : Passed ramp count 1 0
  passed_none = record { on = λ t h. refl }

  pub passed_more : (j low low1 : ℕ) → Passed ramp count j low → j < count → low ≤ low1 → get_or ramp (j * 2) 0 ≤ low1 → Passed ramp count (j + 1) low1
  passed_more j low low1 p l h k =
      let e : j + 1 - 1 ≡ j = omega arith in
      record { on = λ t m. p.on t (omega arith) ∙ rw e (between_on ramp _ j count t l (omega arith)) }

  -- ---- segments
  serves : (s : Segment) (low from to : ℕ) (ci cj : Pixel) → s ≡ segment_of low from to ci cj → from ≤ low → low < to → to ≤ from + 65536
      → ((k : ℕ) → low ≤ k → k < to → mix_pixel from to k ci cj ≡ ramp_at (stops_in ramp count) (t_at k)) → Serves ramp count s
  unfolding segment_of
  serves s low from to ci cj e h l m f = rw e (record { sound = record { same = refl; low = h; some = l; wide = m }; color = f })

  pub serves_first : (s : Segment) (c : Pixel) → c ≡ (stop_at ramp 0).color → s ≡ segment_of 0 0 1 c c → Serves ramp count s
  serves_first s c g e =
      serves s 0 0 1 c c e (omega arith) (omega arith) (omega arith)
      (λ k h l. let z : k ≡ 0 = omega arith in level 0 1 k c h l ∙ rw z (g ∙ sym at_first))

  pub serves_last : (s : Segment) (c : Pixel) → c ≡ (stop_at ramp (count - 1)).color → s ≡ segment_of 65537 65537 65538 c c → Serves ramp count s
  serves_last s c g e =
      serves s 65537 65537 65538 c c e (omega arith) (omega arith) (omega arith)
      (λ k h l. let z : k ≡ 65537 = omega arith in level 65537 65538 k c h l ∙ rw z (g ∙ sym at_last))

  module _ (s : Segment) (j low : ℕ) (passed : Passed ramp count j low) where
    pub serves_between : (ci cj : Pixel) → j < count → get_or ramp ((j - 1) * 2) 0 ≤ low → low < get_or ramp (j * 2) 0
        → ci ≡ (stop_at ramp (j - 1)).color → cj ≡ (stop_at ramp j).color
        → s ≡ segment_of (low + 1) (get_or ramp ((j - 1) * 2) 0 + 1) (get_or ramp (j * 2) 0 + 1) ci cj → Serves ramp count s
    serves_between ci cj l h m p q e =
        let xi = get_or ramp ((j - 1) * 2) 0 in
        let xj = get_or ramp (j * 2) 0 in
        let near : xj ≤ 65536 = held.below j l in
        serves s (low + 1) (xi + 1) (xj + 1) ci cj e (omega arith) (omega arith) (omega arith)
        (λ k a b.
        let t : k ≡ k - 1 + 1 = omega arith in
        moved xi xj (k - 1) k ci cj t
        ∙ rw (p, q) (sym (between_here ramp (stop_at ramp (j - 1)) j count (k - 1) l (omega arith)))
        ∙ sym (passed.on (k - 1) (omega arith))
        ∙ sym (at_t (k - 1) k t (omega arith)))

    pub serves_end : (c : Pixel) → count ≤ j → low < 65536 → c ≡ (stop_at ramp (j - 1)).color → s ≡ segment_of (low + 1) (low + 1) 65537 c c
        → Serves ramp count s
    serves_end c l m g e =
        serves s (low + 1) (low + 1) 65537 c c e (omega arith) (omega arith) (omega arith)
        (λ k a b.
        let t : k ≡ k - 1 + 1 = omega arith in
        level (low + 1) 65537 k c a b
        ∙ g
        ∙ sym (between_end ramp (stop_at ramp (j - 1)) j count (k - 1) l)
        ∙ sym (passed.on (k - 1) (omega arith))
        ∙ sym (at_t (k - 1) k t (omega arith)))

-- ---- two stops at both ends
first_end : (ci cj : ℕ) → mix_byte 0 65536 0 ci cj ≡ ci
first_end ci cj = omega arith

last_end : (ci cj : ℕ) → ci < 256 → cj < 256 → mix_byte 0 65536 65535 ci cj ≡ cj
last_end ci cj h k = omega arith

module _ (m n : ℕ) where
  first_ends : mix_pixel 0 65536 0 (unpacked m) (unpacked n) ≡ unpacked m
  first_ends =
      rw (
        first_end (unpacked m).r (unpacked n).r,
        first_end (unpacked m).g (unpacked n).g,
        first_end (unpacked m).b (unpacked n).b,
        first_end (unpacked m).a (unpacked n).a,
      )

  last_ends : mix_pixel 0 65536 65535 (unpacked m) (unpacked n) ≡ unpacked n
  unfolding unpacked
  last_ends =
      rw (
        last_end (m % 256) (n % 256) (omega arith) (omega arith),
        last_end (m / 256 % 256) (n / 256 % 256) (omega arith) (omega arith),
        last_end (m / 65536 % 256) (n / 65536 % 256) (omega arith) (omega arith),
        last_end (m / 16777216 % 256) (n / 16777216 % 256) (omega arith) (omega arith),
      )

pub two_colors : (ramp : List ℕ) → HeldRamp ramp 2 → get_or ramp 2 0 ≡ 65536 → (k : ℕ) → k ≤ 65537
    → two_stops (stop_at ramp 0).color (stop_at ramp 1).color k ≡ ramp_at (stops_in ramp 2) (t_at k)
two_colors ramp held e zero h = first_ends (get_or ramp 1 0) (get_or ramp 3 0) ∙ sym (at_first ramp 2 held)
two_colors ramp held e (suc n) h = by (ltb n 65536) refl
  where
    by : (t : Bool) → ltb n 65536 ≡ t → two_stops (stop_at ramp 0).color (stop_at ramp 1).color (suc n) ≡ ramp_at (stops_in ramp 2) (t_at (suc n))
    by true q =
        let l : n < 65536 = ltb-true n 65536 q in
        let m : min (suc n - 1) 65535 ≡ n = omega arith in
        rw m
        (ap₂ (λ (a b : ℕ). mix_pixel a b n (stop_at ramp 0).color (stop_at ramp 1).color) (sym held.first) (sym e)
        ∙ sym (between_here ramp (stop_at ramp 0) 1 2 n (omega arith) (rw e l))
        ∙ sym (at_t ramp 2 held n (suc n) (omega arith) l))
    by false q =
        let f : n ≡ 65536 = omega (arith, ltb-false n 65536 q) in
        rw f (last_ends (get_or ramp 1 0) (get_or ramp 3 0) ∙ sym (at_last ramp 2 held))
