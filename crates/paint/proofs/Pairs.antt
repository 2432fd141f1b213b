-- Two stops at both ends of a ramp: a channel by a product of 16 bits, and two pairs of channels as a pixel's number, premultiplied before they are joined.
use Rattle.std.proofs.Common.{◌≡◌, ℕ, ◌+◌, ◌-◌, ◌*◌, ◌/◌, ◌%◌, ◌<◌, ◌≤◌, min, List, [], ◌∷◌, length, get_or, sym, refl, ap, ◌∙◌, ap₂, le_refl, mul-le-mul}
use Rattle.std.proofs.Common.{arith}
use Rattle.lists.specs.Lists.{tab}
use Rattle.lists.proofs.Laws.{tab_at, tab_length, upto_same}
use Rattle.color.specs.declared.Pixel.{Pixel}
use Rattle.color.specs.Channels.{premultiplied}
use Rattle.color.proofs.Alpha.{premultiplied_under}
use Rattle.raster.specs.Surface.{run}
use Rattle.raster.proofs.Runs.{run_same}
use Rattle.paint.specs.Ramps.{mix_byte, mix_pixel}
use Rattle.paint.specs.Buffers.{packed, unpacked}
use Rattle.paint.specs.Segments.{Words, Planes, OnRamp, Bytes, mix_pair, left_pair, right_pair, of_pairs}
use Rattle.paint.proofs.Mix.{mix_above, mix_below, mix_same}
use Rattle.paint.proofs.Built.{packed_back}
use Rattle.paint.proofs.Begins.{opaque_same}

-- ---- a channel: x is how far the two stops' lie apart
up : (c x t u : ℕ) → t + u ≡ 65536 → c + x * t / 65536 + x * t % 65536 / 32768 ≡ (c * u + (c + x) * t + 32768) / 65536
up c x t u e =
    let f : c * 65536 ≡ c * t + c * u = omega (arith, ap (λ (y : ℕ). c * y) e) in
    let g : c * 65536 + 32768 + x * t ≡ c * u + (c + x) * t + 32768 = omega arith in
    rw (← g) (omega arith)

down : (c x t u : ℕ) → t + u ≡ 65536 → c + x - x * t / 65536 - (x * t % 65536 - 1) / 32768 ≡ ((c + x) * u + c * t + 32768) / 65536
down c x t u e =
    let f : (c + x) * 65536 ≡ (c + x) * t + (c + x) * u = omega (arith, ap (λ (y : ℕ). (c + x) * y) e) in
    let g : (c + x) * 65536 + 32768 ≡ (c + x) * u + c * t + 32768 + x * t = omega arith in
    omega (arith, g)

pub rising_is : (ci cj t : ℕ) → ci ≤ cj → t < 65536
    → ci + (cj - ci) * t / 65536 + (cj - ci) * t % 65536 / 32768 ≡ mix_byte 0 65536 t ci cj
rising_is ci cj t h l =
    let e : ci + (cj - ci) ≡ cj = omega arith in
    let z : t - 0 ≡ t = omega arith in
    rw z (rw e at (up ci (cj - ci) t (65536 - t) (omega arith)))

pub falling_is : (ci cj t : ℕ) → cj ≤ ci → t < 65536
    → ci - (ci - cj) * t / 65536 - ((ci - cj) * t % 65536 - 1) / 32768 ≡ mix_byte 0 65536 t ci cj
falling_is ci cj t h l =
    let e : cj + (ci - cj) ≡ ci = omega arith in
    let z : t - 0 ≡ t = omega arith in
    rw z (rw e at (down cj (ci - cj) t (65536 - t) (omega arith)))

pub part_small : (x t : ℕ) → t < 65536 → x * t ≤ x * 65535
part_small x t l = mul-le-mul {n₁ = x} {m₁ = t} {n₂ = x} {m₂ = 65535} (le_refl x) (omega arith)

pub mixed_byte : (t ci cj : ℕ) → t < 65536 → ci < 256 → cj < 256 → mix_byte 0 65536 t ci cj < 256
mixed_byte t ci cj l h k = omega (arith, mix_below 0 65536 t ci cj (omega arith) l 255 (omega arith) (omega arith))

-- a channel and an alpha that both stops have
pub one_alpha : (t ci cj a : ℕ) → t < 65536 → mix_byte 0 65536 t ci cj + a * 256 ≡ mix_pair ci cj a a t
unfolding mix_pair
one_alpha t ci cj a l = ap (λ (x : ℕ). mix_byte 0 65536 t ci cj + x * 256) (sym (mix_same 0 65536 t a a (omega arith) l refl))

-- an alpha between two of 255
pub mixed_opaque : (t ai aj : ℕ) → t < 65536 → ai < 256 → aj < 256 → min ai aj ≡ 255 → mix_byte 0 65536 t ai aj ≡ 255
mixed_opaque t ai aj l h k e =
    omega (arith, mix_above 0 65536 t ai aj (omega arith) l 255 (omega arith) (omega arith), mixed_byte t ai aj l h k)

-- ---- a pixel
two_pairs : (p : Pixel) → Bytes p → unpacked (left_pair p + right_pair p * 65536) ≡ p
unfolding packed left_pair right_pair
two_pairs p h =
    let e : p.r + p.g * 256 + (p.b + p.a * 256) * 65536 ≡ packed p = omega arith in
    ap unpacked e ∙ packed_back p h.0 h.1 h.2 h.3

low : (x y : ℕ) → x < 256 → (x + y * 256) % 256 ≡ x
low x y h = omega arith

high : (x y : ℕ) → x < 256 → (x + y * 256) / 256 ≡ y
high x y h = omega arith

pairs_back : (p : Pixel) → Bytes p → of_pairs (left_pair p) (right_pair p) ≡ p
unfolding left_pair right_pair
pairs_back p h j = record {
  r = low p.r p.g h.0 j;
  g = high p.r p.g h.0 j;
  b = low p.b p.a h.2 j;
  a = high p.b p.a h.2 j;
}

premultiplied_bytes : (p : Pixel) → Bytes p → Bytes (premultiplied p)
premultiplied_bytes p h =
    let u = premultiplied_under p h.0 h.1 h.2 in
    (omega (arith, u.r, h.3), omega (arith, u.g, h.3), omega (arith, u.b, h.3), h.3)

-- ---- a block: the pairs made of t at each pixel
pub mixed_planes : (c d : Pixel) (ts left right : List ℕ) → OnRamp ts → Bytes c → Bytes d
    → left ≡ tab (length ts) (λ i. mix_pair c.r d.r c.g d.g (get_or ts i 0))
    → right ≡ tab (length ts) (λ i. mix_pair c.b d.b c.a d.a (get_or ts i 0))
    → Planes (λ i. mix_pixel 0 65536 (get_or ts i 0) c d) (length ts) left right
unfolding mix_pair left_pair right_pair
mixed_planes c d ts left right on h k p q = record {
  first = p;
  second = q;
  bytes = λ i m.
      let t = get_or ts i 0 in
      let l = on.below i m in (
        mixed_byte t c.r d.r l h.0 k.0,
        mixed_byte t c.g d.g l h.1 k.1,
        mixed_byte t c.b d.b l h.2 k.2,
        mixed_byte t c.a d.a l h.3 k.3,
      );
}

-- the same pairs premultiplied, and joined
module _ {f : ℕ → Pixel} {n : ℕ} {left right : List ℕ} (o : Planes f n left right) where
  first_at : (i : ℕ) → i < n → get_or left i 0 ≡ left_pair (f i)
  first_at i h = rw o.first (tab_at n (λ i. left_pair (f i)) i 0 h)

  second_at : (i : ℕ) → i < n → get_or right i 0 ≡ right_pair (f i)
  second_at i h = rw o.second (tab_at n (λ i. right_pair (f i)) i 0 h)

  first_long : length left ≡ n
  first_long = ap length o.first ∙ tab_length n _

  joined_at : (i : ℕ) → i < n → unpacked (get_or left i 0 + get_or right i 0 * 65536) ≡ f i
  joined_at i h = ap₂ (λ (a b : ℕ). unpacked (a + b * 65536)) (first_at i h) (second_at i h) ∙ two_pairs (f i) (o.bytes i h)

  -- as words
  pub joined_words : (m : ℕ) (ws : List ℕ) → n ≡ m → ws ≡ tab m (λ i. get_or left i 0 + get_or right i 0 * 65536) → Words f m ws
  joined_words m ws e w = record {
    long = ap length w ∙ tab_length m _;
    color = λ i h.
        let z : get_or ws i 0 ≡ get_or left i 0 + get_or right i 0 * 65536 = rw w (tab_at m (λ i. get_or left i 0 + get_or right i 0 * 65536) i 0 h) in
        ap unpacked z ∙ joined_at i (omega (arith, e));
  }

  -- as bytes
  pub joined_run : run (length left) (λ i. unpacked (get_or left i 0 + get_or right i 0 * 65536)) ≡ run n f
  joined_run = rw first_long (run_same n _ _ joined_at)

  -- under the alpha 255 a colour is the same premultiplied
  pub opaque_planes : ((i : ℕ) → i < n → (f i).a ≡ 255) → Planes (λ i. premultiplied (f i)) n left right
  opaque_planes e =
      let same : (i : ℕ) → i < n → f i ≡ premultiplied (f i) = λ i h. opaque_same (f i) (e i h) in
      record {
        first = o.first ∙ upto_same n _ _ (λ i h. ap (λ (p : Pixel). left_pair p ∷ []) (same i h));
        second = o.second ∙ upto_same n _ _ (λ i h. ap (λ (p : Pixel). right_pair p ∷ []) (same i h));
        bytes = λ i h. premultiplied_bytes (f i) (o.bytes i h);
      }

  back_at : (i : ℕ) → i < n → of_pairs (get_or left i 0) (get_or right i 0) ≡ f i
  back_at i h = ap₂ of_pairs (first_at i h) (second_at i h) ∙ pairs_back (f i) (o.bytes i h)

  pub premultiplied_planes : (left' right' : List ℕ)
      → left' ≡ tab (length left) (λ i. left_pair (premultiplied (of_pairs (get_or left i 0) (get_or right i 0))))
      → right' ≡ tab (length left) (λ i. right_pair (premultiplied (of_pairs (get_or left i 0) (get_or right i 0))))
      → Planes (λ i. premultiplied (f i)) n left' right'
  premultiplied_planes left' right' p q = record {
    first = (rw first_long at p) ∙ upto_same n _ _ (λ i h. ap (λ (p : Pixel). left_pair (premultiplied p) ∷ []) (back_at i h));
    second = (rw first_long at q) ∙ upto_same n _ _ (λ i h. ap (λ (p : Pixel). right_pair (premultiplied p) ∷ []) (back_at i h));
    bytes = λ i h. premultiplied_bytes (f i) (o.bytes i h);
  }

-- ---- t's that were cut
module _ (n : ℕ) (f : ℕ → ℕ) (ts : List ℕ) (e : ts ≡ tab n (λ i. min (f i) 65535)) where
  cut_at : (i : ℕ) → i < n → get_or ts i 0 ≡ min (f i) 65535
  cut_at i h = rw e (tab_at n (λ i. min (f i) 65535) i 0 h)

  cut_long : length ts ≡ n
  cut_long = ap length e ∙ tab_length n _

  pub cut_on_ramp : OnRamp ts
  cut_on_ramp = record { below = λ i h. let m : i < n = omega (arith, cut_long) in omega (arith, cut_at i m) }

  pub cut_words : (color : ℕ → Pixel) (m : ℕ) (ws : List ℕ) → m ≡ n → Words (λ i. color (get_or ts i 0)) m ws
      → Words (λ i. color (min (f i) 65535)) n ws
  cut_words color m ws q w = record { long = w.long ∙ q; color = λ i h. w.color i (omega (arith, q)) ∙ ap color (cut_at i h) }

  pub cut_run : (color : ℕ → Pixel) → run (length ts) (λ i. color (get_or ts i 0)) ≡ run n (λ i. color (min (f i) 65535))
  cut_run color = rw cut_long (run_same n _ _ (λ i h. ap color (cut_at i h)))
