-- Stops written to a run of numbers, one after the other.
use Rattle.std.proofs.Common.{◌≡◌, ℕ, zero, suc, ◌+◌, ◌-◌, ◌*◌, ◌/◌, ◌%◌, ◌<◌, ◌≤◌, List, [], ◌∷◌, ◌++◌, length, drop, set, sym, refl, ap, ◌∙◌, ap₂}
use Rattle.std.proofs.Common.{add-one, arith, length-set, get_or-set_same, drop-drop, drop-set-lt}
use Rattle.lists.proofs.Laws.{get_d_set_before}
use Rattle.color.specs.declared.Pixel.{Pixel}
use Rattle.paint.specs.Ramps.{stop}
use Rattle.paint.specs.Buffers.{packed, unpacked, stop_at, stops_from, stops_in, Written}
use Rattle.paint.specs.declared.Stop.{Stop}

-- ---- a colour as one number, and back
pub packed_back : (c : Pixel) → c.r < 256 → c.g < 256 → c.b < 256 → c.a < 256 → unpacked (packed c) ≡ c
unfolding packed unpacked
packed_back c r g b a = rw (low, second, third, high)
  where
    low : (c.r + c.g * 256 + c.b * 65536 + c.a * 16777216) % 256 ≡ c.r
    low = omega arith

    second : (c.r + c.g * 256 + c.b * 65536 + c.a * 16777216) / 256 % 256 ≡ c.g
    second = omega arith

    third : (c.r + c.g * 256 + c.b * 65536 + c.a * 16777216) / 65536 % 256 ≡ c.b
    third = omega arith

    high : (c.r + c.g * 256 + c.b * 65536 + c.a * 16777216) / 16777216 % 256 ≡ c.a
    high = omega arith

-- ---- stops in order
shift : (i n : ℕ) → suc i + n ≡ i + suc n
shift i n = omega arith

-- one more stop is the last
pub stops_more : (ramp : List ℕ) (i n : ℕ) → stops_from ramp i (suc n) ≡ stops_from ramp i n ++ (stop_at ramp (i + n) ∷ [])
stops_more ramp i zero =
    let e : i + 0 ≡ i = omega arith in
    rw e
stops_more ramp i (suc n) =
    ap (λ (l : List Stop). stop_at ramp i ∷ l)
    (stops_more ramp (suc i) n ∙ ap (λ (k : ℕ). stops_from ramp (suc i) n ++ (stop_at ramp k ∷ [])) (shift i n))

pub stops_same : (a b : List ℕ) (i n : ℕ) → ((k : ℕ) → k < i + n → stop_at a k ≡ stop_at b k) → stops_from a i n ≡ stops_from b i n
stops_same a b i zero h = refl
stops_same a b i (suc n) h = ap₂ ◌∷◌ (h i (omega arith)) (stops_same a b (suc i) n (λ k l. h k (omega arith)))

-- ---- what is written
-- a stop after the first at
module _ (s : List ℕ) (at x n : ℕ) (q : Pixel) (h : at * 2 + 1 < length s) (e : unpacked n ≡ q) where
  kept : (k : ℕ) → k < at → stop_at (set (set s (at * 2) x) (at * 2 + 1) n) k ≡ stop_at s k
  kept k l =
      let a : k * 2 < at * 2 + 1 = omega arith in
      let b : k * 2 < at * 2 = omega arith in
      let c : k * 2 + 1 < at * 2 + 1 = omega arith in
      let d : k * 2 + 1 < at * 2 = omega arith in
      simp get_d_set_before

  here : stop_at (set (set s (at * 2) x) (at * 2 + 1) n) at ≡ stop x q
  here =
      let a : at * 2 < at * 2 + 1 = omega arith in
      let b : at * 2 < length s = omega arith in
      let c : at * 2 + 1 < length (set s (at * 2) x) = simp length-set h in
      ap₂ stop (get_d_set_before (set s (at * 2) x) (at * 2 + 1) (at * 2) n 0 a ∙ get_or-set_same s (at * 2) x 0 b)
      (ap unpacked (get_or-set_same (set s (at * 2) x) (at * 2 + 1) n 0 c) ∙ e)

  pub stop_pushed : Written s (set (set s (at * 2) x) (at * 2 + 1) n) (at + 1) (stops_in s at ++ (stop x q ∷ []))
  stop_pushed =
      let t = set (set s (at * 2) x) (at * 2 + 1) n in
      record {
        stops =
            ap (stops_from t 0) (add-one at) ∙ stops_more t 0 at
            ∙ ap₂ (λ (l r : List Stop). l ++ r) (stops_same t s 0 at (λ k l. kept k (omega arith))) (ap (λ (k : ℕ). stop_at t k ∷ []) (omega arith)
            ∙ ap (λ (z : Stop). z ∷ []) here);
        rest = drop-set-lt ((at + 1) * 2) (set s (at * 2) x) (at * 2 + 1) n (omega arith) ∙ drop-set-lt ((at + 1) * 2) s (at * 2) x (omega arith);
      }

-- nothing
pub none_written : (s : List ℕ) (count : ℕ) → Written s s count (stops_in s count)
none_written s count = record { stops = refl; rest = refl }

-- more, after what was written before
drop_later : (a b : List ℕ) (m n : ℕ) → m ≤ n → drop m b ≡ drop m a → drop n b ≡ drop n a
drop_later a b m n h e =
    let k : m + (n - m) ≡ n = omega arith in
    ap (λ (z : ℕ). drop z b) (sym k) ∙ sym (drop-drop (n - m) m b) ∙ ap (drop (n - m)) e ∙ drop-drop (n - m) m a ∙ ap (λ (z : ℕ). drop z a) k

pub then_written : {a b c : List ℕ} {m n : ℕ} {k l r : List Stop} → Written a b m k → m ≤ n → Written b c n l → l ≡ r → Written a c n r
then_written {a} {b} {c} {m} {n} u h w e = record { stops = w.stops ∙ e; rest = w.rest ∙ drop_later a b (m * 2) (n * 2) (omega arith) u.rest }

-- the same in other words
pub so_written : {a b : List ℕ} {n : ℕ} {l r : List Stop} → Written a b n l → l ≡ r → Written a b n r
so_written w e = record { stops = w.stops ∙ e; rest = w.rest }
