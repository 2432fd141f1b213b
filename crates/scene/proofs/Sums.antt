-- Sums: one that begins at a start value and takes up one term after the other, and one over strips that lie side by side.
use mathlib.Core.Path.{◌≡◌, refl, sym, ap, ap₂, ◌∙◌}
use mathlib.Core.List.{List}
use Prim.Native.Nat.{ℕ, zero, suc, ◌+◌, ◌*◌, ◌%◌}
use native.Mathlib.Nat.{add-suc, add-zero, add_comm}
use native.Mathlib.Omega.{arith}
use Rattle.lists.specs.Lists.{total}
use Rattle.lists.proofs.Laws.{total_same}
use Rattle.fixed.specs.Little.{u16_at}
use Rattle.scene.specs.Layout.{payload_words, check_modulus}
use Rattle.scene.specs.Blocks.{checksum_of}
use Rattle.scene.specs.Strips.{column_of}

-- ---- sums of sums
total_split : (a b : ℕ) (f : ℕ → ℕ) → total (a + b) f ≡ total a f + total b (λ l. f (a + l))
total_split a zero f = rw add-zero (omega arith)
total_split a (suc b) f = rw (add-suc, total_split a b f) (omega arith)

total_add : (n : ℕ) (f g : ℕ → ℕ) → total n (λ l. f l + g l) ≡ total n f + total n g
total_add zero f g = refl
total_add (suc n) f g = rw (total_add n f g) (omega arith)

total_scale : (c n : ℕ) (f : ℕ → ℕ) → total n (λ l. c * f l) ≡ c * total n f
total_scale c zero f = omega arith
total_scale c (suc n) f = rw (total_scale c n f) (omega arith)

nothing : (n : ℕ) → total n (λ l. 0) ≡ 0
nothing zero = refl
nothing (suc n) = rw (nothing n)

-- ---- m strips of n terms side by side: term l of strip h is term l + n h
module _ (n : ℕ) (f : ℕ → ℕ) where
  abbrev all : ℕ → ℕ → ℕ
  all m l = total m (λ h. f (l + n * h))

  abbrev late : ℕ → ℕ → ℕ
  late m l = total m (λ h. h * f (l + n * h))

  beside : (m : ℕ) → total (n * m) f ≡ total n (all m)
  beside zero =
      let e : n * 0 ≡ 0 = omega arith in
      rw e (sym (nothing n))
  beside (suc m) =
      let e : n * suc m ≡ n * m + n = omega arith in
      rw e
      (total_split (n * m) n f
      ∙ ap₂ ◌+◌ (beside m) (total_same n (λ l. f (n * m + l)) (λ l. f (l + n * m)) (λ l h. ap f (add_comm (n * m) l)))
      ∙ sym (total_add n (all m) (λ l. f (l + n * m))))

-- each term times its number, from 1
module _ (n m : ℕ) (f : ℕ → ℕ) where
  shares : (l h w : ℕ) → suc (l + n * h) * w ≡ suc l * w + n * (h * w)
  shares l h w = omega arith

  column : (l : ℕ) → total m (λ h. suc (l + n * h) * f (l + n * h)) ≡ suc l * all n f m l + n * late n f m l
  column l =
      total_same m (λ h. suc (l + n * h) * f (l + n * h)) (λ h. suc l * f (l + n * h) + n * (h * f (l + n * h))) (λ h k. shares l h (f (l + n * h)))
      ∙ total_add m (λ h. suc l * f (l + n * h)) (λ h. n * (h * f (l + n * h)))
      ∙ ap₂ ◌+◌ (total_scale (suc l) m (λ h. f (l + n * h))) (total_scale n m (λ h. h * f (l + n * h)))

  weighted_beside : total (n * m) (λ k. suc k * f k) ≡ total n (λ l. suc l * all n f m l) + n * total n (late n f m)
  weighted_beside =
      beside n (λ k. suc k * f k) m
      ∙ total_same n (λ l. total m (λ h. suc (l + n * h) * f (l + n * h))) (λ l. suc l * all n f m l + n * late n f m l) (λ l h. column l)
      ∙ total_add n (λ l. suc l * all n f m l) (λ l. n * late n f m l)
      ∙ ap (λ (x : ℕ). total n (λ l. suc l * all n f m l) + x) (total_scale n n (late n f m))

-- two terms behind the strips; ca and cl are the columns' sums
module _ (n m k : ℕ) (f ca cl : ℕ → ℕ) (long : k ≡ suc (suc (n * m))) (same : (l : ℕ) → ca l ≡ all n f m l) (same' : (l : ℕ) → cl l ≡ late n f m l) where
  plain_joined : (start p x y : ℕ) → p ≡ start + total n ca → x ≡ f (n * m) → y ≡ f (suc (n * m)) → p + x + y ≡ start + total k f
  plain_joined start p x y e g h =
      let c = total_same n ca (all n f m) (λ l i. same l) in
      rw (long, e, g, h, c, beside n f m) (omega arith)

  weighted_joined : (start q r x y : ℕ) → q ≡ start + total n (λ l. suc l * ca l) → r ≡ 0 + total n cl → x ≡ f (n * m) → y ≡ f (suc (n * m))
      → q + n * r + suc (n * m) * x + suc (suc (n * m)) * y ≡ start + total k (λ j. suc j * f j)
  weighted_joined start q r x y e i g h =
      let c = total_same n (λ l. suc l * ca l) (λ l. suc l * all n f m l) (λ l j. ap (λ (z : ℕ). suc l * z) (same l)) in
      let d : r ≡ 0 + total n (late n f m) = i ∙ ap (λ (z : ℕ). 0 + z) (total_same n cl (late n f m) (λ l j. same' l)) in
      rw (long, e, g, h, c, d, weighted_beside n m f) (omega arith)

-- ---- the check of a block: seven strips of 36 words, and two words behind them
all_of : (f : ℕ → ℕ) (a b c d e g h : ℕ) → a ≡ f 0 → b ≡ f 1 → c ≡ f 2 → d ≡ f 3 → e ≡ f 4 → g ≡ f 5 → h ≡ f 6 → h + g + e + d + c + b + a ≡ total 7 f
all_of f a b c d e g h i j k l m n o = omega arith

late_of : (f : ℕ → ℕ) (b c d e g h : ℕ) → b ≡ f 1 → c ≡ f 2 → d ≡ f 3 → e ≡ f 4 → g ≡ f 5 → h ≡ f 6
    → h + g + e + d + c + b + (h + g + e + d + c) + (h + g + e + d) + (h + g + e) + (h + g) + h ≡ total 7 (λ k. k * f k)
late_of f b c d e g h i j k l m n = omega arith

module _ (s : List ℕ) (at : ℕ) where
  pub column_is : (a b c d e g h : ℕ) → a ≡ u16_at s at → b ≡ u16_at s (at + 72) → c ≡ u16_at s (at + 144) → d ≡ u16_at s (at + 216)
      → e ≡ u16_at s (at + 288) → g ≡ u16_at s (at + 360) → h ≡ u16_at s (at + 432)
      → record {
        all = h + g + e + d + c + b + a;
        late = h + g + e + d + c + b + (h + g + e + d + c) + (h + g + e + d) + (h + g + e) + (h + g) + h;
      }
      ≡ column_of s at
  unfolding column_of
  column_is a b c d e g h i j k l m n o =
      let f : ℕ → ℕ = λ p. u16_at s (at + 72 * p) in
      let z : at ≡ at + 72 * 0 = omega arith in
      rw (all_of f a b c d e g h (i ∙ ap (u16_at s) z) j k l m n o, late_of f b c d e g h j k l m n o)

  word : ℕ → ℕ
  word k = u16_at s (at + 2 * k)

  -- a column's words stand 36 apart
  there : (l h : ℕ) → u16_at s (at + 2 * l + 72 * h) ≡ u16_at s (at + 2 * (l + 36 * h))
  there l h = ap (u16_at s) (omega arith)

  column_all : (l : ℕ) → (column_of s (at + 2 * l)).all ≡ all 36 word 7 l
  unfolding column_of word
  column_all l = total_same 7 (λ h. u16_at s (at + 2 * l + 72 * h)) (λ h. word (l + 36 * h)) (λ h k. there l h)

  column_late : (l : ℕ) → (column_of s (at + 2 * l)).late ≡ late 36 word 7 l
  unfolding column_of word
  column_late l =
      total_same 7 (λ h. h * u16_at s (at + 2 * l + 72 * h)) (λ h. h * word (l + 36 * h)) (λ h k. ap (λ (x : ℕ). h * x) (there l h))

  -- the columns' sums so far
  abbrev pub alls : ℕ → ℕ
  alls l = (column_of s (at + 2 * l)).all

  abbrev pub lates : ℕ → ℕ
  lates l = (column_of s (at + 2 * l)).late

  pub check_summed : (start p q r x y : ℕ) → p ≡ start + total 36 alls → q ≡ start + total 36 (λ l. suc l * alls l) → r ≡ 0 + total 36 lates
      → x ≡ u16_at s (at + 504) → y ≡ u16_at s (at + 506)
      → record { plain = (p + x + y) % check_modulus; weighted = (q + 36 * r + 253 * x + 254 * y) % check_modulus } ≡ checksum_of start s at
  unfolding checksum_of word
  check_summed start p q r x y e g h i j =
      rw (
        plain_joined 36 7 payload_words word alls lates refl column_all column_late start p x y e i j,
        weighted_joined 36 7 payload_words word alls lates refl column_all column_late start q r x y g h i j,
      )
