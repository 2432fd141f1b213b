-- Pixels in lists of bytes.
use mathlib.Core.Path.{◌≡◌, refl, sym, ap, ◌∙◌}
use mathlib.Core.List.{List, ◌++◌}
use mathlib.Core.Logic.{⊎_elim}
use Prim.Native.Nat.{ℕ, zero, suc, ◌+◌, ◌*◌, ◌/◌, ◌%◌, ◌<◌}
use native.Mathlib.Nat.{eq-or-lt_of_le, le_of_suc-le-suc, not-suc-le-zero, add-zero, mod-lt, div-add-mod', div-lt_iff_lt-mul}
use native.Mathlib.Omega.{arith}
use lib.ListN.{length, get_or, take, drop, get_or-append}
use lib.Seq.{ext_get_or, get_or-append-add, get_or-drop, get_or-take}
use Rattle.lists.proofs.Laws.{upto_length, run_fits}
use Rattle.color.specs.declared.Pixel.{Pixel}
use Rattle.raster.specs.Surface.{bytes_of, run, raster, pixel_in, pixel_of}

pub run_length : (n : ℕ) (f : ℕ → Pixel) → length (run n f) ≡ n * 4
run_length n f = upto_length 4 n (λ i. bytes_of (f i)) (λ k. refl)

pub raster_length : (w h : ℕ) (f : ℕ → ℕ → Pixel) → length (raster w h f) ≡ h * (w * 4)
raster_length w h f = upto_length (w * 4) h (λ y. run w (λ x. f x y)) (λ y. run_length w (λ x. f x y))

-- ---- the pixels of two lists joined, and of a part
module _ (p q : List ℕ) where
  read_after : (j k : ℕ) → j ≡ length p + k → get_or (p ++ q) j 0 ≡ get_or q k 0
  read_after j k e = rw (e, get_or-append-add p q k 0)

  pub pixel_before_lem : (n i : ℕ) → length p ≡ n * 4 → i < n → pixel_in (p ++ q) i ≡ pixel_in p i
  pixel_before_lem n i e h =
      rw (
        get_or-append p q 0 (i * 4) (omega arith),
        get_or-append p q 0 (i * 4 + 1) (omega arith),
        get_or-append p q 0 (i * 4 + 2) (omega arith),
        get_or-append p q 0 (i * 4 + 3) (omega arith),
      )

  pub pixel_after : (n i j : ℕ) → length p ≡ n * 4 → j ≡ n + i → pixel_in (p ++ q) j ≡ pixel_in q i
  pixel_after n i j e h =
      rw (
        read_after (j * 4) (i * 4) (omega arith),
        read_after (j * 4 + 1) (i * 4 + 1) (omega arith),
        read_after (j * 4 + 2) (i * 4 + 2) (omega arith),
        read_after (j * 4 + 3) (i * 4 + 3) (omega arith),
      )

pub pixel_take : (s : List ℕ) (n i : ℕ) → i < n → pixel_in (take (n * 4) s) i ≡ pixel_in s i
pixel_take s n i h =
    rw (
      get_or-take (n * 4) s (i * 4) 0 (omega arith),
      get_or-take (n * 4) s (i * 4 + 1) 0 (omega arith),
      get_or-take (n * 4) s (i * 4 + 2) 0 (omega arith),
      get_or-take (n * 4) s (i * 4 + 3) 0 (omega arith),
    )

read_drop : (s : List ℕ) (n i j : ℕ) → j ≡ n + i → get_or (drop n s) i 0 ≡ get_or s j 0
read_drop s n i j e = rw (get_or-drop n s i 0, e)

pub pixel_drop : (s : List ℕ) (n i j : ℕ) → j ≡ n + i → pixel_in (drop (n * 4) s) i ≡ pixel_in s j
pixel_drop s n i j e =
    rw (
      read_drop s (n * 4) (i * 4) (j * 4) (omega arith),
      read_drop s (n * 4) (i * 4 + 1) (j * 4 + 1) (omega arith),
      read_drop s (n * 4) (i * 4 + 2) (j * 4 + 2) (omega arith),
      read_drop s (n * 4) (i * 4 + 3) (j * 4 + 3) (omega arith),
    )

-- ---- what a run and a raster hold
pub run_at : (n : ℕ) (f : ℕ → Pixel) (i : ℕ) → i < n → pixel_in (run n f) i ≡ f i
run_at zero f i h = absurd (not-suc-le-zero h)
run_at (suc n) f i h =
    ⊎_elim (λ e. rw e (pixel_after (run n f) (bytes_of (f n)) n 0 n (run_length n f) (omega arith)))
    (λ l. pixel_before_lem (run n f) (bytes_of (f n)) n i (run_length n f) l ∙ run_at n f i l)
    (eq-or-lt_of_le (le_of_suc-le-suc h))

pub raster_at : (w h : ℕ) (f : ℕ → ℕ → Pixel) (x y : ℕ) → x < w → y < h → pixel_of w (raster w h f) x y ≡ f x y
raster_at w zero f x y l m = absurd (not-suc-le-zero m)
raster_at w (suc h) f x y l m =
    ⊎_elim
    (λ e. rw e (pixel_after (raster w h f) (run w (λ x. f x h)) (h * w) x (h * w + x) (raster_length w h f ∙ omega arith) refl ∙ run_at w (λ x. f x h) x l))
    (λ k. pixel_before_lem (raster w h f) (run w (λ x. f x h)) (h * w) (y * w + x) (raster_length w h f ∙ omega arith) (omega (arith, run_fits w y h k))
    ∙ raster_at w h f x y l k)
    (eq-or-lt_of_le (le_of_suc-le-suc m))

-- ---- lists with the same pixels are the same
channel : (s t : List ℕ) (i c j : ℕ) → c < 4 → j ≡ i * 4 + c → pixel_in s i ≡ pixel_in t i → get_or s j 0 ≡ get_or t j 0
channel s t i zero j h e p = rw (e, add-zero (i * 4)) (ap (λ (q : Pixel). q.r) p)
channel s t i (suc zero) j h e p = rw e (ap (λ (q : Pixel). q.g) p)
channel s t i (suc (suc zero)) j h e p = rw e (ap (λ (q : Pixel). q.b) p)
channel s t i (suc (suc (suc zero))) j h e p = rw e (ap (λ (q : Pixel). q.a) p)
channel s t i (suc (suc (suc (suc c)))) j h e p = absurd (omega arith)

pub pixels_same : (s t : List ℕ) (n : ℕ) → length s ≡ n * 4 → length t ≡ n * 4 → ((i : ℕ) → i < n → pixel_in s i ≡ pixel_in t i) → s ≡ t
pixels_same s t n a b h =
    ext_get_or 0 s t (a ∙ sym b) (λ j l. channel s t (j / 4) (j % 4) j (omega arith) (omega arith) (h (j / 4) (omega arith)))

positive : (w h i : ℕ) → i < h * w → 0 < w
positive zero h i l = omega arith
positive (suc w) h i l = omega arith

pub surface_same : (w h : ℕ) (s t : List ℕ) → length s ≡ h * (w * 4) → length t ≡ h * (w * 4)
    → ((x y : ℕ) → x < w → y < h → pixel_of w s x y ≡ pixel_of w t x y) → s ≡ t
surface_same w h s t a b k =
    pixels_same s t (h * w) (a ∙ omega arith) (b ∙ omega arith)
    (λ i l.
    let z : 0 < w = positive w h i l in
    let e : i / w * w + i % w ≡ i = div-add-mod' i w in
    rw e at (k (i % w) (i / w) (mod-lt i z) ((div-lt_iff_lt-mul z).1 l)))
