-- Runs of pixels: stored one after the other, or a part at a time, over what stands in a list of bytes.
use mathlib.Core.Path.{◌≡◌, refl, sym, ap, ◌∙◌}
use mathlib.Core.List.{List, ◌++◌, append_assoc, append-nil}
use Prim.Native.Nat.{ℕ, zero, suc, ◌+◌, ◌-◌, ◌*◌, ◌≤◌, ◌<◌}
use native.Mathlib.Nat.{add-zero, add-suc}
use native.Mathlib.Omega.{arith}
use lib.ListN.{length, take, drop}
use lib.Seq.{drop_at}
use Rattle.lists.specs.Lists.{over}
use Rattle.lists.proofs.Laws.{emit_four, emit_all, emit_length, over_part, upto_same}
use Rattle.color.specs.declared.Pixel.{Pixel}
use Rattle.raster.specs.Surface.{bytes_of, run, pixel_in}
use Rattle.raster.specs.Rows.{put_pixel, Stored}
use Rattle.raster.proofs.Pixels.{run_length, run_at, pixel_after, pixel_take, pixel_drop, pixels_same}

pub run_same : (n : ℕ) (f g : ℕ → Pixel) → ((i : ℕ) → i < n → f i ≡ g i) → run n f ≡ run n g
run_same n f g h = upto_same n (λ i. bytes_of (f i)) (λ i. bytes_of (g i)) (λ i l. ap bytes_of (h i l))

-- a list whose pixels are f's is f's run
pub run_is : (n : ℕ) (f : ℕ → Pixel) (s : List ℕ) → length s ≡ n * 4 → ((i : ℕ) → i < n → pixel_in s i ≡ f i) → s ≡ run n f
run_is n f s e h = pixels_same s (run n f) n e (run_length n f) (λ i l. h i l ∙ sym (run_at n f i l))

-- ---- one pixel after the other: before the first, a turn, and after the last
pub stored_none : (f : ℕ → Pixel) (d : List ℕ) → Stored f d 0 d
stored_none f d = record { long = refl; same = refl }

module _ {f : ℕ → Pixel} {d s : List ℕ} {i : ℕ} (o : Stored f d i s) where
  pub stored_turn : (t : List ℕ) (p : Pixel) → t ≡ put_pixel s i p → p ≡ f i → i * 4 + 3 < length d → Stored f d (i + 1) t
  stored_turn t p q e l =
      let g : ℕ → List ℕ = λ k. bytes_of (f k) in
      let same : t ≡ over (run (i + 1) f) d =
      q ∙ emit_four g s d i (i * 4) (i + 1) p.r p.g p.b p.a (λ n. refl) (ap bytes_of (sym e)) o.same refl refl l in
      record { long = emit_length 4 g t d (i + 1) (λ n. refl) same (omega arith); same = same }

  pub stored_all : (n : ℕ) → i ≡ n → length d ≡ n * 4 → s ≡ run n f
  stored_all n e l = emit_all 4 (λ k. bytes_of (f k)) s d i n (λ k. refl) o.same e (sym l)

  -- the pixel after those is as it was
  pub stored_read : pixel_in s i ≡ pixel_in d i
  stored_read =
      rw (o.same, run_length i f)
      (pixel_after (run i f) (drop (i * 4) d) i 0 i (run_length i f) (omega arith) ∙ pixel_drop d i 0 i (omega arith))

-- a turn where the pixel is made from what stood there by g
pub stored_step : (g : ℕ → Pixel → Pixel) {d s : List ℕ} {i : ℕ} → Stored (λ j. g j (pixel_in d j)) d i s → (t : List ℕ) (p : Pixel)
    → t ≡ put_pixel s i p → p ≡ g i (pixel_in s i) → i * 4 + 3 < length d → Stored (λ j. g j (pixel_in d j)) d (i + 1) t
stored_step g {i = i} o t p q e l = stored_turn o t p q (e ∙ ap (g i) (stored_read o)) l

-- ---- a part from i to e at a time
run_append : (f : ℕ → Pixel) (n m : ℕ) → run n f ++ run m (λ j. f (n + j)) ≡ run (n + m) f
run_append f n zero = append-nil (run n f) ∙ rw add-zero
run_append f n (suc m) = rw (← append_assoc, run_append f n m, add-suc)

module _ {f : ℕ → Pixel} {d s : List ℕ} {i : ℕ} (o : Stored f d i s) where
  -- the part that is lent holds what stood there
  pub part_pixel : (e j : ℕ) → j < e - i → pixel_in (take (e * 4 - i * 4) (drop (i * 4) s)) j ≡ pixel_in d (i + j)
  part_pixel e j h =
      let w : e * 4 - i * 4 ≡ (e - i) * 4 = omega arith in
      let r : drop (i * 4) s ≡ drop (i * 4) d =
      rw (o.same, drop_at (run i f) (drop (length (run i f)) d) (i * 4) (run_length i f), run_length i f) in
      rw (w, r) (pixel_take (drop (i * 4) d) (e - i) j h ∙ pixel_drop d i j (i + j) refl)

  -- and is given back as q
  pub stored_part : (q : List ℕ) (e : ℕ) → i ≤ e → e * 4 ≤ length d → q ≡ run (e - i) (λ j. f (i + j))
      → Stored f d e (take (i * 4) s ++ (q ++ drop (e * 4 - i * 4) (drop (i * 4) s)))
  stored_part q e h l g =
      let w : length q ≡ e * 4 - i * 4 = ap length g ∙ run_length (e - i) (λ j. f (i + j)) ∙ omega arith in
      let a : i + (e - i) ≡ e = omega arith in
      let same : take (i * 4) s ++ (q ++ drop (e * 4 - i * 4) (drop (i * 4) s)) ≡ over (run e f) d =
      rw o.same (over_part (run i f) d q (i * 4) (e * 4 - i * 4) (run_length i f) w (omega arith) ∙ rw (g, run_append f i (e - i), a)) in
      record { long = emit_length 4 (λ k. bytes_of (f k)) _ d e (λ n. refl) same l; same = same }
