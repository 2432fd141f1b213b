-- Numbers laid out over 16 pixels, and rows that are made by them byte by byte.
use mathlib.Core.Path.{◌≡◌, refl, sym, ap, ◌∙◌}
use mathlib.Core.List.{List, ◌++◌}
use Prim.Native.Nat.{ℕ, zero, suc, ◌+◌, ◌-◌, ◌*◌, ◌%◌, ◌≤◌, ◌<◌}
use native.Mathlib.Omega.{arith}
use lib.IntN.{ℤ, pos, nat_abs, ◌+ℤ◌, ◌*ℤ◌, +ℤ_assoc}
use lib.ListN.{length, get_or, take, drop}
use Rattle.lists.specs.Lists.{tab}
use Rattle.lists.proofs.Laws.{tab_length, tab_at}
use Rattle.fixed.specs.Floor.{floor_div}
use Rattle.fixed.proofs.Within.{Within, within_pos, within_add, within_mul}
use Rattle.color.specs.declared.Pixel.{Pixel}
use Rattle.raster.specs.Surface.{run, pixel_in}
use Rattle.raster.specs.Rows.{Stored}
use Rattle.raster.proofs.Runs.{run_is, run_same, stored_part, part_pixel}
use Rattle.transform.specs.declared.FixedTransform.{FixedTransform}
use Rattle.transform.specs.Transforms.{byte_in, transform_channel, transform_channels}
use Rattle.transform.specs.Bytewise.{AllWithin, addend, laid, scales_of, addends_of}

-- ---- what is laid out for a byte
-- the channels' numbers in order
abbrev of_channel : ℤ → ℤ → ℤ → ℤ → ℕ → ℤ
of_channel r g b a zero = r
of_channel r g b a (suc zero) = g
of_channel r g b a (suc (suc zero)) = b
of_channel r g b a (suc (suc (suc c))) = a

module _ (r g b a : ℤ) where
  laid_tab : laid r g b a ≡ tab 64 (λ j. of_channel r g b a (j % 4))
  unfolding laid
  laid_tab = refl

  pub laid_length : length (laid r g b a) ≡ 64
  laid_length = ap length laid_tab ∙ tab_length 64 (λ j. of_channel r g b a (j % 4))

  laid_at : (j : ℕ) → j < 64 → get_or (laid r g b a) j (pos 0) ≡ of_channel r g b a (j % 4)
  laid_at j h = ap (λ (s : List ℤ). get_or s j (pos 0)) laid_tab ∙ tab_at 64 (λ j. of_channel r g b a (j % 4)) j (pos 0) h

  pub laid_within : (n : ℕ) → AllWithin n r g b a → (j : ℕ) → j < 64 → nat_abs (get_or (laid r g b a) j (pos 0)) ≤ n
  laid_within n w j h = rw (laid_at j h) (each (j % 4))
    where
      each : (c : ℕ) → nat_abs (of_channel r g b a c) ≤ n
      each zero = w.0
      each (suc zero) = w.1
      each (suc (suc zero)) = w.2
      each (suc (suc (suc c))) = w.3

pub addend_within : (b : ℤ) → nat_abs b ≤ 256 → nat_abs (addend b) ≤ 65408
addend_within b h =
    let w : Within 256 b = record { size = h } in
    (within_add (within_mul (within_pos 255) w) (within_pos 128)).size

-- ---- bytes made by the numbers that are laid out
abbrev pub byte_at : List ℤ → List ℤ → List ℕ → ℕ → ℕ
byte_at scales addends d j = byte_in (floor_div (pos (get_or d j 0) *ℤ get_or scales j (pos 0) +ℤ get_or addends j (pos 0)) 256)

channel_is : (s b : ℤ) (c : ℕ) → byte_in (floor_div (pos c *ℤ s +ℤ addend b) 256) ≡ transform_channel s b c
unfolding transform_channel
channel_is s b c = ap (λ (z : ℤ). byte_in (floor_div z 256)) (sym (+ℤ_assoc (pos c *ℤ s) (pos 255 *ℤ b) (pos 128)))

abbrev pixel_by : (ℕ → ℕ) → ℕ → Pixel
pixel_by f i = record { r = f (i * 4); g = f (i * 4 + 1); b = f (i * 4 + 2); a = f (i * 4 + 3) }

bytes_are_pixels : (n : ℕ) (f : ℕ → ℕ) (g : ℕ → Pixel) → ((i : ℕ) → i < n → pixel_by f i ≡ g i) → tab (n * 4) f ≡ run n g
bytes_are_pixels n f g h =
    run_is n g (tab (n * 4) f) (tab_length (n * 4) f)
    (λ i l.
    rw (
      tab_at (n * 4) f (i * 4) 0 (omega arith),
      tab_at (n * 4) f (i * 4 + 1) 0 (omega arith),
      tab_at (n * 4) f (i * 4 + 2) 0 (omega arith),
      tab_at (n * 4) f (i * 4 + 3) 0 (omega arith),
    ) (h i l))

module _ (t : FixedTransform) (d : List ℕ) where
  channel_at : (j c : ℕ) → j < 64 → j % 4 ≡ c
      → byte_at (scales_of t) (addends_of t) d j
      ≡ byte_in (floor_div (pos (get_or d j 0) *ℤ of_channel t.sr t.sg t.sb t.sa c
      +ℤ of_channel (addend t.br) (addend t.bg) (addend t.bb) (addend t.ba) c) 256)
  channel_at j c h e =
      rw (laid_at t.sr t.sg t.sb t.sa j h, laid_at (addend t.br) (addend t.bg) (addend t.bb) (addend t.ba) j h, e)

  pub laid_bytes : (n : ℕ) → n ≤ 16 → tab (n * 4) (byte_at (scales_of t) (addends_of t) d) ≡ run n (λ i. transform_channels t (pixel_in d i))
  laid_bytes n m =
      bytes_are_pixels n (byte_at (scales_of t) (addends_of t) d) (λ i. transform_channels t (pixel_in d i))
      (λ i l k. record {
        r = (channel_at (i * 4) 0 (omega arith) (omega arith) ∙ channel_is t.sr t.br (get_or d (i * 4) 0)) k;
        g = (channel_at (i * 4 + 1) 1 (omega arith) (omega arith) ∙ channel_is t.sg t.bg (get_or d (i * 4 + 1) 0)) k;
        b = (channel_at (i * 4 + 2) 2 (omega arith) (omega arith) ∙ channel_is t.sb t.bb (get_or d (i * 4 + 2) 0)) k;
        a = (channel_at (i * 4 + 3) 3 (omega arith) (omega arith) ∙ channel_is t.sa t.ba (get_or d (i * 4 + 3) 0)) k;
      })

-- ---- a turn of a loop that has f done at every pixel: a part is lent, and f is done at every pixel of it
pub part_turn : (f : Pixel → Pixel) {d s : List ℕ} {i : ℕ} → Stored (λ j. f (pixel_in d j)) d i s → (q : List ℕ) (e : ℕ) → i ≤ e → e * 4 ≤ length d
    → q ≡ run (e - i) (λ j. f (pixel_in (take (e * 4 - i * 4) (drop (i * 4) s)) j))
    → Stored (λ j. f (pixel_in d j)) d e (take (i * 4) s ++ (q ++ drop (e * 4 - i * 4) (drop (i * 4) s)))
part_turn f {d} {s} {i} o q e a b u =
    stored_part o q e a b (u ∙ run_same (e - i) _ (λ j. f (pixel_in d (i + j))) (λ j l. ap f (part_pixel o e j l)))
