-- Lists whose first n bytes are the same, and the bytes of a draw where they stand in its file.
use mathlib.Core.Path.{◌≡◌, refl, sym, ap, ap₂, ◌∙◌}
use mathlib.Core.List.{List, ◌++◌}
use mathlib.Core.Bool.{Bool, true, false, ◌&&◌}
use Prim.Native.Nat.{ℕ, zero, suc, ◌+◌, ◌*◌, ◌≤◌, ◌<◌}
use native.Mathlib.Omega.{arith}
use native.Mathlib.Numerals.{add-one}
use lib.ListN.{length, get_or, take, drop, length-append, length-drop, get_or-append}
use lib.Seq.{length-take-le, get_or-append-add, get_or-take, get_or-drop}
use lib.Dec.{eqb, ltb}
use borrow.Author.Tests.{ltb-true, ltb-false}
use Rattle.lists.specs.Lists.{upto}
use Rattle.scene.specs.Layout.{block_bytes, payload_bytes, draw_blocks}
use Rattle.scene.specs.Blocks.{block_of, draw_of, same_to}

pub same_more : (a b : List ℕ) (i : ℕ) → same_to a b (i + 1) ≡ (same_to a b i && eqb (get_or a i 0) (get_or b i 0))
same_more a b i = rw add-one

-- ---- payloads joined: n of them
joined_length : (n : ℕ) (f : ℕ → List ℕ) → ((k : ℕ) → k < n → length (f k) ≡ payload_bytes) → length (upto n f) ≡ payload_bytes * n
joined_length zero f h = omega arith
joined_length (suc n) f h = length-append (upto n f) (f n) ∙ omega (arith, joined_length n f (λ k l. h k (omega arith)), h n (omega arith))

joined_at : (n : ℕ) (f : ℕ → List ℕ) → ((k : ℕ) → k < n → length (f k) ≡ payload_bytes) → (j k : ℕ) → j < n → k < payload_bytes
    → get_or (upto n f) (payload_bytes * j + k) 0 ≡ get_or (f j) k 0
joined_at zero f h j k l g = absurd (omega (arith, l))
joined_at (suc n) f h j k l g = by (ltb j n) refl (λ m. joined_at n f (λ i r. h i (omega arith)) j k m g)
  where
    long : length (upto n f) ≡ payload_bytes * n
    long = joined_length n f (λ i m. h i (omega arith))

    by : (t : Bool) → ltb j n ≡ t → (j < n → get_or (upto n f) (payload_bytes * j + k) 0 ≡ get_or (f j) k 0)
        → get_or (upto n f ++ f n) (payload_bytes * j + k) 0 ≡ get_or (f j) k 0
    by true q less =
        let m : j < n = ltb-true j n q in get_or-append (upto n f) (f n) 0 (payload_bytes * j + k) (omega (arith, long)) ∙ less m
    by false q less =
        let e : n ≡ j = omega (arith, ltb-false j n q, l) in
        let p : payload_bytes * j + k ≡ length (upto n f) + k = omega (arith, long) in
        ap (λ (x : ℕ). get_or (upto n f ++ f n) x 0) p ∙ get_or-append-add (upto n f) (f n) k 0 ∙ ap (λ (x : ℕ). get_or (f x) k 0) e

-- a byte of a draw where it stands in the file
draw_byte : (s : List ℕ) (i j k : ℕ) → block_bytes * block_of (i + 1) ≤ length s → j < draw_blocks → k < payload_bytes
    → get_or (draw_of s i) (payload_bytes * j + k) 0 ≡ get_or s (block_bytes * (block_of i + j) + k) 0
unfolding draw_of
draw_byte s i j k h l g =
    joined_at draw_blocks f long j k l g ∙ get_or-take payload_bytes (drop (block_bytes * (block_of i + j)) s) k 0 g
    ∙ get_or-drop (block_bytes * (block_of i + j)) s k 0
  where
    f : ℕ → List ℕ
    f j = take payload_bytes (drop (block_bytes * (block_of i + j)) s)

    long : (k : ℕ) → k < draw_blocks → length (f k) ≡ payload_bytes
    long k l = length-take-le payload_bytes (drop (block_bytes * (block_of i + k)) s) (omega (arith, length-drop (block_bytes * (block_of i + k)) s))

-- one byte more of two draws
pub draw_more : (s t : List ℕ) (i j k : ℕ) → block_bytes * block_of (i + 1) ≤ length s → block_bytes * block_of (i + 1) ≤ length t → j < draw_blocks
    → k < payload_bytes
    → (same_to (draw_of s i) (draw_of t i) (payload_bytes * j + k)
    && eqb (get_or s (block_bytes * (block_of i + j) + k) 0) (get_or t (block_bytes * (block_of i + j) + k) 0))
    ≡ same_to (draw_of s i) (draw_of t i) (payload_bytes * j + (k + 1))
draw_more s t i j k h g l m =
    let e : payload_bytes * j + k + 1 ≡ payload_bytes * j + (k + 1) = omega arith in
    ap₂ (λ (x y : ℕ). same_to (draw_of s i) (draw_of t i) (payload_bytes * j + k) && eqb x y) (sym (draw_byte s i j k h l m)) (sym (draw_byte t i j k g l m))
    ∙ sym (same_more (draw_of s i) (draw_of t i) (payload_bytes * j + k)) ∙ ap (same_to (draw_of s i) (draw_of t i)) e
