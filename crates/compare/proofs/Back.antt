-- A row's text read back is the row.
use mathlib.Core.Path.{◌≡◌, refl, sym, ap, ◌∙◌}
use mathlib.Core.Bool.{Bool, true≢false}
use mathlib.Core.List.{List}
use mathlib.Core.Logic.{⊎_elim}
use Prim.Native.Nat.{ℕ, zero, suc, ◌+◌, ◌*◌, ◌/◌, ◌%◌, ◌<◌}
use native.Mathlib.Nat.{eq-or-lt_of_le, le_of_suc-le-suc, not-suc-le-zero}
use native.Mathlib.Omega.{arith}
use lib.Dec.{ltb}
use lib.ListN.{length, get_or, get_or-append}
use lib.Seq.{get_or-append-add}
use borrow.Author.Tests.{ltb-true, ltb-false, le-leb, lt-leb, le-ltb}
use Rattle.lists.specs.Lists.{upto}
use Rattle.lists.proofs.Laws.{upto_length, run_fits, tab_ext}
use Rattle.rect.proofs.Laws.{either}
use Rattle.text.specs.Text.{hex_digit, cell_text, row_text}
use Rattle.std.specs.Bool.{Decides}
use Rattle.compare.specs.Texts.{digit_value, byte_read, row_bytes, Row, RowRead}

-- ---- digits
digit_back : (d : ℕ) → d < 16 → digit_value (hex_digit d) ≡ d
unfolding digit_value
digit_back d l =
    either (ltb d 10)
    (λ t. let h = ltb-true d 10 t in rw (t, le-ltb (48 + d) 48 (omega arith), le-leb (48 + d) 57 (omega arith)) (omega arith))
    (λ t.
    let h = ltb-false d 10 t in
    rw (
      t,
      le-ltb (87 + d) 48 (omega arith),
      lt-leb (87 + d) 57 (omega arith),
      le-ltb (87 + d) 97 (omega arith),
      le-leb (87 + d) 102 (omega arith),
    ) (omega arith))

byte_back : (b : ℕ) → b < 256 → digit_value (hex_digit (b / 16)) * 16 + digit_value (hex_digit (b % 16)) ≡ b
byte_back b l = rw (digit_back (b / 16) (omega arith), digit_back (b % 16) (omega arith)) (omega arith)

-- ---- lists of m elements each, one behind another
upto_at : (m n : ℕ) (f : ℕ → List ℕ) → ((k : ℕ) → length (f k) ≡ m) → (x k i : ℕ) → x < n → k < m → i ≡ x * m + k → get_or (upto n f) i 0 ≡ get_or (f x) k 0
upto_at m zero f h x k i l b e = absurd (not-suc-le-zero l)
upto_at m (suc n) f h x k i l b e =
    let long = upto_length m n f h in
    ⊎_elim
    (λ q.
    let at : i ≡ length (upto n f) + k = e ∙ ap (λ j. j + k) (ap (λ y. y * m) q ∙ sym long) in
    rw (at, q) (get_or-append-add (upto n f) (f n) k 0))
    (λ q.
    let r = run_fits m x n q in
    let t : i < length (upto n f) = omega arith in
    get_or-append (upto n f) (f n) 0 i t ∙ upto_at m n f h x k i q b e)
    (eq-or-lt_of_le (le_of_suc-le-suc l))

-- ---- a row of n pixels and its text
module _ (n : ℕ) (s : List ℕ) (row : Row n s) where
  cell : (x k i : ℕ) → x < n → k < 9 → i ≡ x * 9 + k → get_or (row_text n s) i 0 ≡ get_or (cell_text n s x) k 0
  unfolding row_text
  cell x k i l b e = upto_at 9 n (cell_text n s) (λ x. refl) x k i l b e

  -- channel c of pixel x
  channel : (x c j : ℕ) → x < n → c < 4 → j / 4 ≡ x → j % 4 ≡ c → byte_read (row_text n s) j ≡ get_or s (x * 4 + c) 0
  channel x zero j l b e f =
      let z : x * 4 + 0 ≡ x * 4 = omega arith in
      rw (cell x 0 (j / 4 * 9 + j % 4 * 2) l (omega arith) (omega arith), cell x 1 (j / 4 * 9 + j % 4 * 2 + 1) l (omega arith) (omega arith), z)
      (byte_back (get_or s (x * 4) 0) (row.bytes (x * 4)))
  channel x (suc zero) j l b e f =
      rw (cell x 2 (j / 4 * 9 + j % 4 * 2) l (omega arith) (omega arith), cell x 3 (j / 4 * 9 + j % 4 * 2 + 1) l (omega arith) (omega arith))
      (byte_back (get_or s (x * 4 + 1) 0) (row.bytes (x * 4 + 1)))
  channel x (suc (suc zero)) j l b e f =
      rw (cell x 4 (j / 4 * 9 + j % 4 * 2) l (omega arith) (omega arith), cell x 5 (j / 4 * 9 + j % 4 * 2 + 1) l (omega arith) (omega arith))
      (byte_back (get_or s (x * 4 + 2) 0) (row.bytes (x * 4 + 2)))
  channel x (suc (suc (suc zero))) j l b e f =
      rw (cell x 6 (j / 4 * 9 + j % 4 * 2) l (omega arith) (omega arith), cell x 7 (j / 4 * 9 + j % 4 * 2 + 1) l (omega arith) (omega arith))
      (byte_back (get_or s (x * 4 + 3) 0) (row.bytes (x * 4 + 3)))
  channel x (suc (suc (suc (suc c)))) j l b e f = absurd (omega arith)

  pub row_back : row_bytes n (row_text n s) ≡ s
  unfolding row_bytes
  row_back =
      sym (tab_ext 0 s (n * 4) (byte_read (row_text n s)) row.long
      (λ j l.
      let e : j ≡ j / 4 * 4 + j % 4 = omega arith in
      ap (λ i. get_or s i 0) e ∙ sym (channel (j / 4) (j % 4) j (omega arith) (omega arith) refl refl)))

-- what is printed again tells whether a text is that of a row
pub row_read : (n : ℕ) (t out again : List ℕ) (r : Bool) → out ≡ row_bytes n t → again ≡ row_text n out → Decides r (t ≡ again) → RowRead n t out r
row_read n t out again r e f h =
    record {
      right = λ q. h.0 q ∙ f;
      wrong = λ q s row g. true≢false (sym (h.1 (g ∙ sym (f ∙ ap (row_text n) (e ∙ ap (row_bytes n) g ∙ row_back n s row)))) ∙ q);
    }
