-- The laws of `upto`, `tab`, `over` and `total`.
use mathlib.Core.Path.{◌≡◌, refl, sym, ap, ◌∙◌}
use mathlib.Core.List.{List, [], ◌∷◌, ◌++◌, append_assoc, append-nil}
use Prim.Native.Nat.{ℕ, zero, suc, ◌+◌, ◌-◌, ◌*◌, ◌≤◌, ◌<◌}
use mathlib.Core.Logic.{⊎_elim}
use native.Mathlib.Nat.{suc-mul, mul-le-mul_right, eq-or-lt_of_le, le_of_suc-le-suc, not-suc-le-zero, add-zero}
use native.Mathlib.Numerals.{add-one}
use native.Mathlib.Omega.{arith}
use lib.ListN.{length, get_or, set, take, drop, length-append, length-drop, length-take, length-set, get_or-append}
use lib.Seq.{ext_get_or, get_or-append-add, get_or-drop, take-suc-set, take-length, get_or-set_same, get_or-set_other}
use lib.Seq.{set-append_seam, drop-cons, get_or_at, drop-length, take_at, drop_at, drop-drop}
use Rattle.lists.specs.Lists.{upto, tab, over, total}

module _ {A : Type 0} where
  pub upto_more : (n : ℕ) (f : ℕ → List A) → upto (n + 1) f ≡ upto n f ++ f n
  upto_more n f = rw add-one

  pub upto_length : (m n : ℕ) (f : ℕ → List A) → ((k : ℕ) → length (f k) ≡ m) → length (upto n f) ≡ n * m
  upto_length m zero f h = omega arith
  upto_length m (suc n) f h = rw (length-append, upto_length m n f h, h n, suc-mul)

  -- one element stored right after what is there
  pub over_put : (p d : List A) (i : ℕ) (a : A) → length p ≡ i → i < length d → set (over p d) i a ≡ over (p ++ (a ∷ [])) d
  over_put p d i a e l =
      let h : length p < length d = omega arith in
      rw (← e, drop-cons d (length p) a, set-append_seam, length-append, add-one, append_assoc)

  pub over_all : (p d : List A) → length p ≡ length d → over p d ≡ p
  over_all p d e = rw (e, drop-length, append-nil)

  pub over_length : (p d : List A) → length p ≤ length d → length (over p d) ≡ length d
  over_length p d h = simp (length-append, length-drop) (omega arith)

  -- four elements stored right after what is there
  pub over_four : (p d : List A) (i : ℕ) (a b c e : A) → length p ≡ i → i + 3 < length d
      → set (set (set (set (over p d) i a) (i + 1) b) (i + 2) c) (i + 3) e ≡ over (p ++ (a ∷ b ∷ c ∷ e ∷ [])) d
  over_four p d i a b c e q l =
      rw (
        over_put p d i a q (omega arith),
        over_put (p ++ (a ∷ [])) d (i + 1) b (simp length-append (omega arith)) (omega arith),
        over_put (p ++ (a ∷ []) ++ (b ∷ [])) d (i + 2) c (simp length-append (omega arith)) (omega arith),
        over_put (p ++ (a ∷ []) ++ (b ∷ []) ++ (c ∷ [])) d (i + 3) e (simp length-append (omega arith)) (omega arith),
        append_assoc (p ++ (a ∷ []) ++ (b ∷ [])),
        append_assoc (p ++ (a ∷ [])),
        append_assoc p,
      )

  -- a turn of a loop that stores the four elements of f k after the k lists before it
  pub emit_four : (f : ℕ → List A) (s d : List A) (k i j : ℕ) (a b c e : A) → ((n : ℕ) → length (f n) ≡ 4) → f k ≡ a ∷ b ∷ c ∷ e ∷ []
      → s ≡ over (upto k f) d → k * 4 ≡ i → k + 1 ≡ j → i + 3 < length d
      → set (set (set (set s i a) (i + 1) b) (i + 2) c) (i + 3) e ≡ over (upto j f) d
  emit_four f s d k i j a b c e h q o m n l =
      rw (o, over_four (upto k f) d i a b c e (upto_length 4 k f h ∙ m) l, ← q, ← n, upto_more)

  -- the end of such a loop: all is stored
  pub emit_all : (m : ℕ) (f : ℕ → List A) (s d : List A) (k n : ℕ) → ((n : ℕ) → length (f n) ≡ m) → s ≡ over (upto k f) d → k ≡ n → n * m ≡ length d
      → s ≡ upto n f
  emit_all m f s d k n h o e l = o ∙ rw e (over_all (upto n f) d (upto_length m n f h ∙ l))

  -- a part lent and given back right after what is there: the form is what the borrow checker's SliceBackPart gives
  pub over_part : (p d q : List A) (i k : ℕ) → length p ≡ i → length q ≡ k → i + k ≤ length d
      → take i (over p d) ++ (q ++ drop k (drop i (over p d))) ≡ over (p ++ q) d
  over_part p d q i k e f l = rw (take_at p (drop (length p) d) i e, drop_at p (drop (length p) d) i e, drop-drop, length-append, f, append_assoc)

  -- a turn of a loop that has the m elements of f k stored after the k lists before it, in a part that is lent
  pub emit_part : (m : ℕ) (f : ℕ → List A) (s d q : List A) (k i j w : ℕ) → ((n : ℕ) → length (f n) ≡ m) → q ≡ f k
      → s ≡ over (upto k f) d → k * m ≡ i → k + 1 ≡ j → w ≡ m → i + m ≤ length d
      → take i s ++ (q ++ drop w (drop i s)) ≡ over (upto j f) d
  emit_part m f s d q k i j w h g o a b e l =
      rw (o, e, over_part (upto k f) d q i m (upto_length m k f h ∙ a) (ap length g ∙ h k) l, g, ← b, upto_more)

  pub emit_length : (m : ℕ) (f : ℕ → List A) (s d : List A) (k : ℕ) → ((n : ℕ) → length (f n) ≡ m) → s ≡ over (upto k f) d → k * m ≤ length d
      → length s ≡ length d
  emit_length m f s d k h o l = ap length o ∙ over_length (upto k f) d (rw (upto_length m k f h) l)

  -- a part from i to e has e - i elements
  pub part_length : (s : List A) (i e : ℕ) → i ≤ e → e ≤ length s → length (take (e - i) (drop i s)) ≡ e - i
  part_length s i e a b = simp (length-take, length-drop) (omega arith)

-- the kth run of m stands within n such runs
pub run_fits : (m k n : ℕ) → k < n → k * m + m ≤ n * m
run_fits m k n h = rw (← suc-mul) (mul-le-mul_right m h)

-- a read before a store
pub get_d_set_before : {A : Type 0} (s : List A) (i j : ℕ) (a z : A) → j < i → get_or (set s i a) j z ≡ get_or s j z
get_d_set_before s i j a z h = get_or-set_other s i j a z (λ q. omega (arith, q))

-- four elements stored from i on: what is read before them, and what is read of them
module _ {A : Type 0} (l : List A) (i : ℕ) (a b c e z : A) where
  pub four_before : (j : ℕ) → j < i → get_or (set (set (set (set l i a) (i + 1) b) (i + 2) c) (i + 3) e) j z ≡ get_or l j z
  four_before j h =
      let h1 : j < i + 1 = omega arith in
      let h2 : j < i + 2 = omega arith in
      let h3 : j < i + 3 = omega arith in
      simp get_d_set_before

  pub four_each : i + 3 < length l → (get_or (set (set (set (set l i a) (i + 1) b) (i + 2) c) (i + 3) e) i z ≡ a)
      × (get_or (set (set (set (set l i a) (i + 1) b) (i + 2) c) (i + 3) e) (i + 1) z ≡ b)
      × (get_or (set (set (set (set l i a) (i + 1) b) (i + 2) c) (i + 3) e) (i + 2) z ≡ c)
      × (get_or (set (set (set (set l i a) (i + 1) b) (i + 2) c) (i + 3) e) (i + 3) z ≡ e)
  four_each h =
      let l0 : i < length l = omega arith in
      let l1 : i + 1 < length (set l i a) = simp length-set (omega arith) in
      let l2 : i + 2 < length (set (set l i a) (i + 1) b) = simp length-set (omega arith) in
      let l3 : i + 3 < length (set (set (set l i a) (i + 1) b) (i + 2) c) = simp length-set (omega arith) in
      let h1 : i < i + 1 = omega arith in
      let h2 : i < i + 2 = omega arith in
      let h3 : i < i + 3 = omega arith in
      let h4 : i + 1 < i + 2 = omega arith in
      let h5 : i + 1 < i + 3 = omega arith in
      let h6 : i + 2 < i + 3 = omega arith in (
        simp (get_d_set_before, get_or-set_same),
        simp (get_d_set_before, get_or-set_same),
        simp (get_d_set_before, get_or-set_same),
        simp
            (get_d_set_before, get_or-set_same),
      )

pub upto_same : {A : Type 0} (n : ℕ) (f g : ℕ → List A) → ((k : ℕ) → k < n → f k ≡ g k) → upto n f ≡ upto n g
upto_same zero f g h = refl
upto_same (suc n) f g h = rw (upto_same n f g (λ k m. h k (omega arith)), h n (omega arith))

pub total_same : (n : ℕ) (f g : ℕ → ℕ) → ((k : ℕ) → k < n → f k ≡ g k) → total n f ≡ total n g
total_same zero f g h = refl
total_same (suc n) f g h = rw (total_same n f g (λ k m. h k (omega arith)), h n (omega arith))

-- the element law of tab
pub tab_length : {A : Type 0} (n : ℕ) (f : ℕ → A) → length (tab n f) ≡ n
tab_length n f = upto_length 1 n (λ k. f k ∷ []) (λ k. refl) ∙ omega arith

pub tab_at : {A : Type 0} (n : ℕ) (f : ℕ → A) (j : ℕ) (d : A) → j < n → get_or (tab n f) j d ≡ f j
tab_at zero f j d h = absurd (not-suc-le-zero h)
tab_at (suc n) f j d h =
    ⊎_elim (λ e. rw e (get_or_at (tab n f) (f n) [] d n (tab_length n f)))
    (λ l. get_or-append (tab n f) (f n ∷ []) d j (rw tab_length l) ∙ tab_at n f j d l)
    (eq-or-lt_of_le (le_of_suc-le-suc h))

-- a list is the table of its elements
pub tab_ext : {A : Type 0} (d : A) (s : List A) (n : ℕ) (f : ℕ → A) → length s ≡ n → ((k : ℕ) → k < n → get_or s k d ≡ f k) → s ≡ tab n f
tab_ext d s n f e h =
    ext_get_or d s (tab n f) (e ∙ sym (tab_length n f))
    (λ k l. let m : k < n = omega arith in h k m ∙ sym (tab_at n f k d m))

-- a turn of a loop that stores f i at i
pub tab_turn : {A : Type 0} (f : ℕ → A) (s d : List A) (i : ℕ) (a : A) → a ≡ f i → s ≡ over (tab i f) d → i < length d → set s i a ≡ over (tab (i + 1) f) d
tab_turn f s d i a q o l = rw (o, over_put (tab i f) d i a (tab_length i f) l, q, add-one)

pub tab_all : {A : Type 0} (f : ℕ → A) (s d : List A) (i n : ℕ) → s ≡ over (tab i f) d → i ≡ n → n ≡ length d → s ≡ tab n f
tab_all f s d i n o e m = o ∙ rw e (over_all (tab n f) d (tab_length n f ∙ m))

-- the prefix form: what is stored is what stands before i; it names no list of before the loop
module _ {A : Type 0} where
  pub take_put : (s : List A) (i j : ℕ) (a : A) → i + 1 ≡ j → i < length s → take j (set s i a) ≡ take i s ++ (a ∷ [])
  take_put s i j a e h = rw (← e, add-one, take-suc-set s i a h)

  pub take_all_of : (s : List A) (i : ℕ) → i ≡ length s → take i s ≡ s
  take_all_of s i e = rw (e, take-length)

  -- the end of a loop that stores so
  pub take_end : (f : ℕ → List A) (s : List A) (i k n : ℕ) → take i s ≡ upto k f → i ≡ length s → k ≡ n → s ≡ upto n f
  take_end f s i k n o e q = sym (take_all_of s i e) ∙ o ∙ rw q

-- what is not stored yet is as it was
pub over_read : {A : Type 0} (p d : List A) (i : ℕ) (z : A) → length p ≡ i → get_or (over p d) i z ≡ get_or d i z
over_read p d i z e = rw (← e, ← add-zero (length p), get_or-append-add p, get_or-drop, add-zero, add-zero)

-- a turn of a loop that stores at i a function of what stood there
pub tab_read : {A : Type 0} (f : ℕ → A) (s d : List A) (i : ℕ) (z : A) → s ≡ over (tab i f) d → get_or s i z ≡ get_or d i z
tab_read f s d i z o = rw o (over_read (tab i f) d i z (tab_length i f))
