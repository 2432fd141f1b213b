-- Zeros after the edges.
use mathlib.Core.Path.{◌≡◌, sym, ap, ◌∙◌}
use mathlib.Core.List.{List, [], ◌∷◌, ◌++◌, append_assoc, append-nil}
use Prim.Native.Nat.{ℕ, zero, suc, ◌+◌, ◌*◌, ◌-◌, ◌≤◌}
use native.Mathlib.Omega.{arith}
use native.Mathlib.Nat.{add-suc, add-zero}
use lib.IntN.{ℤ, pos}
use lib.ListN.{length, replicate, take, drop, length-take, length-drop, take-append-drop}
use lib.Seq.{get_or-drop}
use Rattle.std.proofs.lemmas.List.{length-replicate, get_or-replicate}
use Rattle.lists.specs.Lists.{tab}
use Rattle.lists.proofs.Laws.{tab_length, tab_at, tab_ext}
use Rattle.coverage.specs.Scanline.{laid, zeros}

-- a list of one element throughout is a table of it
pub filled : {A : Type 0} (n : ℕ) (a : A) → replicate n a ≡ tab n (λ j. a)
filled n a = tab_ext a (replicate n a) n (λ j. a) (length-replicate n a) (λ k h. get_or-replicate n k a a h)

zeros_drop : (k n : ℕ) → drop k (zeros n) ≡ zeros (n - k)
zeros_drop k n =
    tab_ext (pos 0) (drop k (zeros n)) (n - k) (λ j. pos 0) (length-drop k (zeros n) ∙ ap (λ (z : ℕ). z - k) (tab_length n (λ j. pos 0)))
    (λ j h. get_or-drop k (zeros n) j (pos 0) ∙ tab_at n (λ j. pos 0) (k + j) (pos 0) (omega arith))

pub zeros_join : (m k : ℕ) → zeros m ++ zeros k ≡ zeros (m + k)
zeros_join m zero = append-nil (zeros m) ∙ ap zeros (sym (add-zero m))
zeros_join m (suc k) =
    sym (append_assoc (zeros m) (zeros k) (pos 0 ∷ [])) ∙ ap (λ (t : List ℤ). t ++ (pos 0 ∷ [])) (zeros_join m k) ∙ ap zeros (sym (add-suc m k))

zeros_split : (m t : ℕ) → m ≤ t → zeros t ≡ zeros m ++ drop m (zeros t)
zeros_split m t l = sym (ap (λ (u : List ℤ). zeros m ++ u) (zeros_drop m t) ∙ zeros_join m (t - m) ∙ ap zeros (whole m t l))
  where
    whole : (m t : ℕ) → m ≤ t → m + (t - m) ≡ t
    whole m t l = omega arith

-- the first m numbers after the edges are zeros
pub clear_laid : (l : List ℤ) (n m : ℕ) → n * 4 + m ≤ length l → drop (n * 4) l ≡ zeros (length l - n * 4) → l ≡ laid (n * 4) m l (zeros m)
clear_laid l n m h c =
    sym (take-append-drop (n * 4) l)
    ∙ ap (λ (t : List ℤ). take (n * 4) l ++ t) (c ∙ zeros_split m (length l - n * 4) (omega arith) ∙ ap (λ (t : List ℤ). zeros m ++ drop m t) (sym c))

-- a part of m numbers lent and given back as zeros
pub part_zeroed : (l z : List ℤ) (b m : ℕ) → b + m ≤ length l → z ≡ zeros (length (take (b + m - b) (drop b l)))
    → take b l ++ (z ++ drop (b + m - b) (drop b l)) ≡ laid b m l (zeros m)
part_zeroed l z b m h e =
    let w : b + m - b ≡ m = omega arith in
    let n : length (take m (drop b l)) ≡ m = simp (length-take, length-drop) (omega arith) in
    rw (e, w, n)
