-- A run of numbers laid into a list: what is read of it, what is stored into it.
use mathlib.Core.Path.{◌≡◌, refl, sym, ap, ap₂, ◌∙◌}
use mathlib.Core.List.{List, [], ◌∷◌, ◌++◌}
use mathlib.Core.Bool.{Bool, cond}
use Prim.Native.Nat.{ℕ, zero, suc, ◌+◌, ◌≤◌, ◌<◌}
use native.Mathlib.Omega.{arith}
use native.Mathlib.Nat.{suc-add, zero-add}
use native.Mathlib.Decide.{ℕ_discrete}
use lib.Dec.{eqb}
use borrow.Author.Tests.{eq-eqb, ne_eqb}
use lib.IntN.{ℤ, pos, ◌+ℤ◌, +ℤ_idr}
use lib.ListN.{length, get_or, set, take, drop, length-set, get_or-append}
use lib.Seq.{length-take-le, get_or-append-add, get_or-take, get_or-set_same, get_or-set_other, set-append_left, take_at, drop_at}
use Rattle.lists.specs.Lists.{tab}
use Rattle.lists.proofs.Laws.{tab_length, tab_at, tab_ext, upto_same}
use Rattle.coverage.specs.Scanline.{laid}

set_append_right : {A : Type 0} (xs ys : List A) (n : ℕ) (a : A) → set (xs ++ ys) (length xs + n) a ≡ xs ++ set ys n a
set_append_right [] ys n a = rw zero-add
set_append_right (x ∷ xs) ys n a = rw (suc-add, set_append_right xs ys n a)

pub set_again : {A : Type 0} (xs : List A) (n : ℕ) (a : A) → set (set xs n a) n a ≡ set xs n a
set_again {A} [] n a = refl
set_again {A} (x ∷ xs) zero a = refl
set_again {A} (x ∷ xs) (suc n) a = ap (λ (t : List A). x ∷ t) (set_again xs n a)

module _ (b m : ℕ) (l q : List ℤ) (h : b + m ≤ length l) (e : length q ≡ m) where
  front : length (take b l) ≡ b
  front = length-take-le b l (omega arith)

  pub laid_before : (j : ℕ) (d : ℤ) → j < b → get_or (laid b m l q) j d ≡ get_or l j d
  laid_before j d k = get_or-append (take b l) (q ++ drop m (drop b l)) d j (rw front k) ∙ get_or-take b l j d k

  pub laid_at : (p : ℕ) (d : ℤ) → p < m → get_or (laid b m l q) (b + p) d ≡ get_or q p d
  laid_at p d k =
      ap (λ (n : ℕ). get_or (laid b m l q) (n + p) d) (sym front)
      ∙ get_or-append-add (take b l) (q ++ drop m (drop b l)) p d ∙ get_or-append q (drop m (drop b l)) d p (rw e k)

  pub laid_set : (p : ℕ) (a : ℤ) → p < m → set (laid b m l q) (b + p) a ≡ laid b m l (set q p a)
  laid_set p a k =
      ap (λ (n : ℕ). set (laid b m l q) (n + p) a) (sym front)
      ∙ set_append_right (take b l) (q ++ drop m (drop b l)) p a ∙ ap (λ (t : List ℤ). take b l ++ t) (set-append_left q (drop m (drop b l)) p a (rw e k))

  -- the part that is lent, and the list with another part given back
  pub laid_part : take m (drop b (laid b m l q)) ≡ q
  laid_part = ap (take m) (drop_at (take b l) (q ++ drop m (drop b l)) b front) ∙ take_at q (drop m (drop b l)) m e

  pub laid_again : (r : List ℤ) → laid b m (laid b m l q) r ≡ laid b m l r
  laid_again r =
      ap₂ (λ (s t : List ℤ). s ++ (r ++ drop m t)) (take_at (take b l) (q ++ drop m (drop b l)) b front) (drop_at (take b l) (q ++ drop m (drop b l)) b front)
      ∙ ap (λ (t : List ℤ). take b l ++ (r ++ t)) (drop_at q (drop m (drop b l)) m e)

-- a number added to one of a table
pub tab_bump : (m : ℕ) (f : ℕ → ℤ) (p : ℕ) (v : ℤ) → p < m → set (tab m f) p (f p +ℤ v) ≡ tab m (λ j. f j +ℤ cond (eqb p j) v (pos 0))
tab_bump m f p v h =
    tab_ext (pos 0) (set (tab m f) p (f p +ℤ v)) m (λ j. f j +ℤ cond (eqb p j) v (pos 0)) (length-set (tab m f) p (f p +ℤ v) ∙ tab_length m f)
    (λ k l. by k l (ℕ_discrete k p))
  where
    by : (k : ℕ) → k < m → Dec (k ≡ p) → get_or (set (tab m f) p (f p +ℤ v)) k (pos 0) ≡ f k +ℤ cond (eqb p k) v (pos 0)
    by k l (yes e) =
        ap (λ (n : ℕ). get_or (set (tab m f) p (f p +ℤ v)) n (pos 0)) e ∙ get_or-set_same (tab m f) p (f p +ℤ v) (pos 0) (rw (tab_length m f) h)
        ∙ ap₂ (λ (n : ℕ) (t : Bool). f n +ℤ cond t v (pos 0)) (sym e) (sym (eq-eqb p k (sym e)))
    by k l (no d) =
        get_or-set_other (tab m f) p k (f p +ℤ v) (pos 0) d ∙ tab_at m f k (pos 0) l
        ∙ sym (ap (λ (t : Bool). f k +ℤ cond t v (pos 0)) (ne_eqb p k (λ q. d (sym q))) ∙ +ℤ_idr (f k))

pub tab_same : {A : Type 0} (n : ℕ) (f g : ℕ → A) → ((k : ℕ) → k < n → f k ≡ g k) → tab n f ≡ tab n g
tab_same n f g h = upto_same n (λ k. f k ∷ []) (λ k. g k ∷ []) (λ k m. ap (λ x. x ∷ []) (h k m))
