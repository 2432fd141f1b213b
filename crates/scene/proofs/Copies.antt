-- Bytes copied in order, a part at a time.
use mathlib.Core.Path.{◌≡◌, sym, ap, ◌∙◌}
use mathlib.Core.List.{List, ◌++◌, append_assoc}
use Prim.Native.Nat.{ℕ, ◌+◌, ◌≤◌}
use native.Mathlib.Omega.{arith}
use lib.ListN.{length, take, drop, length-append, length-take, length-drop}
use lib.Seq.{length-take-le, take_at}
use Rattle.lists.specs.Lists.{upto}
use Rattle.lists.proofs.Laws.{upto_more}

-- the part f j, of m bytes, is stored at i after the parts before it
module _ {A : Type 0} (s q : List A) (i m w : ℕ) (fits : i + m ≤ length s) (wide : length q ≡ m) where
  pub part_kept : w ≡ m → length (take i s ++ (q ++ drop w (drop i s))) ≡ length s
  part_kept e = simp (length-append, length-take, length-drop) (omega arith)

  pub part_turn : (f : ℕ → List A) (j e : ℕ) → i + m ≡ e → take i s ≡ upto j f → q ≡ f j → take e (take i s ++ (q ++ drop w (drop i s))) ≡ upto (j + 1) f
  part_turn f j e n o h =
      sym (ap (take e) (append_assoc (take i s) q (drop w (drop i s))))
      ∙ take_at (take i s ++ q) (drop w (drop i s)) e (length-append (take i s) q ∙ rw (length-take-le i s (omega arith), wide) n)
      ∙ rw (o, h, upto_more)
