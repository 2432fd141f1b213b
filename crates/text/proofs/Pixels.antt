-- A pixel's text, stored byte by byte.
use mathlib.Core.Path.{◌≡◌, refl, sym, ◌∙◌}
use mathlib.Core.List.{List, [], ◌∷◌, ◌++◌}
use Prim.Native.Nat.{ℕ}
use native.Mathlib.Omega.{arith}
use lib.ListN.{length, set, take, length-set}
use Rattle.lists.proofs.Laws.{take_put, take_all_of}
use Rattle.color.specs.declared.Pixel.{Pixel}
use Rattle.text.specs.Text.{byte_text, pixel_text}

-- four bytes, each after those before it, and what follows them
pub stored_pixel_lem : (s t u v w : List ℕ) (p : Pixel) (z : ℕ) → take 2 t ≡ take 0 s ++ byte_text p.r → take 4 u ≡ take 2 t ++ byte_text p.g
    → take 6 v ≡ take 4 u ++ byte_text p.b → take 8 w ≡ take 6 v ++ byte_text p.a → length w ≡ 9 → set w 8 z ≡ pixel_text p ++ (z ∷ [])
stored_pixel_lem s t u v w p z a b c d l =
    sym (take_all_of (set w 8 z) 9 (simp length-set (omega arith))) ∙ rw (take_put w 8 9 z refl (omega arith), d, c, b, a)
