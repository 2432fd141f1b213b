-- What the search for a free line has found so far, and at its end.
use mathlib.Core.Path.{◌≡◌, refl, sym, ◌∙◌}
use mathlib.Core.Bool.{Bool, true, false, cond, true≢false}
use Prim.Native.Nat.{ℕ}
use lib.Dec.{ltb}
use Rattle.lists.specs.Lists.{tab}
use Rattle.std.specs.Prelude.{Option, None, Some, IfSome}
use Rattle.rect.specs.declared.Rect.{Rect}
use Rattle.rect.specs.Rects.{smallest}
use Rattle.rect.proofs.Laws.{Wide}
use Rattle.planner.specs.declared.cuts.Cut.{Cut}
use Rattle.planner.specs.Cuts.{opens, better_of}
use Rattle.planner.specs.Tilings.{Searched, Opening}
use Rattle.planner.proofs.Lines.{opens_true, free_end}

-- ---- the better of two cuts is one of them, and there is one where one is
of_cond : (P : Cut → Type 0) (t : Bool) (a b : Cut) → P a → P b → P (cond t b a)
of_cond P true a b p q = q
of_cond P false a b p q = p

pub of_better : (P : Cut → Type 0) (a b : Option Cut) → IfSome a P → IfSome b P → IfSome (better_of a b) P
of_better P None b p q = q
of_better P (Some a) None p q = p
of_better P (Some a) (Some b) p q = of_cond P (ltb a.saved b.saved) a b p q

better_none : (a b : Option Cut) → better_of a b ≡ None → (a ≡ None) × (b ≡ None)
better_none None b h = (refl, h)
better_none (Some a) None h = cc
better_none (Some a) (Some b) h = cc

better_found : (a : Option Cut) (b : Cut) → better_of a (Some b) ≡ None → ⊥
better_found None b h = cc
better_found (Some a) b h = cc

-- ---- columns and rows
pub opening_found : (m : ℕ) (boxes : ℕ → Rect) (area : Rect) → area ≡ smallest (tab m boxes) → Wide area → (a b r : Option Cut)
    → Searched m boxes area true m a → Searched m boxes area false m b → r ≡ better_of a b → Opening m boxes area r
opening_found m boxes area is wide a b r s t e =
    rw e (record {
      yes = of_better (λ c. opens m boxes area c.upright c.at ≡ true) a b (found_at true a s.yes) (found_at false b t.yes);
      no = λ h upright c o. absent upright c o (better_none a b h);
    })
  where
    found_at : (upright : Bool) (q : Option Cut) → IfSome q (λ c. (c.upright ≡ upright) × (opens m boxes area upright c.at ≡ true))
        → IfSome q (λ c. opens m boxes area c.upright c.at ≡ true)
    found_at upright None h = tt
    found_at upright (Some c) h = rw h.0 h.1

    nowhere : (upright : Bool) (q : Option Cut) → Searched m boxes area upright m q → q ≡ None → (c : ℕ) → opens m boxes area upright c ≡ true → ⊥
    nowhere upright q v f c o =
        let l = opens_true m boxes area upright c o in
        free_end m boxes area is wide upright c l.0 l.1.0 l.1.1 (λ k j w. true≢false (sym w ∙ v.no f k j))

    absent : (upright : Bool) (c : ℕ) → opens m boxes area upright c ≡ true → (a ≡ None) × (b ≡ None) → ⊥
    absent true c o n = nowhere true a s n.0 c o
    absent false c o n = nowhere false b t n.1 c o
