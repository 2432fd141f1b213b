-- The context keeps the first code other than 0 among the calls since it was last asked for.
use mathlib.Core.Path.{◌≡◌, refl, sym, ap, ap₂, ◌∙◌}
use mathlib.Core.List.{List, [], ◌∷◌, ◌++◌}
use mathlib.Core.Bool.{Bool, true, false, cond}
use Prim.Native.Nat.{ℕ}
use lib.Dec.{eqb}
use borrow.Author.Tests.{eqb-true}
use Rattle.context.specs.declared.Context.{Context}
use Rattle.context.specs.Context.{keep, noted, fresh, first_code, noted_all, Event, called, asked, given, firsts}

pub keep_none : (n : ℕ) → keep n 0 ≡ n
keep_none n = by (eqb n 0) refl
  where
    by : (t : Bool) → eqb n 0 ≡ t → cond t 0 n ≡ n
    by true e = sym (eqb-true n 0 e)
    by false e = refl

pub keep_assoc : (a b c : ℕ) → keep (keep a b) c ≡ keep a (keep b c)
keep_assoc a b c = by (eqb a 0) refl
  where
    by : (t : Bool) → eqb a 0 ≡ t → keep (cond t b a) c ≡ cond t (keep b c) a
    by true e = refl
    by false e = rw e

pub first_of_both : (xs ys : List ℕ) → first_code (xs ++ ys) ≡ keep (first_code xs) (first_code ys)
first_of_both [] ys = refl
first_of_both (x ∷ xs) ys = ap (keep x) (first_of_both xs ys) ∙ sym (keep_assoc x (first_code xs) (first_code ys))

-- calls one after another keep the first code other than 0
pub noted_all_lem : (c : Context) (codes : List ℕ) → noted_all c codes ≡ noted c (first_code codes)
noted_all_lem c [] = ap (λ (n : ℕ). record { code = n }) (sym (keep_none c.code))
noted_all_lem c (code ∷ codes) = noted_all_lem (noted c code) codes ∙ ap (λ (n : ℕ). record { code = n }) (keep_assoc c.code code (first_code codes))

-- asking after them gives it
pub asking_gives_first : (codes : List ℕ) → (noted_all fresh codes).code ≡ first_code codes
asking_gives_first codes = ap (λ (c : Context). c.code) (noted_all_lem fresh codes)

-- among any calls and askings, each asking gives the first code other than 0 since the last
pub each_asking_gives_first : (events : List Event) (c : Context) (since : List ℕ) → c.code ≡ first_code since → given c events ≡ firsts since events
each_asking_gives_first [] c since e = refl
each_asking_gives_first (called code ∷ events) c since e =
    each_asking_gives_first events (noted c code) (since ++ (code ∷ []))
    (ap (λ (n : ℕ). keep n code) e ∙ ap (keep (first_code since)) (sym (keep_none code)) ∙ sym (first_of_both since (code ∷ [])))
each_asking_gives_first (asked ∷ events) c since e = ap₂ (λ (n : ℕ) (l : List ℕ). n ∷ l) e (each_asking_gives_first events fresh [] refl)

pub every_asking_gives_first : (events : List Event) → given fresh events ≡ firsts [] events
every_asking_gives_first events = each_asking_gives_first events fresh [] refl
