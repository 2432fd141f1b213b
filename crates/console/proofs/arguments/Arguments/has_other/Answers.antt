-- `Arguments::has_other` meets its contract: what `any` found is another argument, or none is one.
use mathlib.Core.Path.{refl}
use Rattle.std.proofs.Common.{arith, rules, tests}
use Rattle.std.proofs.lemmas.Iterator.{cases_from_any, YieldsList-from_range}
use Rattle.console.proofs.Found.{Hit, other_is}
use Rattle.console.proofs.arguments.Arguments.has_other.Goals as goal

pub returns : goal.returns
returns c =
    let a = c.args in
    let ws = a.self.now.all.items in
    let hit = Hit ws a.i a.word.now in
    other_is ws a.i a.word.now _ _ _
    (cases_from_any _ _ _ hit (λ k. hit k → ⊥) c.any.ensures.ran (YieldsList-from_range _ _ _ refl refl)
    (λ k q h. search (rules, tests)) (λ k q h. search (rules, tests)))
    (omega arith) (omega arith) (search rules)
