-- `runs::collect` meets its contract.
use mathlib.Core.Path.{◌≡◌, refl, sym, ap, subst, ◌∙◌}
use mathlib.Core.List.{List, ◌++◌}
use Prim.Native.Nat.{ℕ, ◌-◌, ◌≤◌, ◌<◌}
use native.Mathlib.Omega.{arith}
use lib.ListN.{length, get_or, replicate}
use Rattle.lists.specs.Lists.{tab}
use Rattle.lists.proofs.Laws.{tab_ext}
use Rattle.runs.specs.Runs.{expand, Runs}
use Rattle.runs.proofs.Expand.{tab_run}
use Rattle.runs.proofs.collect.Goals as goal

-- one run more
more : (row : List ℕ) (i e k : ℕ) (s t : List ℕ) → i < e → ((j : ℕ) → i ≤ j → j < e → get_or row j 0 ≡ k) → t ≡ tab i (λ j. get_or row j 0)
    → s ≡ t ++ replicate (e - i) k → s ≡ tab e (λ j. get_or row j 0)
more row i e k s t g h a b = b ∙ ap (λ (l : List ℕ). l ++ replicate (e - i) k) a ∙ tab_run (λ j. get_or row j 0) i e k (omega arith) h

pub loop-i-preserved : goal.loop-i-preserved
loop-i-preserved c =
    let row = c.args.row.now in
    let i = c.loop-i.i in (
      omega arith,
      c.push-n.ensures.runs_2.1 ∙ c.loop-i.invariant.1,
      c.push-n.ensures.runs_2.0,
      more row i c.alike-e.result (get_or row i 0) _ (expand c.loop-i.runs c.loop-i.n) c.alike-e.ensures.lower_bound.0
          c.alike-e.ensures.by_index c.loop-i.invariant.3 c.push-n.ensures.result_after,
    )

pub returns : goal.returns
returns c =
    let row = c.args.row.now in
    let e : c.loop-i.i ≡ length row = omega arith in
    record {
      runs = (subst (λ (w : ℕ). Runs c.loop-i.runs c.loop-i.n w) e c.loop-i.invariant.2, c.loop-i.invariant.1);
      result_after = c.loop-i.invariant.3
          ∙ sym (tab_ext 0 row c.loop-i.i (λ (j : ℕ). get_or row j 0) (sym e) (λ j l. refl));
    }
