-- `coverage::between::push_each` meets its contract. Assumes nothing.
use mathlib.Core.Path.{◌≡◌, refl, sym, ap, subst, ◌∙◌}
use mathlib.Core.List.{List, ◌++◌}
use Prim.Native.Nat.{ℕ, ◌+◌, ◌-◌, ◌≤◌, ◌<◌}
use native.Mathlib.Omega.{arith}
use lib.ListN.{replicate}
use Rattle.lists.specs.Lists.{tab}
use Rattle.runs.specs.Runs.{Runs}
use Rattle.runs.proofs.Expand.{tab_run}
use Rattle.coverage.specs.Between.{level_at}
use Rattle.coverage.proofs.between.push_each.Goals as goal

pub loop-i-init : goal.loop-i-init
loop-i-init c =
    let p = c.requires in (refl, p.runs.0, p.n_value)

pub level-requires : goal.level-requires
level-requires c =
    omega (arith, c.loop-i-test.true, c.requires.runs.3)

pub push-m-requires : goal.push-m-requires
push-m-requires c =
    let l = c.loop-i in
    let t = c.loop-i-test.true in
    record {
      runs = l.invariant.1;
      p_le_e = (
        omega arith,
        omega (arith, t, l.invariant.0, c.requires.runs.2),
        omega (arith, t, c.requires.runs.3),
        omega (arith, c.level.ensures.1),
      );
    }

pub loop-i-preserved : goal.loop-i-preserved
loop-i-preserved c =
    let push = c.push-m in
    let level = c.level in
    let a = c.args in
    let l = c.loop-i in
    let t = c.loop-i-test.true in
    let f : ℕ → ℕ = level_at a.lo a.hi in (
      push.ensures.runs_2.1 ∙ l.invariant.0,
      push.ensures.runs_2.0,
      push.ensures.result_after ∙ ap (λ (s : List ℕ). s ++ replicate (l.i + 1 - l.i) level.result) l.invariant.2
          ∙ tab_run f l.i (l.i + 1) level.result (omega arith)
          (λ j u v. ap f (only l.i j u v) ∙ sym level.ensures.0),
    )
  where
    only : (i j : ℕ) → i ≤ j → j < i + 1 → j ≡ i
    only i j u v = omega arith

pub shape_of-runs : goal.shape_of-runs
shape_of-runs c =
    c.loop-i.invariant.0

pub returns : goal.returns
returns c =
    let l = c.loop-i in
    let a = c.args in
    let e : l.i ≡ a.e = omega arith in
    record { runs_2 = (subst (Runs l.runs l.m) e l.invariant.1, l.invariant.0); result_after = l.invariant.2 ∙ ap (λ (n : ℕ). tab n (level_at a.lo a.hi)) e }
