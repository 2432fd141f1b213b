use mathlib.Core.Path.{◌≡◌, sym, subst}
use mathlib.Core.List.{List, ◌++◌}
use Prim.Native.Nat.{ℕ, ◌+◌, ◌-◌, ◌*◌, ◌<◌, ◌≤◌}
use native.Mathlib.Omega.{arith}
use lib.ListN.{length, set, replicate, length-set}
use Rattle.runs.specs.Runs.{expand, level_of, Runs}
use Rattle.runs.proofs.Expand.{runs_few, push_runs, push_expand, merge_runs, merge_expand}
use Rattle.runs.proofs.push.Goals as goal

-- the last run made longer
longer_runs : (runs : List ℕ) (n p e k : ℕ) → Runs runs n p → 0 < n → p < e → k < 32 → n ≤ length runs
    → Runs (set runs (n - 1) (e * 32 + k)) n e
longer_runs runs n p e k r z l g f =
    let one : n - 1 + 1 ≡ n = omega arith in
    let r' : Runs runs (n - 1 + 1) p = subst (λ (m : ℕ). Runs runs m p) (sym one) r in
    subst (λ (m : ℕ). Runs (set runs (n - 1) (e * 32 + k)) m e) one (merge_runs runs (n - 1) p r' e k g l (omega arith))

longer_expand : (runs : List ℕ) (n p e k : ℕ) → Runs runs n p → 0 < n → p < e → k < 32 → n ≤ length runs → level_of runs (n - 1) ≡ k
    → expand (set runs (n - 1) (e * 32 + k)) n ≡ expand runs n ++ replicate (e - p) k
longer_expand runs n p e k r z l g f q =
    let one : n - 1 + 1 ≡ n = omega arith in
    let r' : Runs runs (n - 1 + 1) p = subst (λ (m : ℕ). Runs runs m p) (sym one) r in
    subst (λ (m : ℕ). expand (set runs (n - 1) (e * 32 + k)) m ≡ expand runs m ++ replicate (e - p) k) one
    (merge_expand runs (n - 1) p r' e k g l (omega arith) q)

pub returns-then-extends : goal.returns-then-extends
returns-then-extends c =
    let a = c.args in
    let x = c.extends.ensures c.if-extends.true in
    let l : a.p < a.e = omega (arith, c.requires.p_le_e, c.if-p-e.false) in
    let g : a.k < 32 = omega (arith, c.requires.p_le_e) in
    let f : a.n ≤ length a.runs.now = omega (arith, runs_few a.runs.now a.n a.p c.requires.runs, c.requires.p_le_e) in
    record {
      runs_2 = (longer_runs a.runs.now a.n a.p a.e a.k c.requires.runs x.0 l g f, length-set a.runs.now (a.n - 1) (a.e * 32 + a.k));
      result_after = longer_expand a.runs.now a.n a.p a.e a.k c.requires.runs x.0 l g f x.1;
    }

pub bounds-runs-n-2 : goal.bounds-runs-n-2
bounds-runs-n-2 c =
    omega (arith, runs_few c.args.runs.now c.args.n c.args.p c.requires.runs, c.requires.p_le_e, c.if-p-e.false)

pub returns : goal.returns
returns c =
    let a = c.args in
    let l : a.p < a.e = omega (arith, c.requires.p_le_e, c.if-p-e.false) in
    let m : a.n < length a.runs.now = omega (arith, runs_few c.args.runs.now c.args.n c.args.p c.requires.runs, c.requires.p_le_e) in
    let g : a.k < 32 = omega (arith, c.requires.p_le_e) in
    record {
      runs_2 = (push_runs a.runs.now a.n a.p c.requires.runs a.e a.k g l m, length-set a.runs.now a.n (a.e * 32 + a.k));
      result_after = push_expand a.runs.now a.n a.p c.requires.runs a.e a.k g m;
    }
