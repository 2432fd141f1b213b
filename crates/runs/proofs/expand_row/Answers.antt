use mathlib.Core.Path.{◌≡◌, refl, sym, ap, subst, ◌∙◌}
use mathlib.Core.List.{List, ◌++◌}
use Prim.Native.Nat.{ℕ, suc, ◌+◌, ◌-◌, ◌≤◌, ◌<◌}
use native.Mathlib.Omega.{arith}
use lib.ListN.{length, take, drop, replicate}
use Rattle.lists.specs.Lists.{over}
use Rattle.lists.proofs.Laws.{over_all, over_length, part_length}
use Rattle.runs.specs.Runs.{expand, start_of, end_of, level_of, Runs}
use Rattle.runs.proofs.Expand.{runs_length, runs_within, laid_run, first_length}
use Rattle.runs.proofs.expand_row.Goals as goal

pub slice_bounds-fill-end : goal.slice_bounds-fill-end
slice_bounds-fill-end c =
    omega (arith, c.loop-j.invariant.1, runs_within c.args.runs.now c.args.n (length c.args.row.now) c.requires.0 c.loop-j.j c.loop-j-test.true)

pub loop-j-preserved : goal.loop-j-preserved
loop-j-preserved c =
    let runs = c.args.runs.now in
    let d = c.args.row.now in
    let j = c.loop-j.j in
    let l : j < c.args.n = c.loop-j-test.true in
    let r = c.requires.0 in
    let one : j + 1 ≡ suc j = omega arith in
    let laid =
    put runs c.args.n d r j l c.loop-j.a c.loop-j.row c.fill.new.self c.loop-j.invariant.0 c.loop-j.invariant.1
    c.loop-j.invariant.2 (c.fill.ensures.after (λ y e. e))
    in
    let next : j + 1 ≤ c.args.n = omega arith in (
      sym (ap (start_of runs) one),
      ap length laid
          ∙ over_length (expand runs (j + 1)) d
          (subst (λ (m : ℕ). m ≤ length d) (sym (first_length runs c.args.n (length d) r (j + 1) next
          ∙ ap (start_of runs) one)) (runs_within c.args.runs.now c.args.n (length c.args.row.now) c.requires.0 j l)),
      laid,
    )
  where
    put : (runs : List ℕ) (n : ℕ) (d : List ℕ) → Runs runs n (length d) → (j : ℕ) → j < n → (a : ℕ) (s q : List ℕ) → a ≡ start_of runs j → length s ≡ length d
        → s ≡ over (expand runs j) d → q ≡ replicate (length (take (end_of runs j - a) (drop a s))) (level_of runs j)
        → take a s ++ (q ++ drop (end_of runs j - a) (drop a s)) ≡ over (expand runs (j + 1)) d
    put runs n d r j l a s q e k o g =
        subst (λ (x : ℕ). take x s ++ (q ++ drop (end_of runs j - x) (drop x s)) ≡ over (expand runs (j + 1)) d) (sym e)
        (laid_run runs n (length d) r j l s d q refl o
        (g ∙ ap (λ (m : ℕ). replicate m (level_of runs j)) (part ∙ ap (λ (x : ℕ). end_of runs j - x) e)))
      where
        part : length (take (end_of runs j - a) (drop a s)) ≡ end_of runs j - a
        part = part_length s a (end_of runs j) (omega (arith, r.rises j l)) (omega (arith, runs_within runs n (length d) r j l))

pub returns : goal.returns
returns c =
    let runs = c.args.runs.now in
    let d = c.args.row.now in
    let e : c.loop-j.j ≡ c.args.n = omega arith in
    subst (λ (m : ℕ). c.loop-j.row ≡ over (expand runs m) d) e c.loop-j.invariant.2
    ∙ over_all (expand runs c.args.n) d (runs_length runs c.args.n (length d) c.requires.0)
