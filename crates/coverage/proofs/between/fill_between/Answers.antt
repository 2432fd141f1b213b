-- `coverage::between::fill_between` meets its contract: the pixels before the columns, among the first of them, between, among the last of them, and
-- behind. Assumes nothing.
use mathlib.Core.Path.{◌≡◌, refl, ap, ap₂, subst, ◌∙◌}
use mathlib.Core.List.{List, ◌++◌}
use Prim.Native.Nat.{ℕ, ◌-◌, ◌≤◌, ◌<◌, max}
use native.Mathlib.Omega.{arith}
use lib.ListN.{length, replicate}
use Rattle.lists.specs.Lists.{tab}
use Rattle.runs.specs.Runs.{expand}
use Rattle.runs.proofs.Expand.{tab_run}
use Rattle.coverage.specs.Between.{level_at}
use Rattle.coverage.proofs.Paired.{first_within, ends_rise, end_within, level_before, level_between, level_behind}
use Rattle.coverage.proofs.between.fill_between.Goals as goal
use Rattle.coverage.proofs.between.fill_between.Tie as tie
use Rattle.coverage.proofs.between.fill_between.Lts as lts
use Rattle.coverage.proofs.between.fill_between.Reads as reads

-- pixels that are covered alike, after those before them
grown : (f : ℕ → ℕ) (r q : List ℕ) (p e k : ℕ) → r ≡ tab p f → q ≡ r ++ replicate (e - p) k → p ≤ e
    → ((i : ℕ) → p ≤ i → i < e → f i ≡ k) → q ≡ tab e f
grown f r q p e k h g l o = g ∙ ap (λ (s : List ℕ). s ++ replicate (e - p) k) h ∙ tab_run f p e k l o

abbrev level : (c : goal.After-push-arg-1) → ℕ → ℕ
level c = level_at c.args.lo c.args.hi

-- the four places
abbrev a : (c : goal.After-push-arg-1) → ℕ
a c = c.first_of-a.result

abbrev b : (c : goal.After-push-arg-1) → ℕ
b c = c.end_of-b.result

abbrev e : (c : goal.After-push-arg-1) → ℕ
e c = c.max-e.result

abbrev d : (c : goal.After-push-arg-1) → ℕ
d c = c.end_of-d.result

order : (c : goal.After-push-arg-1) → ((a c) ≤ (b c)) × ((b c) ≤ (e c)) × ((e c) ≤ (d c)) × ((d c) ≤ c.args.w)
order c =
    let lo = c.args.lo in
    let hi = c.args.hi in
    let w = c.args.w in
    let o = c.requires.0 in
    let is-a = c.first_of-a.ensures in
    let is_b = c.end_of-b.ensures in
    let is_f = c.first_of.ensures in
    let is-e = c.max-e.ensures in
    let is-d = c.end_of-d.ensures in (
      omega (arith, is-a, is_b, first_within lo),
      omega (arith, is-e),
      omega (arith, is_b, is_f, is-e, is-d, first_within hi, ends_rise lo hi w o),
      omega (arith, is-d, end_within lo hi w o),
    )

before : (c : goal.After-push-arg-1) → (i : ℕ) → 0 ≤ i → i < (a c) → (level c) i ≡ 0
before c i g h =
    let is-a = c.first_of-a.ensures in
    level_before c.args.lo c.args.hi c.args.w c.requires.0 i g (subst (λ (m : ℕ). i < m) is-a h)

between : (c : goal.After-push-arg-1) → (i : ℕ) → (b c) ≤ i → i < (e c) → (level c) i ≡ 16
between c i g h =
    let is_b = c.end_of-b.ensures in
    let is-e = c.max-e.ensures ∙ ap₂ max is_b c.first_of.ensures in
    level_between c.args.lo c.args.hi c.args.w c.requires.0 i (subst (λ (m : ℕ). m ≤ i) is_b g)
    (subst (λ (m : ℕ). i < m) is-e h)

behind : (c : goal.After-push-arg-1) → (i : ℕ) → (d c) ≤ i → i < c.args.w → (level c) i ≡ 0
behind c i g = level_behind c.args.lo c.args.hi c.args.w c.requires.0 i (subst (λ (m : ℕ). m ≤ i) c.end_of-d.ensures g)

-- the runs after each step
one : (c : goal.After-push_each-arg-1) → expand c.push-n.new.runs c.push-n.result ≡ tab (a c.before.before.before.before) (level c.before.before.before.before)
one c = grown (level c.before.before.before.before) _ _ 0 (a c.before.before.before.before) 0 refl c.push-n.ensures.result_after (omega arith)
    (before c.before.before.before.before)

three : (c : goal.After-push_each-arg-2-1)
    → expand c.push-q.new.runs c.push-q.result ≡ tab (e c.before.before.before.before.before.before.before.before.before.before.before.before)
    (level c.before.before.before.before.before.before.before.before.before.before.before.before)
three c =
    grown (level c.before.before.before.before.before.before.before.before.before.before.before.before) _ _
    (b c.before.before.before.before.before.before.before.before.before.before.before.before)
    (e c.before.before.before.before.before.before.before.before.before.before.before.before) 16 c.push_each-m.ensures.result_after
    c.push-q.ensures.result_after (order c.before.before.before.before.before.before.before.before.before.before.before.before).1
    (between c.before.before.before.before.before.before.before.before.before.before.before.before)

-- and how long they are
long-each : (c : goal.After-push-arg-2-1) → length c.push_each-m.new.runs ≡ length c.args.runs.now
long-each c = c.push_each-m.ensures.runs_2.1 ∙ c.push-n.ensures.runs_2.1

long-push2 : (c : goal.After-push_each-arg-2-1) → length c.push-q.new.runs ≡ length c.args.runs.now
long-push2 c = c.push-q.ensures.runs_2.1 ∙ long-each c.before.before.before.before

long-each2 : (c : goal.After-push-arg-3-1)
    → length c.push_each-r.new.runs ≡ length c.args.runs.now
long-each2 c = c.push_each-r.ensures.runs_2.1 ∙ long-push2 c.before.before.before.before

long-push3 : (c : lts.After-push3 tie.the-claims reads.Pre reads.Post tie.handed_clauses)
    → length c.push.new.runs ≡ length c.args.runs.now
long-push3 c = c.push.ensures.runs_2.1 ∙ long-each2 c.before

pub end_of-b-requires : goal.end_of-b-requires
end_of-b-requires c =
    let p = c.requires in
    let o = p.0 in (
      omega (arith, o.a.0, o.a.1, p.1),
      omega (arith, o.b.0, o.b.1, p.1),
      omega (arith, o.c.0, o.c.1, p.1),
      omega (arith, o.d.0, o.d.1, p.1),
    )

pub end_of-d-requires : goal.end_of-d-requires
end_of-d-requires c =
    let p = c.requires in
    let o = p.0 in
    (omega (arith, o.a.1, p.1), omega (arith, o.b.1, p.1), omega (arith, o.c.1, p.1), omega (arith, o.d.1, p.1))

pub push-n-requires : goal.push-n-requires
push-n-requires c =
    let o = order c in
    let p = c.requires in
    record {
      runs = record { rises = λ j h. absurd (omega (arith, h)); last = refl };
      p_le_e = (
        omega arith,
        omega (arith, o.0, o.1, o.2, o.3, p.2),
        omega (arith, o.0, o.1, o.2, o.3, p.1),
        omega arith,
      );
    }

pub push_each-m-requires : goal.push_each-m-requires
push_each-m-requires c =
    let o = order c.before.before.before.before in
    let p = c.requires in
    let push = c.push-n.ensures in
    record { runs = (push.runs_2.0, o.0, omega (arith, o.1, o.2, o.3, p.2, push.runs_2.1), omega (arith, o.1, o.2, o.3, p.1)); n_value = one c }

pub push-q-requires : goal.push-q-requires
push-q-requires c =
    let o = order c.before.before.before.before.before.before.before.before in
    let p = c.requires in
    record { runs = c.push_each-m.ensures.runs_2.0; p_le_e = (o.1, omega (arith, o.2, o.3, p.2, long-each c), omega (arith, o.2, o.3, p.1), omega arith) }

pub push_each-r-requires : goal.push_each-r-requires
push_each-r-requires c =
    let o = order c.before.before.before.before.before.before.before.before.before.before.before.before in
    let p = c.requires in
    record { runs = (c.push-q.ensures.runs_2.0, o.2, omega (arith, o.3, p.2, long-push2 c), omega (arith, o.3, p.1)); n_value = three c }

pub push-requires : goal.push-requires
push-requires c =
    let o = order c.before.before.before.before.before.before.before.before.before.before.before.before.before.before.before.before in
    let p = c.requires in
    record { runs = c.push_each-r.ensures.runs_2.0; p_le_e = (o.3, omega (arith, p.2, long-each2 c), omega (arith, p.1), omega arith) }

pub shape_of-runs : goal.shape_of-runs
shape_of-runs c =
    long-push3 c.before.before.before

pub returns : goal.returns
returns c =
    record {
      runs = (c.push.ensures.runs_2.0, long-push3 c.before.before.before);
      result_after = grown (level
          c.before.before.before.before.before.before.before.before.before.before.before.before.before.before.before.before.before.before.before.before) _ _
          (d c.before.before.before.before.before.before.before.before.before.before.before.before.before.before.before.before.before.before.before.before)
          c.args.w 0 c.push_each-r.ensures.result_after c.push.ensures.result_after
          (order
          c.before.before.before.before.before.before.before.before.before.before.before.before.before.before.before.before.before.before.before.before).3
          (behind
          c.before.before.before.before.before.before.before.before.before.before.before.before.before.before.before.before.before.before.before.before);
    }
