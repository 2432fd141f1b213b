-- `words::mix_ts` meets its contract.
use Rattle.std.proofs.Common.{◌≡◌, ℕ, List, length, get_or, ap, ◌∙◌, subst, arith}
use Rattle.lists.specs.Lists.{tab}
use Rattle.paint.specs.Segments.{Bytes, mix_pair}
use Rattle.paint.proofs.Pairs.{mixed_planes, joined_words}
use Rattle.paint.proofs.words.mix_ts.Goals as goal
use Rattle.paint.proofs.words.mix_ts.Tie as tie
use Rattle.paint.proofs.words.mix_ts.Lts as lts
use Rattle.paint.proofs.words.mix_ts.Reads as reads

first-bytes : (c : goal.After-join-arg-1) → Bytes c.args.c
first-bytes c = (omega arith, omega arith, omega arith, omega arith)

last-bytes : (c : goal.After-join-arg-1) → Bytes c.args.d
last-bytes c = (omega arith, omega arith, omega arith, omega arith)

right-long : (c : lts.Start tie.the-claims reads.Pre reads.Post) → length c.args.right.now ≡ length c.args.ws.now
right-long c = ap length c.requires.1 ∙ c.requires.2

pub mix_pairs-requires : goal.mix_pairs-requires
mix_pairs-requires c =
    omega (arith, c.requires.2, c.requires.3)

pub mix_pairs-requires-2 : goal.mix_pairs-requires-2
mix_pairs-requires-2 c =
    omega (arith, right-long c.before.before.before.before.before.before.before.before.before, c.requires.3)

pub join-requires : goal.join-requires
join-requires c =
    let left = c.mix_pairs.auto.ts in
    let right = c.mix_pairs-2.auto.ts in
    (left ∙ c.requires.2, right ∙ right-long c.before.before.before.before.before.before.before.before.before.before.before.before, c.requires.3)

pub returns : goal.returns
returns c =
    let a = c.args in
    let left = c.mix_pairs in
    let right = c.mix_pairs-2 in
    let second =
    subst
    (λ (ts : List ℕ). right.new.ts ≡ tab (length ts) (λ i. mix_pair a.c.b a.d.b a.c.a a.d.a (get_or ts i 0)))
    c.requires.1 right.ensures in
    joined_words
    (mixed_planes a.c a.d a.left.now _ _ c.requires.0 (first-bytes c.before.before.before.before) (last-bytes c.before.before.before.before) left.ensures
    second)
    (length a.ws.now) _ c.requires.2 c.join.ensures
