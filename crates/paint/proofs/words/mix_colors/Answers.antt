-- `words::mix_colors` meets its contract.
use Rattle.std.proofs.Common.{◌≡◌, ℕ, List, length, get_or, ap, subst, arith}
use Rattle.lists.specs.Lists.{tab}
use Rattle.paint.specs.Segments.{Bytes, mix_pair}
use Rattle.paint.proofs.Pairs.{mixed_planes}
use Rattle.paint.proofs.words.mix_colors.Goals as goal
use Rattle.paint.proofs.words.mix_colors.Tie as tie
use Rattle.paint.proofs.words.mix_colors.Lts as lts
use Rattle.paint.proofs.words.mix_colors.Reads as reads

first-bytes : (c : lts.Start tie.the-claims reads.Pre reads.Post) → Bytes c.args.c
first-bytes c = (omega arith, omega arith, omega arith, omega arith)

last-bytes : (c : lts.Start tie.the-claims reads.Pre reads.Post) → Bytes c.args.d
last-bytes c = (omega arith, omega arith, omega arith, omega arith)

pub mix_with_alpha-requires : goal.mix_with_alpha-requires
mix_with_alpha-requires c =
    omega (arith, ap length c.requires.1, c.requires.2)

pub returns : goal.returns
returns c =
    let with-alpha = c.mix_with_alpha in
    let pairs = c.mix_pairs in
    let a = c.args in
    let second =
    subst
    (λ (ts : List ℕ). with-alpha.new.ts ≡ tab (length ts) (λ i. mix_pair a.c.b a.d.b a.c.a a.d.a (get_or ts i 0)))
    c.requires.1 with-alpha.ensures in
    mixed_planes a.c a.d a.left.now _ _ c.requires.0 (first-bytes c.before.before.before.before.before.before.before.before.before.before.before)
    (last-bytes c.before.before.before.before.before.before.before.before.before.before.before) pairs.ensures second
