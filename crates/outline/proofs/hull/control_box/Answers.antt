-- `outline::hull::control_box` meets its contract.
use mathlib.Core.Path.{◌≡◌, sym, subst, ◌∙◌}
use mathlib.Core.Bool.{true, ◌&&◌}
use Prim.Native.Nat.{ℕ, ◌/◌}
use native.Mathlib.Omega.{arith}
use lib.Dec.{leb, eqb}
use lib.ListN.{get_or}
use borrow.Author.Tests.{leb-true, eqb-true}
use Rattle.rect.proofs.Laws.{both}
use Rattle.path.specs.Plain.{plain_to, is_small}
use Rattle.outline.specs.Frames.{paired_to, FramedBy}
use Rattle.outline.proofs.Frames.{taken_there, frame_around}
use Rattle.outline.proofs.hull.control_box.Goals as goal
use Rattle.outline.proofs.hull.control_box.Tie as tie
use Rattle.outline.proofs.hull.control_box.Lts as lts
use Rattle.outline.proofs.hull.control_box.Reads as reads

-- what the first test tells
abbrev plain : (c : lts.Then1 tie.the-claims reads.Pre reads.Post tie.handed_clauses) → (is_small c.args.m ≡ true)
    × (plain_to c.args.segments.now c.args.n ≡ true)
plain c =
    let a = c.args in
    let all = plain_to a.segments.now a.n in
    both (is_small a.m) all (both (leb a.n 128) (is_small a.m && all) (sym c.is_plain.ensures ∙ c.if-is_plain.true)).1

pub frame-requires : goal.frame-requires
frame-requires c =
    let a = c.args in
    let there = taken_there a.m a.segments.now a.coordinates.now a.n c.requires.limited.1 in
    ((c.requires.limited.0, (plain c.before.before.before.before).0), omega (arith, there, c.taken_by.ensures.0))

pub returns-then-is_paired : goal.returns-then-is_paired
returns-then-is_paired c =
    let a = c.args in
    let ss = a.segments.now in
    let cs = a.coordinates.now in
    let moves = eqb (get_or ss 0 0) 2 in
    let paired = paired_to ss a.n in
    let told = both (leb 1 a.n) (moves && paired) (sym c.is_paired.ensures ∙ c.if-is_paired.true) in
    let rest = both moves paired told.1 in
    let r = c.frame.result in
    let framed = subst (λ (k : ℕ). FramedBy a.m r cs (k / 2)) c.taken_by.ensures.0 c.frame.ensures in
    frame_around a.m cs r ss (eqb-true (get_or ss 0 0) 2 rest.0) a.n (leb-true 1 a.n told.0) (plain c.before.before.before.before.before).1 rest.1 framed
