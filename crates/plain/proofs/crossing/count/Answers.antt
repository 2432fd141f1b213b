-- `plain::crossing::count` meets its contract. Assumes nothing.
use mathlib.Core.Path.{◌≡◌, sym, ◌∙◌}
use mathlib.Core.Bool.{true, false}
use Rattle.coverage.specs.Winding.{spans_up, left_up, turned}
use Rattle.coverage.proofs.Begin.{clean}
use Rattle.plain.proofs.Counted.{counted_up, counted_down, counted_none}
use Rattle.plain.proofs.crossing.count.Goals as goal
use Rattle.plain.proofs.crossing.count.Tie as tie
use Rattle.plain.proofs.crossing.count.Lts as lts
use Rattle.plain.proofs.crossing.count.Reads as reads

-- what the tests tell of the edge, and of the edge with its ends exchanged
spanned : (c : lts.After-is_between tie.the-claims reads.Pre reads.Post)
    → c.is_between.result ≡ spans_up c.args.e c.args.y
spanned c =
    rw (clean c.args.e.y0 c.requires.0.y0, clean c.args.e.y1 c.requires.0.y1, clean c.args.y c.requires.2) at c.is_between.ensures

left : (c : lts.After-is_left tie.the-claims reads.Pre reads.Post)
    → c.is_left.result ≡ left_up c.args.e c.args.x c.args.y
left c =
    rw (
      clean c.args.e.x0 c.requires.0.x0,
      clean c.args.e.y0 c.requires.0.y0,
      clean c.args.e.x1 c.requires.0.x1,
      clean c.args.e.y1 c.requires.0.y1,
      clean c.args.x c.requires.1,
      clean c.args.y c.requires.2,
    ) at c.is_left.ensures

spanned-turned : (c : lts.After-is_between2 tie.the-claims reads.Pre reads.Post)
    → c.is_between-2.result ≡ spans_up (turned c.args.e) c.args.y
spanned-turned c =
    rw (clean c.args.e.y0 c.requires.0.y0, clean c.args.e.y1 c.requires.0.y1, clean c.args.y c.requires.2) at c.is_between-2.ensures

left-turned : (c : lts.After-is_left2 tie.the-claims reads.Pre reads.Post)
    → c.is_left-then-is_between-2.result ≡ left_up (turned c.args.e) c.args.x c.args.y
left-turned c =
    rw (
      clean c.args.e.x0 c.requires.0.x0,
      clean c.args.e.y0 c.requires.0.y0,
      clean c.args.e.x1 c.requires.0.x1,
      clean c.args.e.y1 c.requires.0.y1,
      clean c.args.x c.requires.1,
      clean c.args.y c.requires.2,
    ) at c.is_left-then-is_between-2.ensures

pub returns-then-is_left : goal.returns-then-is_left
returns-then-is_left c =
    counted_up c.args.x c.args.y c.args.e true (sym (spanned c.before.before.before) ∙ c.if-is_between.true)
    (sym (left c.before) ∙ c.if-is_left.true)

pub returns-then-is_between : goal.returns-then-is_between
returns-then-is_between c =
    counted_up c.args.x c.args.y c.args.e false (sym (spanned c.before.before.before) ∙ c.if-is_between.true)
    (sym (left c.before) ∙ c.if-is_left.false)

pub returns-then-is_left-2 : goal.returns-then-is_left-2
returns-then-is_left-2 c =
    counted_down c.args.x c.args.y c.args.e true (sym (spanned-turned c.before.before.before) ∙ c.if-is_between-2.true)
    (sym (left-turned c.before) ∙ c.if-is_left-2.true)

pub returns-then-is_between-2 : goal.returns-then-is_between-2
returns-then-is_between-2 c =
    counted_down c.args.x c.args.y c.args.e false (sym (spanned-turned c.before.before.before) ∙ c.if-is_between-2.true)
    (sym (left-turned c.before) ∙ c.if-is_left-2.false)

pub returns : goal.returns
returns c =
    counted_none c.args.x c.args.y c.args.e (sym (spanned c.before.before.before) ∙ c.if-is_between.false)
    (sym (spanned-turned c.before) ∙ c.if-is_between-2.false)
