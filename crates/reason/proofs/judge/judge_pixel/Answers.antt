-- `judge::judge_pixel` meets its contract: a scene that passes has its first block.
use mathlib.Core.Path.{sym, ◌∙◌}
use Rattle.render.proofs.Refusals.{accepted_block}
use Rattle.reason.proofs.judge.judge_pixel.Goals as goal

pub width-requires : goal.width-requires
width-requires c =
    accepted_block c.args.masked _ (sym c.verdict.ensures ∙ c.in_ok-verdict.was)

pub height-requires : goal.height-requires
height-requires c =
    accepted_block c.args.masked _ (sym c.verdict.ensures ∙ c.in_ok-verdict.was)
