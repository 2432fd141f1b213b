-- `replay` plays the scenes only where the whole call is not refused.
use mathlib.Core.Path.{sym}
use lib.ListN.{length}
use Rattle.playback.proofs.Whole.{ready}
use Rattle.playback.proofs.replay.Goals as goal

pub play-requires-clause-lengths_value : goal.play-requires-clause-lengths_value
play-requires-clause-lengths_value c =
    let a = c.args in
    (ready (length a.run.now) a.lengths.now (length a.answers.now) (sym c.in-Ok.ensures)).0

pub play-requires-clause-lengths_in_bounds : goal.play-requires-clause-lengths_in_bounds
play-requires-clause-lengths_in_bounds c =
    let a = c.args in
    (ready (length a.run.now) a.lengths.now (length a.answers.now) (sym c.in-Ok.ensures)).1
