-- `play` meets its contract: after i scenes it holds what the first i calls leave, one by one.
use mathlib.Core.Path.{◌≡◌}
use lib.ListN.{length}
use Rattle.render.specs.Answers.{mask_of}
use Rattle.playback.proofs.Turns.{Done}
use Rattle.playback.proofs.scenes.play.Given as goal

abbrev pub invariant-loop-i : goal.invariant-loop-i
invariant-loop-i l =
    Done l.run l.lengths (mask_of l.masked l.mask) l.initial.surface l.initial.scratch l.initial.answers l.i l.carried l.at l.surface l.scratch l.answers
    × ((length l.surface ≡ length l.initial.surface) × ((length l.scratch ≡ length l.initial.scratch) × (length l.answers ≡ length l.initial.answers)))
