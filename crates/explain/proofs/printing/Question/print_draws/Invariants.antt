-- Each line begins where the one before it ends.
use mathlib.Core.Path.{◌≡◌}
use Rattle.render.specs.Answers.{mask_of}
use Rattle.reason.specs.Explanations.{followed}
use Rattle.explain.proofs.printing.Question.print_draws.Given as goal

abbrev pub invariant-loop-i : goal.invariant-loop-i
invariant-loop-i l = l.p ≡ followed l.self.scene.now (mask_of l.self.masked l.self.mask.now) l.self.x l.self.y l.i
