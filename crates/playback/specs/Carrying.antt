-- What the replay's own functions ask of each other; a reviewer of the paper need not read this file.
use Rattle.std.specs.Prelude.{ℕ, ◌-◌, ◌≤◌, List, Option, None, Some, IfSome, cond, eqb, length, take, drop}
use Rattle.codes.specs.Codes.{accepted_code}
use Rattle.render.specs.Answers.{Mask, Accepted}
use Rattle.context.specs.Context.{keep}
use Rattle.playback.specs.declared.Carried.{Carried}
use Rattle.playback.specs.declared.Part.{Part}
use Rattle.playback.specs.Replay.{Shown, nothing, scene}

-- the scene of a part of the run
abbrev pub scene_of : List ℕ → Part → List ℕ
scene_of run p = take (p.end - p.at) (drop p.at run)

-- what is shown, by where the scene accepted last lies
abbrev pub shown_of : List ℕ → Option Part → Shown
shown_of run None = nothing
shown_of run (Some p) = scene (scene_of run p)

-- what is carried on after a scene's code
abbrev pub carried_on : Carried → Part → ℕ → Carried
carried_on c p code =
    cond (eqb code accepted_code) (record { last = Some p; first = c.first })
    (record { last = c.last; first = keep c.first code })

-- a part lies in the run
pub record Lies (run : List ℕ) (p : Part) : Type 0 where
  pub starts : p.at ≤ p.end
  pub ends : p.end ≤ length run

-- the scene accepted last, if there is one, lies in the run, and was accepted
abbrev pub Fits : Mask → List ℕ → Option Part → Type 0
Fits m run last = IfSome last (λ p. Lies run p × Accepted m (scene_of run p))
