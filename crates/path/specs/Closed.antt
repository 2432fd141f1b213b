-- Paths that are closed: from end to end they come back to where they began. A reviewer of the paper need not read it.
use Rattle.std.specs.Prelude.{◌≡◌, List, [], ◌∷◌, ℤ, pos, ◌+ℤ◌, ◌-ℤ◌}
use Rattle.path.specs.declared.Edge.{Edge}

-- how much a function of a point falls along the edges, in all
abbrev pub fall : (ℤ → ℤ → ℤ) → List Edge → ℤ
fall g [] = pos 0
fall g (e ∷ es) = (g e.x0 e.y0 -ℤ g e.x1 e.y1) +ℤ fall g es

pub record Closed (es : List Edge) : Type 0 where
  pub none : (g : ℤ → ℤ → ℤ) → fall g es ≡ pos 0
