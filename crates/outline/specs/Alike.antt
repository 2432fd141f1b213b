-- Edges that serve for others as far as boxes go. A reviewer of the paper need not read it.
use Rattle.std.specs.Prelude.{ℕ, ◌≡◌, List, ◌++◌}
use Rattle.path.specs.declared.Edge.{Edge}
use Rattle.path.specs.Boxes.{box_of}

-- whatever edges follow, the box is the same
pub record Alike (es fs : List Edge) : Type 0 where
  pub box : (gs : List Edge) (w h : ℕ) → box_of w h (es ++ gs) ≡ box_of w h (fs ++ gs)
