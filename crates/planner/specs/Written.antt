-- What the planner's calls answer, and what lent runs hold afterwards (paper 02, P11).
use Rattle.std.specs.Prelude.{ℕ, ◌*◌, ◌≤◌, ◌≡◌, List, length, ℤ}
use Rattle.lists.specs.Lists.{over}
use Rattle.render.specs.declared.Answer.{Answer}
use Rattle.render.specs.Answers.{Mask, redraw_refusal}
use Rattle.regions.specs.Answers.{planned_answer, planned_surface, planned_scratch}
use Rattle.regions.specs.Planned.{Planned}

-- the run s, which holds t afterwards, has a plan of n rectangles in its first places; those after it are as they were
pub record Written (old new : List ℕ) (n : ℕ) (s t : List ℤ) : Type 0 where
  pub plan : List ℤ
  pub planned : Planned old new plan
  pub few : n ≤ 4
  pub long : length plan ≡ n * 4
  pub stored : t ≡ over plan s

-- ---- the redraw by the planner's rectangles: it answers r and leaves p and t, for a plan that keeps to what is asked of it past all checks
pub record Redrawn (old new : List ℕ) (m : Mask) (surface : List ℕ) (scratch : List ℤ) (r : Answer) (p : List ℕ) (t : List ℤ) : Type 0 where
  pub plan : List ℤ
  pub planned : (redraw_refusal old new m (length surface) (length scratch)).code ≡ 0 → Planned old new plan
  pub answered : r ≡ planned_answer old new m plan (length surface) (length scratch)
  pub painted : p ≡ planned_surface old new m plan surface (length scratch)
  pub cleared : t ≡ planned_scratch old new m (length surface) scratch
