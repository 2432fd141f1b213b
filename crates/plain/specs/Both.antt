-- What a full drawing leaves, by the one contract of both engines: `render::draw` and `plain::draw_plain` each promise it of their answer r, their
-- surface q and their scratch n (paper 02, P4).
use Rattle.std.specs.Prelude.{◌≡◌, List, ℕ, ℤ, length}
use Rattle.render.specs.declared.Answer.{Answer}
use Rattle.render.specs.Answers.{Mask, draw_answer, draw_surface, draw_scratch}

pub record Drawn (s : List ℕ) (m : Mask) (surface : List ℕ) (scratch : List ℤ) (r : Answer) (q : List ℕ) (n : List ℤ) : Type 0 where
  pub answer : r ≡ draw_answer s m (length surface) (length scratch)
  pub bytes : q ≡ draw_surface s m surface (length scratch)
  pub room : n ≡ draw_scratch s m (length surface) scratch
