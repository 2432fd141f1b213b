-- What is known of a call that was read, and what running it leaves. A reviewer of the paper need not read it.
use Rattle.std.specs.Prelude.{ℕ, Bool, cond, List, Option, None, Some, eqb, ℤ}
use Rattle.lists.specs.Lists.{tab}
use Rattle.render.specs.declared.Answer.{Answer}
use Rattle.render.specs.Answers.{no_mask, draw_answer, redraw_answer, draw_surface, redraw_surface, draw_scratch, redraw_scratch}
use Rattle.limits.specs.Patterns.{pattern_byte, pattern_number}

-- w bytes of a pattern, and r numbers
abbrev pub bytes : ℕ → ℕ → List ℕ
bytes phase w = tab w (pattern_byte phase)

abbrev pub numbers : ℕ → List ℤ
numbers r = tab r pattern_number

-- ---- a drawing (no old scene) or a redraw, on surfaces of w bytes with r numbers of scratch: its answer, and what it leaves
abbrev pub call_answer : Option (List ℕ) → List ℕ → ℕ → ℕ → Answer
call_answer None new w r = draw_answer new no_mask w r
call_answer (Some old) new w r = redraw_answer old new no_mask w r

-- before a redraw the old scene is drawn on both surfaces
abbrev pub call_surface : Option (List ℕ) → List ℕ → List ℕ → ℕ → List ℕ
call_surface None new s r = draw_surface new no_mask s r
call_surface (Some old) new s r = redraw_surface old new no_mask (draw_surface old no_mask s r) r

abbrev pub call_other : Option (List ℕ) → List ℕ → ℕ → List ℕ
call_other None s r = s
call_other (Some old) s r = draw_surface old no_mask s r

abbrev pub call_scratch : Option (List ℕ) → List ℕ → ℕ → ℕ → List ℤ
call_scratch None new w r = draw_scratch new no_mask w (numbers r)
call_scratch (Some old) new w r = redraw_scratch old new no_mask w (numbers r)

-- ---- after its report: where it is accepted, the new scene was drawn on the other surface, from another pattern
abbrev pub is_accepted : Option (List ℕ) → List ℕ → ℕ → ℕ → Bool
is_accepted old new w r = eqb (call_answer old new w r).code 0

unfoldable pub surface_left : Option (List ℕ) → List ℕ → ℕ → ℕ → List ℕ
surface_left old new w r = call_surface old new (bytes 0 w) r

unfoldable pub other_left : Option (List ℕ) → List ℕ → ℕ → ℕ → List ℕ
other_left old new w r = cond (is_accepted old new w r) (draw_surface new no_mask (bytes 85 w) r) (call_other old (bytes 0 w) r)

unfoldable pub scratch_left : Option (List ℕ) → List ℕ → ℕ → ℕ → List ℤ
scratch_left old new w r = cond (is_accepted old new w r) (draw_scratch new no_mask w (numbers r)) (call_scratch old new w r)
