-- The empty draw.
use mathlib.Core.Path.{◌≡◌, refl}
use mathlib.Core.Bool.{Bool, true, false, cond}
use Prim.Native.Nat.{ℕ, ◌+◌}
use lib.ListN.{length, set, replicate}
use lib.Dec.{eqb}
use lib.Ieee.{of_bits, is_nan}
use Rattle.rect.proofs.Laws.{either}
use Rattle.scene.specs.Layout.{coordinates_at, flags_limit}
use Rattle.scene.specs.Fields.{first_stop_at}
use Rattle.std.specs.Prelude.{Ok}
use Rattle.scene.specs.Faults.{unused}
use Rattle.scene.specs.Rules.{draw_rules, head_rules, flags_allowed, count_rules, stop_limit_of, float_rules, list_rules, circle_rules, stop_rules}
use Rattle.scene.specs.Rules.{transform_rules, flat_rule, path_rules, rest_rules}
use Rattle.rescue.specs.Fresh.{empty_draw}

-- four bytes that are not zero
pub empty_stored : set (set (set (set (replicate 2032 0) 2 0x01) 3 0x20) 5 0x1B) 7 0x1C ≡ empty_draw
unfolding empty_draw
empty_stored = refl

pub empty_length : length empty_draw ≡ 2032
unfolding empty_draw
empty_length = refl

-- it keeps the rules of a draw, in either edition
head_kept : (edition : ℕ) → head_rules true edition empty_draw ≡ Ok tt
unfolding head_rules flags_allowed flags_limit count_rules stop_limit_of empty_draw
head_kept edition = either (eqb edition 1) (λ q. rw q) (λ q. rw q)

floats_kept : float_rules empty_draw ≡ Ok tt
unfolding float_rules empty_draw of_bits is_nan
floats_kept = refl

lists_kept : list_rules empty_draw ≡ Ok tt
unfolding list_rules circle_rules stop_rules first_stop_at empty_draw
lists_kept = refl

transform_kept : (edition : ℕ) → transform_rules edition empty_draw ≡ Ok tt
unfolding transform_rules empty_draw of_bits is_nan
transform_kept edition = either (eqb edition 1) (λ q. rw q) (λ q. rw q)

flat_kept : flat_rule empty_draw ≡ Ok tt
unfolding flat_rule empty_draw
flat_kept = refl

path_kept : (edition : ℕ) → path_rules edition empty_draw ≡ Ok tt
unfolding path_rules empty_draw
path_kept edition = refl

-- no segment, no coordinate
coordinates_zero : (t : Bool) → unused empty_draw (cond t 932 900 + 0) 2032 ≡ Ok tt
unfolding empty_draw
coordinates_zero true = refl
coordinates_zero false = refl

rest_kept : (edition : ℕ) → rest_rules edition empty_draw ≡ Ok tt
unfolding rest_rules coordinates_at empty_draw
rest_kept edition = rw (coordinates_zero (eqb edition 1))

pub empty_passes : (edition : ℕ) → draw_rules true edition empty_draw ≡ Ok tt
unfolding draw_rules
empty_passes edition =
    rw (head_kept edition, floats_kept, lists_kept, transform_kept edition, flat_kept, path_kept edition, rest_kept edition)
