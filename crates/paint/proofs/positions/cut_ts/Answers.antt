-- `positions::cut_ts` meets its contract: the first i t's are stored, and t is the line's number at the pixel i.
use Rattle.std.proofs.Common.{◌≡◌, ℕ, ◌+◌, ◌-◌, ◌≤◌, min, length, ℤ, pos, ◌+ℤ◌, ◌*ℤ◌, sym, refl, ap, ◌∙◌, ap₂, arith, length-set, to_z-of_z, w64, to_z}
use Rattle.std.proofs.Common.{of_z}
use Rattle.lists.proofs.Laws.{tab_turn, tab_all}
use Rattle.fixed.specs.Floor.{floor_div}
use Rattle.fixed.proofs.Within.{Within}
use Rattle.fixed.proofs.Means.{Num, need, keep}
use Rattle.paint.specs.Buffers.{line_parts}
use Rattle.paint.specs.Segments.{position_of}
use Rattle.paint.proofs.Along.{line_first, line_next, line_size}
use Rattle.paint.proofs.positions.cut_ts.Invariants.{place}
use Rattle.paint.proofs.positions.cut_ts.Goals as goal

-- t is the line's number
t-is : (c : goal.In-loop-i) → to_z w64 c.loop-i.t-bits ≡ c.args.first +ℤ c.args.step *ℤ pos c.loop-i.i
t-is c = rw (to_z-of_z c.ranges.first, to_z-of_z c.ranges.step) at c.loop-i.invariant.2

size : (c : goal.In-loop-i) (i : ℕ) → i ≤ length c.args.left.now
    → Within 6917529027641081856 (c.args.first +ℤ c.args.step *ℤ pos i)
size c i h =
    line_size c.args.first c.args.step i c.requires.first_bound.0 c.requires.first_bound.1 (omega (arith, h, c.requires.right_len.1))

-- t at the next pixel
abbrev next : goal.After-cut_in_parts-u → Num
next c =
    let a = c.args in
    let i = c.loop-i.i in
    record {
      bound = 6917529027641081856;
      read = to_z w64 c.loop-i.t-bits +ℤ to_z w64 (of_z w64 a.step);
      int = a.first +ℤ a.step *ℤ pos (i + 1);
      same = ap₂ ◌+ℤ◌ (t-is c.before) (to_z-of_z c.ranges.step) ∙ line_next a.first a.step i;
      size = size c.before (i + 1) (omega (arith, c.loop-i-test.true, c.loop-i.invariant.0));
    }

pub loop-i-init : goal.loop-i-init
loop-i-init c =
    let a = c.args in
    (refl, refl, line_first (to_z w64 (of_z w64 a.first)) (to_z w64 (of_z w64 a.step)), refl, refl)

pub cut_in_parts-u-requires : goal.cut_in_parts-u-requires
cut_in_parts-u-requires c =
    rw (t-is c) (size c c.loop-i.i (omega arith)).size

pub overflow_add-t : goal.overflow_add-t
overflow_add-t c =
    need (next c) tt

pub loop-i-preserved : goal.loop-i-preserved
loop-i-preserved c =
    let a = c.args in
    let l = c.loop-i in
    let u = c.cut_in_parts-u in
    let e = u.ensures ∙ ap (λ (t : ℤ). min (position_of (floor_div t line_parts) - 1) 65535) l.invariant.2 in (
      simp length-set (omega (arith, l.invariant.0)),
      simp length-set (omega (arith, l.invariant.1)),
      (keep w64 (next c) tt).same ∙ sym (ap₂ (λ (x y : ℤ). x +ℤ y *ℤ pos (l.i + 1)) (to_z-of_z c.ranges.first) (to_z-of_z c.ranges.step)),
      tab_turn _ l.left a.left.now l.i u.result e l.invariant.3 (omega (arith, l.invariant.0)),
      tab_turn _ l.right a.right.now l.i u.result e l.invariant.4 (omega (arith, l.invariant.0, c.requires.right_len.0)),
    )

pub returns : goal.returns
returns c =
    let l = c.loop-i in
    let a = c.args in
    let n = length a.left.now in
    let e : l.i ≡ n = omega (arith, c.loop-i-test.false, l.invariant.0) in
    let same = to_z-of_z c.ranges.first in
    let left = tab_all (place a.first a.step) l.left a.left.now l.i n
    (rw (same, to_z-of_z c.ranges.step) at l.invariant.3) e refl in
    let right = tab_all (place a.first a.step) l.right a.right.now l.i n
    (rw (same, to_z-of_z c.ranges.step) at l.invariant.4) e (sym c.requires.right_len.0) in
    record { left_after = left; right_after = right ∙ sym left }
