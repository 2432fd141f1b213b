-- `radial_row::padded_positions` meets its contract: D is not 0, and each turn stores the position of its place.
use Rattle.std.proofs.Common.{◌≡◌, ℕ, ◌+◌, ◌<◌, ◌≤◌, length, ℤ, pos, ◌*ℤ◌, nat_abs, sym, refl, ap, ◌∙◌, div-le_self, arith}
use Rattle.fixed.specs.Floor.{floor_div}
use Rattle.fixed.proofs.Sign.{above_zero}
use Rattle.lists.specs.Lists.{tab}
use Rattle.paint.specs.Gradient.{ramp_unit}
use Rattle.paint.specs.Radial.{radial_t}
use Rattle.paint.specs.Segments.{position_of}
use Rattle.paint.proofs.Focal.{focal_inside}
use Rattle.paint.proofs.Onward.{place_t, walk_begins, walk_turns, walk_ends, Held, held_at, held_on, asks_guess, asks_root, asks_sum, sum_t}
use Rattle.paint.proofs.Sizes.{still_sized}
use Rattle.paint.proofs.radial_row.padded_positions.Goals as goal
use Rattle.paint.proofs.radial_row.padded_positions.Tie as tie
use Rattle.paint.proofs.radial_row.padded_positions.Lts as lts
use Rattle.paint.proofs.radial_row.padded_positions.Reads as reads

-- ---- D
some : (s : lts.Start tie.the-claims reads.Pre reads.Post goal.the-invariant-loop-i goal.the-decreases-loop-i tie.handed_clauses) → 0 < s.args.d
some s = above_zero (rw (sym s.requires.limited_circle.3) at (focal_inside s.args.c s.requires.limited_circle.1 s.requires.limited_circle.2))

abbrev block : lts.At-loop tie.the-claims reads.Pre reads.Post goal.the-invariant-loop-i goal.the-decreases-loop-i tie.handed_clauses → ℕ
block c = length c.args.ks.now

-- the guesses are as many
long : (c : lts.At-loop tie.the-claims reads.Pre reads.Post goal.the-invariant-loop-i goal.the-decreases-loop-i tie.handed_clauses)
    → length c.guess_roots.new.ks ≡ block c
long c = c.guess_roots.auto.ks

held : (c : goal.In-loop-i) → Held c.loop-i.p
held c =
    let first = c.place_at-p in
    held_on c.args.c c.requires.limited_circle.0 c.requires.limited_circle.1 c.requires.limited_circle.2 c.args.y c.requires.ks_bound.1 c.args.x
    first.result c.loop-i.p c.loop-i.i
    (omega (arith, c.loop-i.invariant.few, long c.before, c.requires.ks_bound.0))
    first.ensures
    c.loop-i.invariant.place

placed : (c : goal.After-next_place-p) → c.padded_position.result ≡ position_of (place_t c.loop-i.p c.args.d)
placed c =
    let d = c.args.d in
    c.padded_position.ensures
    ∙ ap (λ (z : ℤ). position_of (floor_div (pos ramp_unit *ℤ z) d)) c.numerator.ensures.0
    ∙ ap position_of (sum_t c.loop-i.p (held c.before.before.before.before.before.before.before) c.root_near-q.result c.root_near-q.ensures d)

-- ---- the loop
-- the pixel is one of the block
inside : (c : goal.In-loop-i) → (c.loop-i.i < block c.before) × (block c.before ≤ 1024) × (length c.loop-i.ks ≡ block c.before)
inside c =
    let w = c.loop-i.invariant in
    (omega (arith, c.loop-i-test.true, w.long, long c.before), omega (arith, c.requires.ks_bound.0), w.long ∙ long c.before)

pub nonzero_div-scale : goal.nonzero_div-scale
nonzero_div-scale c =
    some c.before.before

pub overflow_add-scale : goal.overflow_add-scale
overflow_add-scale c =
    record { fits = omega (arith, div-le_self 9223372036854775808 c.args.d) }

pub place_at-p-requires : goal.place_at-p-requires
place_at-p-requires c =
    (c.requires.limited_circle.0, c.requires.limited_circle.1, c.requires.limited_circle.2, omega (arith, c.requires.ks_bound.0), c.requires.ks_bound.1)

pub most_root-requires : goal.most_root-requires
most_root-requires c =
    still_sized 16384 c.args.c.r tt c.requires.limited_circle.0.r

-- ---- what the calls ask
pub guess_roots-requires : goal.guess_roots-requires
guess_roots-requires c =
    let first = c.place_at-p in
    let h =
    held_at c.args.c c.requires.limited_circle.0 c.requires.limited_circle.1 c.requires.limited_circle.2 c.args.y c.requires.ks_bound.1 c.args.x
    first.result (omega (arith, c.requires.ks_bound.0))
    first.ensures
    in
    record { q_bound = asks_guess first.result h; t = (c.most_root.ensures, c.requires.ks_bound.2) }

pub loop-i-init : goal.loop-i-init
loop-i-init c =
    walk_begins position_of c.args.d _ _

pub offset_bounds-ks-i : goal.offset_bounds-ks-i
offset_bounds-ks-i c =
    let h = inside c in record { fits = omega (arith, h.0, h.1) }

pub bounds-ks-i : goal.bounds-ks-i
bounds-ks-i c =
    let h = inside c.before.before in omega (arith, h.0, h.2)

pub root_near-q-requires : goal.root_near-q-requires
root_near-q-requires c =
    asks_root c.loop-i.p (held c.before.before.before)

pub numerator-requires : goal.numerator-requires
numerator-requires c =
    asks_sum c.loop-i.p (held c.before.before.before.before.before) c.root_near-q.result c.root_near-q.ensures

pub padded_position-requires : goal.padded_position-requires
padded_position-requires c = (
  some c.before.before.before.before.before.before.before.before.before.before.before.before.before.before.before.before.before.before.before,
  c.requires.limited_circle.4,
  refl,
)

pub offset_bounds-ks-i-in-loop-i : goal.offset_bounds-ks-i-in-loop-i
offset_bounds-ks-i-in-loop-i c =
    let h = inside c.before.before.before.before.before.before.before in record { fits = omega (arith, h.0, h.1) }

pub bounds-ks-i-in-loop-i : goal.bounds-ks-i-in-loop-i
bounds-ks-i-in-loop-i c =
    let h = inside c.before.before.before.before.before.before.before in omega (arith, h.0, h.2)

pub next_place-p-requires : goal.next_place-p-requires
next_place-p-requires c =
    (held c.before.before.before.before.before.before.before).moderate

pub loop-i-preserved : goal.loop-i-preserved
loop-i-preserved c =
    walk_turns position_of c.args.d _ _ c.loop-i.i c.loop-i.p c.loop-i.ks c.loop-i.invariant c.padded_position.result
    c.next_place-p.result
    (omega (arith, (inside c.before.before.before.before.before.before.before).0, long c.before.before.before.before.before.before.before.before))
    (placed c)
    c.next_place-p.ensures

pub shape_of-ks : goal.shape_of-ks
shape_of-ks c =
    c.loop-i.invariant.long ∙ long c.before

pub returns : goal.returns
returns c =
    walk_ends position_of c.args.d _ _ c.loop-i.i c.loop-i.p c.loop-i.ks c.loop-i.invariant c.args.c c.args.x c.args.y c.requires.limited_circle.0
    c.requires.limited_circle.1
    c.requires.limited_circle.2
    c.place_at-p.ensures
    (ap nat_abs c.requires.limited_circle.3)
    (omega (arith, c.loop-i-test.false, c.loop-i.invariant.few, c.loop-i.invariant.long))
    ∙ ap (λ (n : ℕ). tab n (λ k. position_of (radial_t c.args.c (c.args.x + k) c.args.y))) (long c.before)
