-- `radial_row::mapped_positions` meets its contract: each turn stores the position of its place.
use Rattle.std.proofs.Common.{◌≡◌, ℕ, ◌+◌, ◌<◌, ◌≤◌, length, pos, nat_abs, ◌<ℤ◌, refl, ap, ◌∙◌, arith, to_z-of_z, w64, to_z, of_z}
use Rattle.lists.specs.Lists.{tab}
use Rattle.paint.specs.Radial.{radial_d, radial_t}
use Rattle.paint.proofs.Focal.{focal_inside, d_small}
use Rattle.paint.proofs.Onward.{place_t, walk_begins, walk_turns, walk_ends, Held, held_at, held_on, asks_guess, asks_root, asks_sum, sum_t}
use Rattle.paint.proofs.Sizes.{still_sized}
use Rattle.paint.proofs.radial_row.mapped_positions.Invariants.{position, size}
use Rattle.paint.proofs.radial_row.mapped_positions.Goals as goal
use Rattle.paint.proofs.radial_row.mapped_positions.Tie as tie
use Rattle.paint.proofs.radial_row.mapped_positions.Lts as lts
use Rattle.paint.proofs.radial_row.mapped_positions.Reads as reads

-- ---- D
d-is : (s : lts.Start tie.the-claims reads.Pre reads.Post goal.the-invariant-loop-i goal.the-decreases-loop-i tie.handed_clauses)
    → to_z w64 (of_z w64 s.args.d) ≡ radial_d s.args.g.circle
d-is s = to_z-of_z s.ranges.d ∙ s.requires.limited_circle.3

d-fits : (s : lts.Start tie.the-claims reads.Pre reads.Post goal.the-invariant-loop-i goal.the-decreases-loop-i tie.handed_clauses)
    → let d = to_z w64 (of_z w64 s.args.d) in (pos 0 <ℤ d) × (nat_abs d ≤ 268435456)
d-fits s =
    let c = s.args.g.circle in
    let h = focal_inside c s.requires.limited_circle.1 s.requires.limited_circle.2 in
    rw (d-is s) (h, d_small c s.requires.limited_circle.0.r h)

abbrev block : lts.At-loop tie.the-claims reads.Pre reads.Post goal.the-invariant-loop-i goal.the-decreases-loop-i tie.handed_clauses → ℕ
block c = length c.args.ks.now

-- the guesses are as many
long : (c : lts.At-loop tie.the-claims reads.Pre reads.Post goal.the-invariant-loop-i goal.the-decreases-loop-i tie.handed_clauses)
    → length c.guess_roots.new.ks ≡ block c
long c = c.guess_roots.auto.ks

held : (c : goal.In-loop-i) → Held c.loop-i.p
held c =
    let first = c.place_at-p in
    held_on c.args.g.circle c.requires.limited_circle.0 c.requires.limited_circle.1 c.requires.limited_circle.2 c.args.y c.requires.ks_bound.1 c.args.x
    first.result c.loop-i.p c.loop-i.i
    (omega (arith, c.loop-i.invariant.few, long c.before, c.requires.ks_bound.0))
    first.ensures
    c.loop-i.invariant.place

placed : (c : goal.After-next_place-p)
    → let g = c.args.g in c.position_of.result ≡ position g (place_t c.loop-i.p (size g))
placed c =
    let half = c.before.before.before.before.before.before.before.before.before.before.before.before in
    let t = sum_t c.loop-i.p (held c.before.before.before.before.before.before.before) c.root_near-q.result c.root_near-q.ensures (size c.args.g) in
    c.position_of.ensures ∙ ap (position c.args.g) (c.t_of.ensures.0
    ∙ rw (d-is
    half.before.before.before.before.before.before.before.before.before.before) t)

-- ---- the loop
-- the pixel is one of the block
inside : (c : goal.In-loop-i) → (c.loop-i.i < block c.before) × (block c.before ≤ 1024) × (length c.loop-i.ks ≡ block c.before)
inside c =
    let w = c.loop-i.invariant in
    (omega (arith, c.loop-i-test.true, w.long, long c.before), omega (arith, c.requires.ks_bound.0), w.long ∙ long c.before)

pub reciprocal-reciprocal-requires : goal.reciprocal-reciprocal-requires
reciprocal-reciprocal-requires c =
    d-fits c.before.before.before

pub place_at-p-requires : goal.place_at-p-requires
place_at-p-requires c =
    (c.requires.limited_circle.0, c.requires.limited_circle.1, c.requires.limited_circle.2, omega (arith, c.requires.ks_bound.0), c.requires.ks_bound.1)

pub most_root-requires : goal.most_root-requires
most_root-requires c =
    still_sized 16384 c.args.g.circle.r tt c.requires.limited_circle.0.r

-- ---- what the calls ask
pub guess_roots-requires : goal.guess_roots-requires
guess_roots-requires c =
    let first = c.place_at-p in
    let h =
    held_at c.args.g.circle c.requires.limited_circle.0 c.requires.limited_circle.1 c.requires.limited_circle.2 c.args.y c.requires.ks_bound.1 c.args.x
    first.result
    (omega (arith, c.requires.ks_bound.0))
    first.ensures
    in
    record { q_bound = asks_guess first.result h; t = (c.most_root.ensures, c.requires.ks_bound.2) }

pub loop-i-init : goal.loop-i-init
loop-i-init c =
    let g = c.args.g in walk_begins (position g) (size g) _ _

pub offset_bounds-ks-i : goal.offset_bounds-ks-i
offset_bounds-ks-i c =
    let h = inside c in record { fits = omega (arith, h.0, h.1) }

pub bounds-ks-i : goal.bounds-ks-i
bounds-ks-i c =
    let h = inside c.before.before in omega (arith, h.0, h.2)

pub root_near-q-requires : goal.root_near-q-requires
root_near-q-requires c =
    asks_root c.loop-i.p (held c.before.before.before)

pub t_of-requires : goal.t_of-requires
t_of-requires c =
    let d = d-fits
    c.before.before.before.before.before.before.before.before.before.before.before.before.before.before.before.before.before.before.before.before in
    let r = asks_sum c.loop-i.p (held c.before.before.before.before.before) c.root_near-q.result c.root_near-q.ensures in
    (r.0, r.1, d.0, d.1, c.reciprocal-reciprocal.ensures)

pub position_of-requires : goal.position_of-requires
position_of-requires c =
    c.t_of.ensures.1

pub offset_bounds-ks-i-in-loop-i : goal.offset_bounds-ks-i-in-loop-i
offset_bounds-ks-i-in-loop-i c =
    let h = inside c.before.before.before.before.before.before.before in record { fits = omega (arith, h.0, h.1) }

pub bounds-ks-i-in-loop-i : goal.bounds-ks-i-in-loop-i
bounds-ks-i-in-loop-i c =
    let h = inside c.before.before.before.before.before.before.before in omega (arith, h.0, h.2)

pub next_place-p-requires : goal.next_place-p-requires
next_place-p-requires c =
    (held c.before.before.before.before.before.before.before).moderate

pub loop-i-preserved : goal.loop-i-preserved
loop-i-preserved c =
    let g = c.args.g in
    walk_turns (position g) (size g) _ _ c.loop-i.i c.loop-i.p c.loop-i.ks c.loop-i.invariant c.position_of.result
    c.next_place-p.result
    (omega (arith, (inside c.before.before.before.before.before.before.before).0, long c.before.before.before.before.before.before.before.before))
    (placed c)
    c.next_place-p.ensures

pub shape_of-ks : goal.shape_of-ks
shape_of-ks c =
    c.loop-i.invariant.long ∙ long c.before

pub returns : goal.returns
returns c =
    let g = c.args.g in
    walk_ends (position g) (size g) _ _ c.loop-i.i c.loop-i.p c.loop-i.ks c.loop-i.invariant g.circle c.args.x c.args.y c.requires.limited_circle.0
    c.requires.limited_circle.1
    c.requires.limited_circle.2
    c.place_at-p.ensures
    refl
    (omega (arith, c.loop-i-test.false, c.loop-i.invariant.few, c.loop-i.invariant.long))
    ∙ ap (λ (n : ℕ). tab n (λ k. position g (radial_t g.circle (c.args.x + k) c.args.y))) (long c.before)
