-- `block::segment_words` meets its contract: the colours before i are written, and the segment has the ramp's colours.
use Rattle.std.proofs.Common.{◌≡◌, ℕ, ◌<◌, ◌≤◌, length, ap, ◌∙◌, arith}
use Rattle.paint.specs.Ramps.{ramp_at}
use Rattle.paint.specs.Buffers.{stops_in}
use Rattle.paint.specs.Segments.{t_at}
use Rattle.paint.proofs.Begins.{begun_none, begun_turn, begun_all}
use Rattle.paint.proofs.block.segment_words.Goals as goal
use Rattle.paint.proofs.block.segment_words.Tie as tie
use Rattle.paint.proofs.block.segment_words.Lts as lts
use Rattle.paint.proofs.block.segment_words.Reads as reads

-- the position is one of the block
inside : (c : lts.In-loop tie.the-claims reads.Pre reads.Post goal.the-invariant-loop-i goal.the-decreases-loop-i)
    → let n = length c.args.ks.now in (c.loop-i.i < n) × (n ≤ 256) × (length c.loop-i.ks ≡ n)
inside c =
    let l = c.loop-i.invariant in
    (omega (arith, c.loop-i-test.true, l.1.long), c.requires.1.few, l.1.long)

pub find-s-requires : goal.find-s-requires
find-s-requires c =
    (c.requires.0, omega arith)

pub loop-i-init : goal.loop-i-init
loop-i-init c =
    (c.find-s.ensures.0, begun_none _ _)

pub offset_bounds-ks-i : goal.offset_bounds-ks-i
offset_bounds-ks-i c =
    let h = inside c.before in record { fits = omega (arith, h.0, h.1) }

pub bounds-ks-i : goal.bounds-ks-i
bounds-ks-i c =
    let h = inside c.before.before in omega (arith, h.0, h.2)

pub serving-s-requires : goal.serving-s-requires
serving-s-requires c =
    let l = c.loop-i in
    let k = l.invariant.1.rest l.i (omega arith) in
    (c.requires.0, l.invariant.0, omega (arith, k, c.requires.1.below l.i (inside c.before.before).0))

pub color_in-requires : goal.color_in-requires
color_in-requires c =
    let s = c.serving-s.ensures in (s.0.sound, s.1, s.2)

pub offset_bounds-ks-i-in-loop-i : goal.offset_bounds-ks-i-in-loop-i
offset_bounds-ks-i-in-loop-i c =
    let h = inside c.before.before.before.before.before in record { fits = omega (arith, h.0, h.1) }

pub bounds-ks-i-in-loop-i : goal.bounds-ks-i-in-loop-i
bounds-ks-i-in-loop-i c =
    let h = inside c.before.before.before.before.before in omega (arith, h.0, h.2)

pub loop-i-preserved : goal.loop-i-preserved
loop-i-preserved c =
    let l = c.loop-i in
    let a = c.args in
    let s = c.serving-s.ensures in
    let h = inside c.before.before.before.before.before in (
      s.0,
      begun_turn l.invariant.1 c.word.result
          (c.word.ensures ∙ c.color_in.ensures ∙ s.0.color _ s.1 s.2
          ∙ ap (λ (k : ℕ). ramp_at (stops_in a.ramp.now a.count) (t_at k)) (l.invariant.1.rest l.i (omega arith)))
          h.0,
    )

pub shape_of-ks : goal.shape_of-ks
shape_of-ks c =
    c.loop-i.invariant.1.long

pub returns : goal.returns
returns c =
    let l = c.loop-i in
    begun_all l.invariant.1 (omega (arith, c.loop-i-test.false, l.invariant.1.long))
