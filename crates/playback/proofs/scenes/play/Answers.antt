use mathlib.Core.Path.{refl}
use Prim.Native.Nat.{◌*◌}
use native.Mathlib.Omega.{arith}
use Rattle.std.proofs.Common.{rules}
use Rattle.render.specs.Answers.{mask_of}
use Rattle.playback.proofs.Runs.{place_back}
use Rattle.playback.proofs.Turns.{done_first, lies, done_next}
use Rattle.playback.proofs.scenes.play.Goals as goal

pub loop-i-init : goal.loop-i-init
loop-i-init c =
    let a = c.args in
    (done_first a.run.now a.lengths.now (mask_of a.masked a.mask.now) a.surface.now a.scratch.now a.answers.now, (refl, (refl, refl)))

pub overflow_add-end : goal.overflow_add-end
overflow_add-end c =
    let l = c.loop-i in
    let a = c.args in
    let there = lies a.run.now a.lengths.now (mask_of a.masked a.mask.now) a.surface.now a.scratch.now a.answers.now l.i l.at l.carried _ _ _
    l.invariant.0 c.loop-i-test.true c.requires.lengths_value in
    omega (arith, there.ends)

pub turn-carried-requires : goal.turn-carried-requires
turn-carried-requires c =
    let l = c.loop-i in
    let a = c.args in (
      (
        l.invariant.0.fits,
        lies a.run.now a.lengths.now (mask_of a.masked a.mask.now) a.surface.now a.scratch.now a.answers.now l.i l.at l.carried _ _ _
            l.invariant.0 c.loop-i-test.true c.requires.lengths_value,
      ),
      search rules,
    )

pub loop-i-preserved : goal.loop-i-preserved
loop-i-preserved c =
    let t = c.turn-carried in
    let l = c.loop-i in
    let a = c.args in (
      done_next a.run.now a.lengths.now (mask_of a.masked a.mask.now) a.surface.now a.scratch.now a.answers.now l.i l.at
          l.carried _ _ _ _ _ _ _ l.invariant.0 c.loop-i-test.true c.requires.lengths_value c.requires.lengths_in_bounds
          (record {
            carried = t.ensures.value;
            picture = t.ensures.surface_after;
            working = t.ensures.scratch_after;
            out = place_back _ _ (l.i * 7) _ _ refl t.ensures.answers_after;
          }),
      search rules,
    )
