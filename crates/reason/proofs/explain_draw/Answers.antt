-- `explain_draw` meets its contract.
use native.Mathlib.Omega.{arith}
use Prim.Native.Nat.{◌<◌}
use mathlib.Core.Path.{sym, ◌∙◌}
use Rattle.scene.specs.Header.{width_of, count_of}
use Rattle.scene.proofs.Accepted.{accepted_scene}
use Rattle.engine.specs.Picture.{mask_at}
use Rattle.render.specs.Answers.{mask_of, mask_bytes}
use Rattle.render.proofs.Refusals.{accepted_block}
use Rattle.reason.proofs.Refusals.{passed_ready, mask_asked, byte_read_lem, no_fault, no_line_refused, no_line_past, line_there}
use Rattle.reason.proofs.explain_draw.Goals as goal

pub returns-then-is_err : goal.returns-then-is_err
returns-then-is_err c =
    let a = c.args in
    c.bare.ensures
    ∙ no_line_refused a.scene.now (mask_of a.masked a.mask.now) a.x a.y a.i a.before c.judge_pixel.result c.judge_pixel.ensures
    (sym c.is_err.ensures.value ∙ c.if-is_err.true)

pub count-requires : goal.count-requires
count-requires c =
    let a = c.args in
    let m = mask_of a.masked a.mask.now in
    let fine = no_fault a.scene.now m a.x a.y c.judge_pixel.result c.judge_pixel.ensures (sym c.is_err.ensures.value ∙ c.if-is_err.false) in
    accepted_block a.masked _ (passed_ready a.scene.now m a.x a.y fine).scene

pub returns-then-count-i : goal.returns-then-count-i
returns-then-count-i c =
    let a = c.args in
    let m = mask_of a.masked a.mask.now in
    let fine = no_fault a.scene.now m a.x a.y c.judge_pixel.result c.judge_pixel.ensures (sym c.is_err.ensures.value ∙ c.if-is_err.false) in
    c.bare-then-count-i.ensures
    ∙ no_line_past a.scene.now m a.x a.y fine a.i a.before (omega (arith, c.if-count-i.true, c.count.ensures.0))

pub scene_line-requires : goal.scene_line-requires
scene_line-requires c =
    let a = c.args in
    let m = mask_of a.masked a.mask.now in
    let fine = no_fault a.scene.now m a.x a.y c.judge_pixel.result c.judge_pixel.ensures (sym c.is_err.ensures.value ∙ c.if-is_err.false) in
    let r = passed_ready a.scene.now m a.x a.y fine in
    record {
      accepted_scene = (accepted_scene a.scene.now a.masked r.scene, omega (arith, c.if-count-i.false, c.count.ensures.0));
      x_bound = (r.across, r.up);
      mask_for_scene = mask_asked a.scene.now m a.x a.y r;
    }

pub returns : goal.returns
returns c =
    let a = c.args in
    let s = a.scene.now in
    let m = mask_of a.masked a.mask.now in
    let fine = no_fault s m a.x a.y c.judge_pixel.result c.judge_pixel.ensures (sym c.is_err.ensures.value ∙ c.if-is_err.false) in
    let r = passed_ready s m a.x a.y fine in
    let there : a.i < count_of s = omega (arith, c.if-count-i.false, c.count.ensures.0) in
    c.scene_line.ensures (mask_at (width_of s) (mask_bytes m)) (byte_read_lem s m a.x a.y r a.i there) ∙ line_there s m a.x a.y fine a.i a.before there
