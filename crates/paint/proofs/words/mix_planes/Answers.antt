-- `words::mix_planes` meets its contract.
use Rattle.std.proofs.Common.{ℕ, ◌-◌, length, get_or, refl, ◌∙◌}
use Rattle.color.specs.declared.Pixel.{Pixel}
use Rattle.paint.specs.Ramps.{mix_pixel}
use Rattle.paint.proofs.Pairs.{cut_on_ramp, cut_words}
use Rattle.paint.proofs.words.mix_planes.Goals as goal

pub take_ts-requires : goal.take_ts-requires
take_ts-requires c =
    c.requires

pub mix_ts-requires : goal.mix_ts-requires
mix_ts-requires c =
    let call = c.take_ts in
    let ks = c.args.ks.now in
    (cut_on_ramp (length ks) (λ i. get_or ks i 0 - 1) _ call.ensures.left_after, call.ensures.right_after, call.auto.left ∙ c.requires.0, c.requires.2)

pub returns : goal.returns
returns c =
    let a = c.args in
    let ks = a.ks.now in
    let color : ℕ → Pixel = λ t. mix_pixel 0 65536 t a.c a.d in
    cut_words (length ks) (λ i. get_or ks i 0 - 1) _ c.take_ts.ensures.left_after color (length ks) _ refl c.mix_ts.ensures
