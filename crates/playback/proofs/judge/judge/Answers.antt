use Rattle.playback.proofs.Whole.{too_many, wrong_sum, too_few_places, not_refused}
use Rattle.playback.proofs.judge.judge.Goals as goal

pub returns-then-lengths-gt-MOST_SCENES : goal.returns-then-lengths-gt-MOST_SCENES
returns-then-lengths-gt-MOST_SCENES c =
    let a = c.args in
    too_many a.bytes a.lengths.now a.places c.if-lengths-gt-MOST_SCENES.true

pub returns-then-sum-bytes : goal.returns-then-sum-bytes
returns-then-sum-bytes c =
    let a = c.args in
    wrong_sum a.bytes a.lengths.now a.places _ c.if-lengths-gt-MOST_SCENES.false c.sum.ensures c.if-sum-bytes.true

pub returns-then-places-lengths : goal.returns-then-places-lengths
returns-then-places-lengths c =
    let a = c.args in
    too_few_places a.bytes a.lengths.now a.places _ c.if-lengths-gt-MOST_SCENES.false c.sum.ensures
    c.if-sum-bytes.false c.if-places-lengths.true

pub returns : goal.returns
returns c =
    let a = c.args in
    not_refused a.bytes a.lengths.now a.places _ c.if-lengths-gt-MOST_SCENES.false c.sum.ensures c.if-sum-bytes.false
    c.if-places-lengths.false
