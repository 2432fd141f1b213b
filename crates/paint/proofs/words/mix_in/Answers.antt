-- `words::mix_in` meets its contract.
use Rattle.std.proofs.Common.{length, arith}
use Rattle.lists.proofs.Laws.{part_length}
use Rattle.paint.proofs.words.mix_in.Goals as goal

pub slice_bounds-mix_planes-end : goal.slice_bounds-mix_planes-end
slice_bounds-mix_planes-end c =
    omega (arith, c.requires.0, c.requires.2)

pub slice_bounds-mix_planes-end-2 : goal.slice_bounds-mix_planes-end-2
slice_bounds-mix_planes-end-2 c =
    omega (arith, c.requires.1, c.requires.2)

pub mix_planes-requires : goal.mix_planes-requires
mix_planes-requires c =
    let a = c.args in
    let n = length a.ks.now in
    let left = part_length a.left.now 0 n (omega arith) (omega (arith, c.requires.0, c.requires.2)) in
    let right = part_length a.right.now 0 n (omega arith) (omega (arith, c.requires.1, c.requires.2)) in
    (omega (arith, left), omega (arith, right), c.requires.2)

pub returns : goal.returns
returns c =
    c.mix_planes.ensures
