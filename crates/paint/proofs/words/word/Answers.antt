-- `words::word` meets its contract.
use Rattle.std.proofs.Common.{◌≡◌, ap, ◌∙◌, arith}
use Rattle.paint.specs.Buffers.{packed, unpacked}
use Rattle.paint.proofs.Built.{packed_back}
use Rattle.paint.proofs.words.word.Goals as goal

back : (c : goal.Start) → unpacked (packed c.args.c) ≡ c.args.c
back c = packed_back c.args.c (omega arith) (omega arith) (omega arith) (omega arith)

pub pack-requires : goal.pack-requires
pack-requires c =
    tt

pub returns : goal.returns
returns c =
    ap unpacked c.pack.ensures ∙ back c.before
