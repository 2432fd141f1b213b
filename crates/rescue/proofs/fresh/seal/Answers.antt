use mathlib.Core.Path.{◌∙◌}
use Rattle.rescue.proofs.Sealed.{sealed}
use Rattle.rescue.proofs.fresh.seal.Goals as goal

pub returns : goal.returns
returns c =
    let p = c.copy_from_slice in
    let q = c.copy_from_slice-2 in
    sealed c.args.b c.args.block.now p.new.self q.new.self c.checksum-k.result c.requires.1 c.checksum-k.ensures (p.ensures.after ∙ c.to_le_bytes.ensures)
    (q.ensures.after ∙ c.to_le_bytes-2.ensures)
