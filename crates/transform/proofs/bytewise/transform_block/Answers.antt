-- `transform::bytewise::transform_block` meets its contract: the bytes before i are transformed, and the others are as they were.
use mathlib.Core.Path.{◌≡◌, ap, ◌∙◌}
use Prim.Native.Nat.{ℕ, ◌*◌, ◌≤◌, ◌<◌}
use native.Mathlib.Omega.{arith}
use lib.IntN.{pos, nat_abs, ◌+ℤ◌, ◌*ℤ◌}
use lib.ListN.{length, get_or, length-set}
use mir.Syntax.{w16, w32}
use mir.Facts.{to_z-of_z}
use Rattle.lists.proofs.Laws.{tab_turn, tab_all, tab_read}
use Rattle.fixed.specs.Floor.{floor_div}
use Rattle.fixed.proofs.Signed.{clean}
use Rattle.transform.specs.Transforms.{byte_in}
use Rattle.transform.specs.Bytewise.{addend}
use Rattle.transform.proofs.Laid.{laid_length, laid_within, addend_within, byte_at, laid_bytes}
use Rattle.transform.proofs.bytewise.transform_block.Goals as goal
use Rattle.transform.proofs.bytewise.transform_block.Tie as tie
use Rattle.transform.proofs.bytewise.transform_block.Lts as lts
use Rattle.transform.proofs.bytewise.transform_block.Reads as reads

scales-length : (c : lts.Start tie.the-claims reads.Pre reads.Post goal.the-invariant-loop-i goal.the-decreases-loop-i tie.handed_clauses)
    → length c.args.scales.now ≡ 64
scales-length c = ap length c.requires.narrow.1 ∙ laid_length _ _ _ _

addends-length : (c : lts.Start tie.the-claims reads.Pre reads.Post goal.the-invariant-loop-i goal.the-decreases-loop-i tie.handed_clauses)
    → length c.args.addends.now ≡ 64
addends-length c = ap length c.requires.narrow.2 ∙ laid_length _ _ _ _

addend_small : (c : lts.Start tie.the-claims reads.Pre reads.Post goal.the-invariant-loop-i goal.the-decreases-loop-i tie.handed_clauses) (i : ℕ) → i < 64
    → nat_abs (get_or c.args.addends.now i (pos 0)) ≤ 65408
addend_small c i h =
    let t = c.args.t in
    let b = c.requires.narrow.0.biases in
    rw c.requires.narrow.2
    (laid_within (addend t.br) (addend t.bg) (addend t.bb) (addend t.ba) 65408
    (addend_within t.br b.0, addend_within t.bg b.1, addend_within t.bb b.2, addend_within t.ba b.3) i h)

pub bounds-scales-i : goal.bounds-scales-i
bounds-scales-i c =
    omega (arith, scales-length c.before.before.before.before.before)

pub bounds-addends-i : goal.bounds-addends-i
bounds-addends-i c =
    omega (arith, addends-length c.before.before.before.before.before.before)

pub transform_byte-requires : goal.transform_byte-requires
transform_byte-requires c =
    let small = addend_small c.before.before.before.before.before.before.before c.loop-i.i (omega (arith, c.requires.row_len)) in
    rw (clean w32 65408 _ tt small) small

pub loop-i-preserved : goal.loop-i-preserved
loop-i-preserved c =
    let a = c.args in
    let l = c.loop-i in
    let f : ℕ → ℕ = byte_at a.scales.now a.addends.now a.row.now in
    let byte = rw (
      to_z-of_z {w = w16} (record { sfits = c.transform_byte-arg-1.given }),
      to_z-of_z {w = w32} (record { sfits = c.transform_byte-arg-in-loop-i-1.given }),
    ) at c.transform_byte.ensures in (
      simp length-set (omega arith),
      tab_turn f l.row a.row.now l.i c.transform_byte.result
          (byte
          ∙ ap (λ (d : ℕ). byte_in (floor_div (pos d *ℤ get_or a.scales.now l.i (pos 0) +ℤ get_or a.addends.now l.i (pos 0)) 256))
          (tab_read f l.row a.row.now l.i 0 l.invariant.1))
          l.invariant.1 (omega (arith, c.requires.row_len)),
    )

pub returns : goal.returns
returns c =
    let a = c.args in
    let l = c.loop-i in
    let f : ℕ → ℕ = byte_at a.scales.now a.addends.now a.row.now in
    tab_all f l.row a.row.now l.i (a.n * 4) l.invariant.1 (omega arith) (omega (arith, c.requires.row_len))
    ∙ rw (c.requires.narrow.1, c.requires.narrow.2) (laid_bytes a.t a.row.now a.n c.requires.row_len.1)
