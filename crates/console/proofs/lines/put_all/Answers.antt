use mathlib.Core.Path.{◌≡◌, refl, ◌∙◌}
use mathlib.Core.List.{List, foldl-append}
use Prim.Native.Nat.{ℕ, ◌+◌, ◌<◌}
use native.Mathlib.Numerals.{add-one}
use native.Mathlib.Omega.{arith}
use lib.ListN.{length, take, get_or}
use lib.Seq.{take-suc, take_all}
use Rattle.console.specs.declared.Line.{Line}
use Rattle.console.specs.Lines.{with_byte, with_bytes}
use Rattle.console.proofs.lines.put_all.Goals as goal

-- one byte more
put-more : (l : Line) (s : List ℕ) (i : ℕ) (m r : Line) → i < length s → m ≡ with_bytes l (take i s) → r ≡ with_byte m (get_or s i 0)
    → r ≡ with_bytes l (take (i + 1) s)
put-more l s i m r h e f = f ∙ rw (e, add-one, take-suc s i 0 h, foldl-append)

pub loop-i-init : goal.loop-i-init
loop-i-init c =
    refl

pub loop-i-preserved : goal.loop-i-preserved
loop-i-preserved c =
    let l = c.loop-i in
    let a = c.args in
    put-more a.l a.s.now l.i l.next c.byte-next.result (omega arith) l.invariant c.byte-next.ensures

pub returns : goal.returns
returns c =
    let l = c.loop-i in
    let a = c.args in
    l.invariant ∙ rw (take_all l.i a.s.now (omega arith))
