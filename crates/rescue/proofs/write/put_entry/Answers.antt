use Prim.Native.Nat.{◌+◌, ◌*◌}
use lib.ListN.{length, length-set}
use borrow.Author.Tests.{lt-ltb, le-ltb}
use Rattle.rescue.proofs.write.put_entry.Goals as goal

pub bounds-list-at-then-at-list : goal.bounds-list-at-then-at-list
bounds-list-at-then-at-list c =
    simp length-set c.if-at-list.true

pub returns-then-at-list : goal.returns-then-at-list
returns-then-at-list c =
    let a = c.args in rw (lt-ltb (2 * a.k + 1) (length a.list.now) c.if-at-list.true)

pub returns-else-at-list : goal.returns-else-at-list
returns-else-at-list c =
    let a = c.args in rw (le-ltb (2 * a.k + 1) (length a.list.now) c.if-at-list.false)
