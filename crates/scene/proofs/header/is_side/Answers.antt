-- `scene::header::is_side` meets its contract.
use borrow.Author.Tests.{le-leb, lt-leb}
use Rattle.scene.proofs.header.is_side.Goals as goal

pub returns-then-n-ge1 : goal.returns-then-n-ge1
returns-then-n-ge1 c =
    rw (le-leb 1 c.args.n c.if-n-ge1.true)

pub returns-else-n-ge1 : goal.returns-else-n-ge1
returns-else-n-ge1 c =
    rw (lt-leb 1 c.args.n c.if-n-ge1.false)
