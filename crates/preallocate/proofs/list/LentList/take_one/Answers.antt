-- `take_one`: with no entry left, `taken` and `named` are those of the bump.
use Rattle.preallocate.specs.Steps.{taken, named}
use Rattle.preallocate.proofs.list.LentList.take_one.Goals as goal
use native.Mathlib.Omega.{arith}
use borrow.Author.Tests.{lt-leb}

pub returns-then-p-eq0 : goal.returns-then-p-eq0
unfolding taken named
returns-then-p-eq0 c = rw (lt-leb 1 c.args.p.entries (omega arith)) c.take_bump.ensures
