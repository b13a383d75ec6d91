-- `write_pushes`: the freed numbers, the pages behind them, and the first two of these in turn where asked.
use Rattle.finisher.proofs.tables.write_pushes.Goals as goal
use Rattle.finisher.proofs.TablesLaws.{pushes_ordinary, pushes_mended}

pub returns-then-mended : goal.returns-then-mended
returns-then-mended c =
    rw c.if-mended.true
    (pushes_mended _ _ _ _ _ _ c.copy.ensures c.push_pages.ensures (c.requires.two c.if-mended.true) c.requires.entries_fit c.swap.ensures.after)

pub returns-else-mended : goal.returns-else-mended
returns-else-mended c = rw c.if-mended.false (pushes_ordinary _ _ _ _ _ _ c.copy.ensures c.push_pages.ensures)
