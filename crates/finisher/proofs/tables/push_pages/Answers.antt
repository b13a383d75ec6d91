-- `push_pages`: the pages are copied, and then turned round where they stand.
use Rattle.finisher.proofs.tables.push_pages.Goals as goal
use native.Mathlib.Omega.{arith}
use Rattle.finisher.proofs.TablesLaws.{written_reversed}

pub returns : goal.returns
returns c = written_reversed c.args.table.now c.copy.new.b c.args.pages.now c.args.at _ c.requires (omega arith) c.copy.ensures c.reverse.ensures.after
