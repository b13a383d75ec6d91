-- `cell_counts` meets its contract: each test is one of the definition's.
use Rattle.overflow.specs.Cells.{cell_size, cell_count, cell_of, decode_cell, cell_counts}
use Rattle.overflow.proofs.cell.cell_counts.Goals as goal
use Rattle.overflow.proofs.cell.cell_counts.Goals.{then-length-lt44-via-then-length-lt44, then-length-lt44-via-else-length-lt44+then-length-ne0}
use borrow.Author.Tests.{le-leb, lt-leb, eq-eqb, ne_eqb}
use Rattle.page.proofs.BytesLaws.{length-numbers_at}

pub returns-then-length-lt44 : goal.returns-then-length-lt44
unfolding cell_counts decode_cell
returns-then-length-lt44 c = elim c.then-length-lt44.branch [
  | then-length-lt44-via-then-length-lt44 w ↦ rw (lt-leb 44 _ w.if-length-lt44.true)
  | then-length-lt44-via-else-length-lt44+then-length-ne0 w ↦ rw (le-leb 44 _ w.if-length-lt44.false, ne_eqb _ 0 w.if-length-ne0.true)
]

pub returns-then-max_overflow_value_size-size : goal.returns-then-max_overflow_value_size-size
unfolding cell_counts decode_cell cell_size
returns-then-max_overflow_value_size-size c = rw (le-leb 44 _ c.if-length-lt44.false, eq-eqb _ 0 c.if-length-ne0.false, ← c.read_at-size.ensures, ← c.max_overflow_value_size.ensures, lt-leb _ _ c.if-max_overflow_value_size-size.true)

pub returns : goal.returns
unfolding cell_counts decode_cell cell_of cell_size cell_count
returns c = rw (le-leb 44 _ c.if-length-lt44.false, eq-eqb _ 0 c.if-length-ne0.false, ← c.read_at-size.ensures, ← c.max_overflow_value_size.ensures, le-leb _ _ c.if-max_overflow_value_size-size.false, length-numbers_at)
