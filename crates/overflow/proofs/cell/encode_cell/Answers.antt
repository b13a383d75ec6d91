-- `encode_cell` meets its contract: one law for each refusal and one for the cell.
use Rattle.overflow.proofs.cell.encode_cell.Goals as goal
use native.Mathlib.Omega.{arith}
use Rattle.std.proofs.lemmas.List.{map-id}
use Rattle.overflow.proofs.CellsLaws.{cell_written}

pub returns : goal.returns
returns c =
    let few = rw c.max_overflow_value_size.ensures at c.if-max_overflow_value_size-size.false in
    cell_written _ _ _ _ _ few (omega (arith, c.well_formed)) c.if-cell-length.false c.write_at.ensures c.copy_steps.ensures.1 (rw map-id at c.write_numbers.ensures.bytes)
