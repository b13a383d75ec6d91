-- `read_numbers`: the first i numbers stand in the table.
use Rattle.std.proofs.Common.{◌≡◌, map}
use Rattle.std.proofs.lemmas.List.Edits.{sets}
use Rattle.page.specs.Bytes.{numbers_at}
use Rattle.page.proofs.little_endian.read_numbers.Given as goal

abbrev pub invariant-loop-i : goal.invariant-loop-i
invariant-loop-i g l = map g.T.LittleEndian.value l.table ≡ sets (map g.T.LittleEndian.value l.initial.table) 0 (numbers_at g.T.LittleEndian.WIDTH l.b l.at l.i)
