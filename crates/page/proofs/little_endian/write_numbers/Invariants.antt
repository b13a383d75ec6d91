-- `write_numbers`: the first numbers are written, and as many are counted.
use Rattle.std.proofs.Common.{◌≡◌, take, map}
use Rattle.std.proofs.lemmas.List.Edits.{sets}
use Rattle.page.specs.Bytes.{bytes_of_all}
use Rattle.page.proofs.little_endian.write_numbers.Given as goal

abbrev pub invariant-loop-number : goal.invariant-loop-number
invariant-loop-number g l = record {
  counted : l.written ≡ l.number-index;
  written : l.b ≡ sets l.initial.b l.at (bytes_of_all g.T.LittleEndian.WIDTH (take l.number-index (map g.T.LittleEndian.value l.table)));
}
