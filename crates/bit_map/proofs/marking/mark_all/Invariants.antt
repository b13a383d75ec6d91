-- `mark_all` meets its contract. The loop's invariant: marking what is left gives what marking all gives.
use Rattle.std.proofs.Common.{◌≡◌, true, length, drop}
use Rattle.bit_map.specs.BitMap.{has_bits}
use Rattle.bit_map.specs.Marking.{mark_all}
use Rattle.bit_map.proofs.marking.mark_all.Given as goal

abbrev pub invariant-loop-number : goal.invariant-loop-number
invariant-loop-number l = record {
  room : has_bits l.limit (length l.map) ≡ true;
  same : mark_all l.limit l.map (drop l.number-index l.numbers) ≡ mark_all l.limit l.initial.map l.numbers;
}
