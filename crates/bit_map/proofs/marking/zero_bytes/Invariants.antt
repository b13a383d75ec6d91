-- `zero_bytes` meets its contract. The loop's invariant: what is left of the numbers takes the map to where all of them take it.
use Rattle.std.proofs.Common.{◌≡◌, true, length, drop}
use Rattle.bit_map.specs.BitMap.{has_bits}
use Rattle.bit_map.specs.Marking.{bytes_zero}
use Rattle.bit_map.proofs.marking.zero_bytes.Given as goal

abbrev pub invariant-loop-number : goal.invariant-loop-number
invariant-loop-number l = record {
  room : has_bits l.limit (length l.map) ≡ true;
  same : bytes_zero l.limit l.map (drop l.number-index l.numbers) ≡ bytes_zero l.limit l.initial.map l.numbers;
}
