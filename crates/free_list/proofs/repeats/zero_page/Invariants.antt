-- `zero_page` meets its contract. The loop's invariant: the entries that are left take the map to where the page takes it.
use Rattle.std.proofs.Common.{◌≡◌, ◌∷◌, true, length, drop}
use Rattle.bit_map.specs.BitMap.{has_bits}
use Rattle.bit_map.specs.Marking.{bytes_zero}
use Rattle.free_list.specs.ListPages.{entries_of}
use Rattle.free_list.proofs.repeats.zero_page.Given as goal

abbrev pub invariant-loop-i : goal.invariant-loop-i
invariant-loop-i l = record {
  room : has_bits l.limit (length l.map) ≡ true;
  same : bytes_zero l.limit l.map (drop l.i (entries_of l.bytes)) ≡ bytes_zero l.limit l.fn.map (l.page ∷ entries_of l.bytes);
}
