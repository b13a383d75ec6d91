-- `zero_list` meets its contract. The loop's invariant: what is left of the list takes the map to where all of it takes it.
use Rattle.std.proofs.Common.{◌≡◌, ◌-◌, true, length}
use Rattle.bit_map.specs.BitMap.{has_bits}
use Rattle.bit_map.specs.Marking.{bytes_zero}
use Rattle.free_list.specs.Steps.{chain_numbers, Readable}
use Rattle.free_list.proofs.repeats.zero_list.Given as goal

abbrev pub invariant-loop : goal.invariant-loop
invariant-loop l = record {
  readable : Readable l.store.page_size l.store.bytes (l.fn.list.pages - l.counter) l.page;
  room : has_bits l.limit (length l.map) ≡ true;
  same : bytes_zero l.limit l.map (chain_numbers l.store.page_size l.store.bytes (l.fn.list.pages - l.counter) l.page)
      ≡ bytes_zero l.limit l.fn.map (chain_numbers l.store.page_size l.store.bytes l.fn.list.pages l.head);
}
