-- `mark_list` meets its contract. The loop's invariant: marking what is left of the list gives what marking all of it gives.
use Rattle.std.proofs.Common.{◌≡◌, ◌-◌, true, length}
use Rattle.bit_map.specs.BitMap.{has_bits}
use Rattle.bit_map.specs.Marking.{mark_all}
use Rattle.free_list.specs.Steps.{chain_numbers, Readable}
use Rattle.free_list.proofs.repeats.mark_list.Given as goal

abbrev pub invariant-loop : goal.invariant-loop
invariant-loop l = record {
  readable : Readable l.store.page_size l.store.bytes (l.fn.list.pages - l.counter) l.page;
  room : has_bits l.limit (length l.map) ≡ true;
  same : mark_all l.limit l.map (chain_numbers l.store.page_size l.store.bytes (l.fn.list.pages - l.counter) l.page)
      ≡ mark_all l.limit l.fn.map (chain_numbers l.store.page_size l.store.bytes l.fn.list.pages l.head);
}
