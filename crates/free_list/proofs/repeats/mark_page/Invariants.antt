-- `mark_page` meets its contract. The loop's invariant: marking the entries that are left gives what marking the page gives.
use Rattle.std.proofs.Common.{◌≡◌, ◌∷◌, true, length, drop}
use Rattle.bit_map.specs.BitMap.{has_bits}
use Rattle.bit_map.specs.Marking.{mark_all}
use Rattle.free_list.specs.ListPages.{entries_of}
use Rattle.free_list.proofs.repeats.mark_page.Given as goal

abbrev pub invariant-loop-i : goal.invariant-loop-i
invariant-loop-i l = record {
  room : has_bits l.limit (length l.map) ≡ true;
  same : mark_all l.limit l.map (drop l.i (entries_of l.bytes)) ≡ mark_all l.limit l.fn.map (l.page ∷ entries_of l.bytes);
}
