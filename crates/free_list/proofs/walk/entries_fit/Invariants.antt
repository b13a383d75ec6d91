-- `entries_fit` meets its contract. The loop's invariant: the first i entries fit where none of them was counted as bad.
use Rattle.std.proofs.Common.{◌≡◌, ◌≤◌, eqb}
use Rattle.page.specs.Bytes.{numbers_at}
use Rattle.free_list.specs.Reading.{all_entries_fit}
use Rattle.free_list.proofs.walk.entries_fit.Given as goal

abbrev pub invariant-loop-i : goal.invariant-loop-i
invariant-loop-i l = record {
  few : l.bad ≤ l.i;
  fit : all_entries_fit l.count (numbers_at 4 l.page 6 l.i) ≡ eqb l.bad 0;
}
