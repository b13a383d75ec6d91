-- `encode_pages`: the pages from `first` up to page j stand in the buffer, one behind the other.
use Rattle.std.proofs.Common.{◌-◌}
use Rattle.finisher.proofs.encode.encode_pages.Given as goal
use Rattle.finisher.proofs.EncodeLaws.{Encoded}

abbrev pub invariant-loop-j : goal.invariant-loop-j
invariant-loop-j l = Encoded l.list.page_size l.list.list l.first (l.j - l.first) l.initial.buffer l.buffer
