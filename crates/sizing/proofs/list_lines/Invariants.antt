-- `list_lines` meets its contract. The invariant: what was printed, with what the rest prints, is what the part prints; and the rest is no longer than
-- the part. The measure is what is left of the bytes.
use Rattle.std.proofs.Common.{◌≤◌, length}
use Rattle.sizing.proofs.PrintLaws.{Lists}
use Rattle.sizing.proofs.list_lines.Given as goal

abbrev pub invariant-loop-end : goal.invariant-loop-end
invariant-loop-end g l =
    record {
      shorter : length l.rest ≤ length l.bytes;
      lists : Lists (g.W.Write.contents l.initial.printer.writer) l.initial.printer.output l.initial.line l.bytes (g.W.Write.contents l.printer.writer) l.printer.output l.line l.rest;
    }

abbrev pub decreases-loop-end : goal.decreases-loop-end
decreases-loop-end g l = length l.rest
