-- `list_input` meets its contract. The invariant: the lines of what was read are printed.
use Rattle.sizing.specs.Print.{ReadsLinesOn}
use Rattle.sizing.proofs.list_input.Given as goal

abbrev pub invariant-loop : goal.invariant-loop
invariant-loop g l =
    ReadsLinesOn (g.R.Read.remaining l.initial.reader) (g.R.Read.remaining l.reader) (g.W.Write.contents l.initial.printer.writer) l.initial.printer.output
    (g.W.Write.contents l.printer.writer) l.printer.output l.line
