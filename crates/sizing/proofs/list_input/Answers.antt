-- `list_input` meets its contract: each turn reads a part and prints its lines, and a turn that reads nothing leaves what was read as it is.
use Rattle.std.proofs.Common.{take}
use Rattle.sizing.proofs.PrintLaws.{reads_none, reads_part, reads_end}
use Rattle.sizing.proofs.list_input.Goals as goal

pub loop-init : goal.loop-init
loop-init g c = rw c.new-line.ensures (reads_none _ _ c.args.printer.now.output)

pub loop-preserved : goal.loop-preserved
loop-preserved g c =
    reads_part c.loop.invariant (take c.read-count.result c.read-count.new.input) (g.R.Read.remaining c.read-count.new.reader)
    (g.W.Write.contents c.list_lines.new.printer.writer) c.list_lines.new.printer.output c.in_ok-line.line
    c.read-count.ensures.consumes c.in_ok-line.ensures.prints c.in_ok-line.ensures.line

pub returns-after-loop : goal.returns-after-loop
returns-after-loop g c = c.loop.invariant

pub returns-then-count-eq0 : goal.returns-then-count-eq0
returns-then-count-eq0 g c = reads_end c.loop.invariant (g.R.Read.remaining c.read-count.new.reader) (rw c.if-count-eq0.true at c.read-count.ensures.consumes)
