-- `list` meets its contract: the header, the lines that ended and the last one are the listing of what was read.
use Rattle.std.proofs.lemmas.Result.{on_ok_weaker}
use Rattle.sizing.proofs.PrintLaws.{prints_listing}
use Rattle.sizing.proofs.list.Goals as goal

pub returns : goal.returns
returns g c =
    on_ok_weaker c.flush.result
    (prints_listing _ c.args.printer.now.output (g.W.Write.contents c.print_last.new.self.writer) c.print_last.new.self.output _ c.in_ok-print_header.ensures c.in_ok-line.ensures c.in_ok-print_last.ensures)
    c.flush.ensures.written
