-- `Printer::print_line` meets its contract: there is room for a line's text, the buffer keeps its length, and behind the text nothing more is printed.
use Rattle.std.proofs.Common.{arith}
use Rattle.std.proofs.lemmas.Result.{on_ok_weaker}
use Rattle.listing.proofs.PutLaws.{puts_length}
use Rattle.sizing.proofs.PrintLaws.{print_text, prints_more}
use Rattle.sizing.proofs.printer.Printer.print_line.Goals as goal

pub invariant_of-self : goal.invariant_of-self
invariant_of-self g c = record { room = omega (arith, puts_length c.put_line.ensures.puts) }

pub returns-clause-prints : goal.returns-clause-prints
returns-clause-prints g c =
    let text = print_text _ _ c.args.self.now.output c.in_ok-make_room.ensures.prints c.in_ok-make_room.ensures.room c.put_line.ensures.puts c.put_line.ensures.short in
    on_ok_weaker c.make_room-2.result (prints_more _ _ _ c.args.self.now.output c.put_line.new.self c.make_room-2.new.self.output _ text) c.make_room-2.ensures.prints
