-- `Printer::print_header` meets its contract: there is room for the header, and the buffer keeps its length.
use Rattle.std.proofs.Common.{arith}
use Rattle.listing.proofs.TextLaws.{length_header}
use Rattle.listing.proofs.PutLaws.{puts_length}
use Rattle.sizing.proofs.PrintLaws.{print_text}
use Rattle.sizing.proofs.printer.Printer.print_header.Goals as goal

pub invariant_of-self : goal.invariant_of-self
invariant_of-self g c = record { room = omega (arith, puts_length c.put_header.ensures) }

pub returns : goal.returns
returns g c = print_text _ _ c.args.self.now.output c.in_ok-make_room.ensures.prints c.in_ok-make_room.ensures.room c.put_header.ensures length_header
