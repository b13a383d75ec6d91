-- `Printer::make_room` meets its contract where it writes: what waited is written, and nothing more is printed.
use Rattle.sizing.proofs.PrintLaws.{write_prints, on_ok_both}
use Rattle.sizing.proofs.printer.Printer.make_room.Goals as goal

pub returns-then-room-lt-MAX_TEXT-clause-prints : goal.returns-then-room-lt-MAX_TEXT-clause-prints
returns-then-room-lt-MAX_TEXT-clause-prints g c =
    on_ok_both c.flush.result (write_prints _ _ c.args.self.now.output c.flush.new.self.output) c.flush.ensures.written c.flush.ensures.empty
