-- `put` meets its contract where there is room: as many bytes are put as fit.
use Rattle.std.proofs.Common.{refl}
use Rattle.listing.proofs.PutLaws.{puts_fitting}
use Rattle.listing.proofs.text.Output.put.Goals as goal

pub returns-then-room-gt0 : goal.returns-then-room-gt0
returns-then-room-gt0 c = puts_fitting c.args.bytes.now c.min-n.result (rw c.room-room.ensures at c.min-n.ensures) refl c.copy.ensures refl
