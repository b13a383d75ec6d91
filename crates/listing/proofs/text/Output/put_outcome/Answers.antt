-- `put_outcome` meets its contract: in each arm the outcome is known, and its text is put part by part.
use Rattle.listing.specs.Text.{outcome_text}
use Rattle.listing.proofs.PutLaws.{puts_then}
use Rattle.listing.proofs.text.Output.put_outcome.Goals as goal

pub returns-in-Ok : goal.returns-in-Ok
unfolding outcome_text
returns-in-Ok c = rw c.in-Ok.is (puts_then c.put_number.ensures (puts_then c.put_number-in-Ok.ensures c.put_number-in-Ok-2.ensures))

pub returns-in-Err : goal.returns-in-Err
unfolding outcome_text
returns-in-Err c = rw (c.in-Err.is, ← c.from.ensures, ← c.from-in-Err.ensures) (puts_then c.put.ensures c.put_number-in-Err.ensures)
