-- `put_number` meets its contract: a space, then the digits.
use Rattle.listing.specs.Text.{number_text}
use Rattle.listing.proofs.PutLaws.{puts_then}
use Rattle.listing.proofs.text.Output.put_number.Goals as goal

pub returns : goal.returns
unfolding number_text
returns c = puts_then c.put.ensures c.put_digits.ensures.puts
