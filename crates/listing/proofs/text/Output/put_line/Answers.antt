-- `put_line` meets its contract: in each arm the size is known, and its text is put part by part.
use Rattle.listing.specs.Text.{size_text}
use Rattle.listing.proofs.PutLaws.{puts_then}
use Rattle.listing.proofs.TextLaws.{length_size, length_bad}
use Rattle.listing.proofs.text.Output.put_line.Goals as goal

pub returns-in-None-clause-puts : goal.returns-in-None-clause-puts
unfolding size_text
returns-in-None-clause-puts c = rw (← c.in-None.ensures) c.put.ensures

pub returns-in-Some-clause-puts : goal.returns-in-Some-clause-puts
unfolding size_text
returns-in-Some-clause-puts c =
    let total = rw c.standard.ensures at c.page_total.ensures in
    rw (← c.in-Some.ensures, ← total) (puts_then c.put_digits.ensures.puts (puts_then c.put_outcome.ensures c.put-in-Some.ensures))

pub returns-in-None-clause-short : goal.returns-in-None-clause-short
returns-in-None-clause-short c = rw (← c.in-None.ensures) length_bad

pub returns-in-Some-clause-short : goal.returns-in-Some-clause-short
returns-in-Some-clause-short c = rw (← c.in-Some.ensures) (length_size c.in-Some.size c.put_digits.ensures.short)
