-- The last number joins the others, or why the line is not right.
-- Assumes nothing.
use Rattle.std.proofs.Common.{◌∙◌, sym, eqb-true}
use Rattle.std.proofs.lemmas.Result.{err_from_is_err_and}
use Rattle.record_line.proofs.ReadingLaws.{reads_on, fails_read, end_number, end_no_number, end_full}
use Rattle.record_line.proofs.reading.Reading.end.Goals as goal

pub returns-in_err-self-clause-fault : goal.returns-in_err-self-clause-fault
returns-in_err-self-clause-fault c =
    let p = err_from_is_err_and c.from_residual.result c.from_residual.ensures.1 in
    λ bytes reads. rw (p.1, p.2) (fails_read c.args.self.now bytes c.in_err-self.was reads)

pub returns-in_err-number-clause-fault : goal.returns-in_err-number-clause-fault
returns-in_err-number-clause-fault c =
    let p = err_from_is_err_and c.from_residual-in_err-number.result c.from_residual-in_err-number.ensures.1 in
    λ bytes reads. rw (p.1, p.2) (end_no_number (rw c.in_err-number.ensures.ok_part at (reads_on c.args.self.now bytes c.in_ok-self.was reads)))

pub returns-then-is_full-clause-fault : goal.returns-then-is_full-clause-fault
returns-then-is_full-clause-fault c =
    λ bytes reads. end_full (reads_on c.args.self.now bytes c.in_ok-self.was reads) (eqb-true _ _ (sym c.is_full.ensures.value ∙ c.if-is_full.true))

pub returns-clause-ok : goal.returns-clause-ok
returns-clause-ok c =
    λ bytes reads. rw c.push.ensures.items (end_number (rw c.in_ok-number.ensures.ok_part at (reads_on c.args.self.now bytes c.in_ok-self.was reads)))
