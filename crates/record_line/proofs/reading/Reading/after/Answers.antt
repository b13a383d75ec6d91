-- A space ends a number, a digit joins it, and no line begins with any other byte behind it.
-- Assumes nothing.
use Rattle.std.proofs.lemmas.Result.{err_from_is_err_and}
use Rattle.record_line.proofs.ReadingLaws.{reads_on, fails_behind, after_space, after_digit, after_other}
use Rattle.record_line.proofs.reading.Reading.after.Goals as goal

pub returns-in_err-end : goal.returns-in_err-end
returns-in_err-end c =
    let p = err_from_is_err_and c.from_residual.result c.from_residual.ensures.1 in
    λ bytes reads. rw (p.1, p.2, c.if-byte-eq32.true) (fails_behind c.in_err-end.field-0.0 bytes (c.in_err-end.ensures.fault bytes reads))

pub returns-then-byte-eq32 : goal.returns-then-byte-eq32
returns-then-byte-eq32 c =
    λ bytes reads. let ended = c.in_ok-end.ensures.ok bytes reads in rw c.if-byte-eq32.true (after_space bytes ended.0 ended.1)

pub returns-in_err-number : goal.returns-in_err-number
returns-in_err-number c =
    let p = err_from_is_err_and c.from_residual-in_err-number.result c.from_residual-in_err-number.ensures.1 in
    let other = rw c.unwrap_or.ensures at c.in_err-number.ensures in
    λ bytes reads. rw (p.1, p.2) (after_other (reads_on c.args.self.now bytes c.in_ok-self.was reads) c.args.byte c.if-byte-eq32.false other)

pub returns : goal.returns
returns c =
    let digit = rw c.unwrap_or.ensures at c.in_ok-number.ensures in
    λ bytes reads. rw digit.1 (after_digit (reads_on c.args.self.now bytes c.in_ok-self.was reads) c.args.byte digit.0.0 digit.0.1)
