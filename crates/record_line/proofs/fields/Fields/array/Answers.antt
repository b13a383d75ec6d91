-- Where the next number is refused, no array stands at the front of the line: that number is among its elements.
-- Assumes nothing.
use Rattle.std.proofs.Common.{arith, ◌<◌, length, map}
use Rattle.std.proofs.lemmas.List.{length-map}
use Rattle.record_line.proofs.FieldsLaws.{no_array}
use Rattle.record_line.proofs.fields.Fields.array.Goals as goal

pub returns-in_err-number-clause-wrong : goal.returns-in_err-number-clause-wrong
returns-in_err-number-clause-wrong g c =
    let number = g.T.Number.number in
    let taken = map number c.loop-i.items.items in
    let fewer : length taken < c.in_ok-length.length = rw (length-map c.loop-i.items.items number) (omega (arith, c.loop-i.invariant, c.loop-i-test.true)) in
    λ _. no_array g.T.TryFrom.try_from_gives c.in_ok-length.length taken c.loop-i.self c.args.self.now c.loop-i.invariant.1 fewer c.in_err-number.ensures.wrong
