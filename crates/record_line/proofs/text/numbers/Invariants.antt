-- The parts so far are numbers, and these are what was pushed.
-- Assumes nothing.
use Rattle.std.proofs.Common.{◌≡◌, All, map}
use Rattle.std.specs.Str.Parse.{digits_value}
use Rattle.record_line.specs.Text.{IsNumber}
use Rattle.record_line.proofs.text.numbers.Given as goal

abbrev pub invariant-loop-field : goal.invariant-loop-field
invariant-loop-field l =
    (goal.iterator-loop-field).can_next l.field-iterator × (goal.iterator-loop-field).is_finite l.field-iterator
    × (l.numbers.items ≡ map (digits_value 10) (map (λ x. x.now) l.yielded))
    × All IsNumber (map (λ x. x.now) l.yielded)
