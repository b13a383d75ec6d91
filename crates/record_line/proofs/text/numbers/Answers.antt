-- The parts that the loop went over are those of the line, and one that is no number is among them.
-- Assumes nothing.
use Rattle.std.proofs.Common.{◌∙◌, ap, lit<, subst, All, map, sym, length, ℕ, List}
use Rattle.std.specs.Str.Parse.{digits_value}
use Rattle.std.proofs.lemmas.Iterator.Consumers.{YieldsList-at, YieldsList-end, YieldsList-turn}
use Rattle.std.proofs.lemmas.Iterator.Splits.{YieldsList-from_str_split}
use Rattle.record_line.specs.Text.{IsNumber}
use Rattle.record_line.proofs.text.numbers.Goals as goal

pub returns-clause-ok : goal.returns-clause-ok
returns-clause-ok c =
    let split = c.split-field-items.ensures in
    let road = YieldsList-at c.into_iter-field-iterator.ensures.into_iter_gives (YieldsList-from_str_split 32 c.args.line.now (lit< tt) split.text split.has_more split.pattern) in
    let whole = YieldsList-end road c.loop-field.yielded _ c.loop-field.yielded_by _ _ c.in-None.is c.next.ensures.steps in
    let P : List (List ℕ) → Type 0 = All IsNumber in
    (subst P whole.0 c.loop-field.invariant.3, c.loop-field.invariant.2 ∙ ap (map (digits_value 10)) whole.0)

pub returns-in_err-number-clause-wrong : goal.returns-in_err-number-clause-wrong
returns-in_err-number-clause-wrong c =
    let split = c.split-field-items.ensures in
    let road = YieldsList-at c.into_iter-field-iterator.ensures.into_iter_gives (YieldsList-from_str_split 32 c.args.line.now (lit< tt) split.text split.has_more split.pattern) in
    let turn = YieldsList-turn road c.loop-field.yielded _ c.loop-field.yielded_by _ _ c.in-Some.field c.in-Some.is c.next.ensures.steps in
    let P : List ℕ → Type 0 = IsNumber in
    λ _ all. c.in_err-number.ensures (subst P (sym turn.1) (all (length c.loop-field.yielded) c.in-Some.field.now turn.0))
