-- `finish`: what was judged is the outcome, and the work is written.
use Rattle.refusal.specs.Effect.{effect}
use Rattle.free_list.specs.Reading.{ListTables, tables_now}
use Rattle.finisher.specs.Answers.{save_with}
use Rattle.finisher.proofs.finish.finish.Goals as goal
use Rattle.finisher.proofs.finish.finish.Goals.{In_ok-work}
use mathlib.Core.Path.{ap, sym, ◌∙◌}
use native.Mathlib.Omega.{arith}
use Rattle.std.proofs.lemmas.Result.{err_from_is_err_and}
use Rattle.refusal.specs.Outcome.{answer}
use Rattle.finisher.proofs.JudgeLaws.{judged_refused, judged_answered, goes_limit, goes_pages, goes_answer}

pub returns-in_err-work : goal.returns-in_err-work
returns-in_err-work c =
    let p = err_from_is_err_and c.from_residual.result c.from_residual.ensures.1 in
    rw (p.1, p.2) (judged_refused _ (save_with c.args.save (tables_now c.args.tables)) _ _ _ _ c.in_err-work.ensures.judged)

pub carry_out-requires : goal.carry_out-requires
carry_out-requires c = (judged_answered _ (save_with c.args.save (tables_now c.args.tables)) _ c.args.buffer.now c.args.numbers.now _ c.in_ok-work.ensures.size c.in_ok-work.ensures.judged).goes

pub store_after-requires : goal.store_after-requires
store_after-requires c =
    let g = (judged_answered _ (save_with c.args.save (tables_now c.args.tables)) _ c.args.buffer.now c.args.numbers.now _ c.in_ok-work.ensures.size c.in_ok-work.ensures.judged).goes in
    (goes_limit g, omega (arith, goes_pages g, c.carry_out.auto))

pub returns : goal.returns
returns c =
    let a = judged_answered _ (save_with c.args.save (tables_now c.args.tables)) _ c.args.buffer.now c.args.numbers.now _ c.in_ok-work.ensures.size c.in_ok-work.ensures.judged in
    let told = c.store_after.ensures ∙ goes_answer a.goes (ap (λ (t : ListTables). t.pages) c.carry_out.ensures.tables) in
    (λ i. effect (answer (told i)) (record { tables = c.carry_out.ensures.tables i; room = record { buffer = c.carry_out.ensures.buffer i; numbers = c.carry_out.ensures.numbers i; map = a.map_is i } })) ∙ sym a.into
