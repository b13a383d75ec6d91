-- `judge` meets its contract: its tests are those of `fitted`, in order.
use Rattle.finisher.proofs.judge.judge.Goals as goal
use mathlib.Core.Path.{sym, ◌∙◌}
use native.Mathlib.Omega.{arith}
use Rattle.std.proofs.lemmas.Result.{err_from_is_err_and}
use Rattle.page.proofs.PageSizeLaws.{page_least}
use Rattle.finisher.proofs.JudgeLaws.{admit_refused, admit_answered, judged-repeat, judged-tables, judged-buffer, judged-all}

pub returns-in_err-work-clause-judged : goal.returns-in_err-work-clause-judged
returns-in_err-work-clause-judged c =
    let p = err_from_is_err_and c.from_residual.result c.from_residual.ensures.1 in
    rw (p.1, p.2) (admit_refused _ _ _ _ _ c.in_err-work.ensures)

pub numbers_differ-requires : goal.numbers_differ-requires
numbers_differ-requires c = admit_answered _ _ _ _ c.in_ok-work.ensures

pub returns-then-not-numbers_differ-clause-judged : goal.returns-then-not-numbers_differ-clause-judged
returns-then-not-numbers_differ-clause-judged c =
    let a = admit_answered _ _ _ _ c.in_ok-work.ensures in
    rw c.numbers_differ.ensures.map (judged-repeat c.args.room c.args.map.now a (sym c.numbers_differ.ensures.differ ∙ c.if-not-numbers_differ.true))

pub returns-then-not-tables_fit-clause-judged : goal.returns-then-not-tables_fit-clause-judged
returns-then-not-tables_fit-clause-judged c =
    let a = rw (← c.lent.view_is) at (admit_answered _ _ _ _ c.in_ok-work.ensures) in
    let differ = rw (← c.lent.view_is) at (sym c.numbers_differ.ensures.differ ∙ c.if-not-numbers_differ.false) in
    rw (c.numbers_differ.ensures.map, ← c.lent.view_is) (judged-tables c.args.room c.args.map.now a differ (sym c.tables_fit.ensures ∙ c.if-not-tables_fit.true))

pub pages_fit-requires : goal.pages_fit-requires
pages_fit-requires c = omega (arith, page_least c.bytes-size.ensures.size)

pub returns-then-not-pages_fit-clause-judged : goal.returns-then-not-pages_fit-clause-judged
returns-then-not-pages_fit-clause-judged c =
    let a = rw (← c.lent.view_is) at (admit_answered _ _ _ _ c.in_ok-work.ensures) in
    let differ = rw (← c.lent.view_is) at (sym c.numbers_differ.ensures.differ ∙ c.if-not-numbers_differ.false) in
    let room = rw c.bytes-size.ensures.bytes at c.pages_fit.ensures in
    rw (c.numbers_differ.ensures.map, ← c.lent.view_is) (judged-buffer c.args.room c.args.map.now a differ (sym c.tables_fit.ensures ∙ c.if-not-tables_fit.false) (sym room ∙ c.if-not-pages_fit.true))

pub returns-clause-judged : goal.returns-clause-judged
returns-clause-judged c =
    let a = rw (← c.lent.view_is) at (admit_answered _ _ _ _ c.in_ok-work.ensures) in
    let differ = rw (← c.lent.view_is) at (sym c.numbers_differ.ensures.differ ∙ c.if-not-numbers_differ.false) in
    let room = rw c.bytes-size.ensures.bytes at c.pages_fit.ensures in
    rw (c.numbers_differ.ensures.map, ← c.lent.view_is) (judged-all c.args.room c.args.map.now a differ (sym c.tables_fit.ensures ∙ c.if-not-tables_fit.false) (sym room ∙ c.if-not-pages_fit.false))
