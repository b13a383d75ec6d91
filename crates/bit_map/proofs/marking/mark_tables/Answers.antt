-- `mark_tables` meets its contract: a table is marked where those before it were.
use Rattle.std.proofs.Common.{◌++◌}
use Rattle.bit_map.proofs.marking.mark_tables.Goals as goal
use mathlib.Core.Path.{sym, ◌∙◌}
use Rattle.bit_map.proofs.MarkingLaws.{marks_on, marks_off}

pub returns-then-not-mark_all : goal.returns-then-not-mark_all
returns-then-not-mark_all c = sym (marks_off c.args.limit c.args.map.now c.args.a.now (c.args.b.now ++ c.args.c.now) c.mark_all.ensures c.if-not-mark_all.true)

pub returns-then-not-mark_all-2 : goal.returns-then-not-mark_all-2
returns-then-not-mark_all-2 c =
    let x = c.args in
    sym (marks_on x.limit x.map.now x.a.now (x.b.now ++ x.c.now) c.mark_all.ensures c.if-not-mark_all.false ∙ marks_off x.limit c.mark_all.new.map x.b.now x.c.now c.mark_all-2.ensures c.if-not-mark_all-2.true)

pub returns : goal.returns
returns c =
    let x = c.args in
    c.mark_all-3.ensures
    ∙ sym (marks_on x.limit x.map.now x.a.now (x.b.now ++ x.c.now) c.mark_all.ensures c.if-not-mark_all.false ∙ marks_on x.limit c.mark_all.new.map x.b.now x.c.now c.mark_all-2.ensures c.if-not-mark_all-2.false)
