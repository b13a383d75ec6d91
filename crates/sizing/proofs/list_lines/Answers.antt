-- `list_lines` meets its contract: each turn prints a line, and behind the last newline the rest is accumulated.
use Rattle.std.proofs.Common.{rules, ◌+◌, ◌∙◌, sym}
use Rattle.std.proofs.lemmas.List.{take_rest}
use Rattle.sizing.proofs.PrintLaws.{lists_line, lists_rest}
use Rattle.sizing.proofs.list_lines.Goals as goal

pub loop-end-preserved : goal.loop-end-preserved
loop-end-preserved g c =
    let prints = rw c.with_bytes.ensures at c.in_ok-print_line.ensures.prints in
    let lists = lists_line c.loop-end.invariant.lists c.in-Some.end (g.W.Write.contents c.print_line.new.self.writer) c.print_line.new.self.output (sym c.in-Some.ensures.value) prints in
    record { shorter = search rules; lists = rw (c.new-line.ensures, take_rest c.loop-end.rest.now (c.in-Some.end + 1)) lists }

pub returns-clause-line : goal.returns-clause-line
returns-clause-line g c = c.with_bytes-2.ensures ∙ (lists_rest c.loop-end.invariant.lists (sym c.first_newline.ensures.value ∙ c.in_default.is)).0

pub returns-clause-prints : goal.returns-clause-prints
returns-clause-prints g c = (lists_rest c.loop-end.invariant.lists (sym c.first_newline.ensures.value ∙ c.in_default.is)).1
