-- `carry_out`: the number list, the tables and the pages are what the finish makes; where no page is written, nothing changes.
use Rattle.finisher.proofs.carry.carry_out.Goals as goal
use native.Mathlib.Omega.{arith}
use mathlib.Core.Path.{sym}
use lib.Seq.{length-take-le}
use Rattle.finisher.proofs.CarryLaws.{tables_room, bytes_enough, numbers_enough, goes_doable, same-tables, same-buffer, same-numbers, numbers_filled, numbers_carried, list_is, shape_is, encodable, buffer-carried}

pub returns-then-work-eq0-clause-tables : goal.returns-then-work-eq0-clause-tables
returns-then-work-eq0-clause-tables c = same-tables c.requires c.if-work-eq0.true

pub returns-then-work-eq0-clause-buffer : goal.returns-then-work-eq0-clause-buffer
returns-then-work-eq0-clause-buffer c = same-buffer c.requires c.if-work-eq0.true

pub returns-then-work-eq0-clause-numbers : goal.returns-then-work-eq0-clause-numbers
returns-then-work-eq0-clause-numbers c = same-numbers c.requires c.if-work-eq0.true

pub fill_numbers-requires : goal.fill_numbers-requires
fill_numbers-requires c = record { doable = goes_doable c.requires c.if-work-eq0.false; numbers_fit = numbers_enough c.requires }

pub write_tables-requires : goal.write_tables-requires
write_tables-requires c =
    let enough = numbers_enough c.requires in
    record {
      fillable = record { doable = goes_doable c.requires c.if-work-eq0.false; numbers_fit = omega (arith, enough, c.fill_numbers.auto) };
      numbers_are = numbers_filled (goes_doable c.requires c.if-work-eq0.false) c.args.numbers.now enough c.fill_numbers.ensures;
    }

pub slice_bounds-new-end : goal.slice_bounds-new-end
slice_bounds-new-end c = omega (arith, (tables_room (goes_doable c.requires c.if-work-eq0.false)).0, c.write_tables.auto)

pub slice_bounds-new-end-2 : goal.slice_bounds-new-end-2
slice_bounds-new-end-2 c = sym (length-take-le _ _ (omega (arith, (tables_room (goes_doable c.requires c.if-work-eq0.false)).0, c.write_tables.auto)))

pub slice_bounds-new-end-3 : goal.slice_bounds-new-end-3
slice_bounds-new-end-3 c = omega (arith, (tables_room (goes_doable c.requires c.if-work-eq0.false)).1, c.write_tables.auto)

pub slice_bounds-new-end-4 : goal.slice_bounds-new-end-4
slice_bounds-new-end-4 c = sym (length-take-le _ _ (omega (arith, (tables_room (goes_doable c.requires c.if-work-eq0.false)).1, c.write_tables.auto)))

pub new-list-requires : goal.new-list-requires
new-list-requires c = shape_is (goes_doable c.requires c.if-work-eq0.false) c.write_tables.ensures

pub encode_pages-requires : goal.encode_pages-requires
encode_pages-requires c =
    let h = goes_doable c.requires c.if-work-eq0.false in
    rw c.new-list.ensures.list (encodable h c.saturating_sub-first.ensures (list_is h c.write_tables.ensures) (bytes_enough c.requires))

pub returns-clause-tables : goal.returns-clause-tables
returns-clause-tables c = c.write_tables.ensures

pub returns-clause-buffer : goal.returns-clause-buffer
returns-clause-buffer c =
    let h = goes_doable c.requires c.if-work-eq0.false in
    buffer-carried h c.saturating_sub-first.ensures (list_is h c.write_tables.ensures) c.args.buffer.now (rw c.new-list.ensures.list at c.encode_pages.ensures)

pub returns-clause-numbers : goal.returns-clause-numbers
returns-clause-numbers c = numbers_carried (goes_doable c.requires c.if-work-eq0.false) c.args.numbers.now c.fill_numbers.ensures
