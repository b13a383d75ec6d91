-- `numbers_differ` meets its contract: marking from a cleared map judges the numbers, and either way of clearing leaves the same.
use Rattle.std.proofs.Common.{◌≡◌}
use Rattle.free_list.proofs.repeats.numbers_differ.Goals as goal
use Rattle.free_list.proofs.repeats.numbers_differ.Goals.{After-mark_list-differ}
use mathlib.Core.Path.{ap, ◌∙◌}
use mathlib.Core.Bool.{◌&&◌}
use lib.Dec.{leb}
use Rattle.laws.specs.Counting.{all_below, all_different}
use Rattle.page.specs.Pages.{page_count}
use Rattle.bit_map.specs.BitMap.{bytes_in_use, cleared}
use Rattle.bit_map.specs.Marking.{Marking, mark_all, bytes_zero}
use Rattle.bit_map.proofs.MarkingLaws.{judged, zeroed_again, cleared_again}
use Rattle.free_list.specs.Reading.{numbers_of}
use Rattle.free_list.specs.Steps.{chain_from, chain_numbers}
use Rattle.free_list.proofs.RepeatsLaws.{chain_judged}

pub clear-requires : goal.clear-requires
clear-requires c = rw c.page_count-limit.ensures c.requires.room

pub mark_list-differ-requires : goal.mark_list-differ-requires
mark_list-differ-requires c =
    record { size = c.requires.size; readable = c.requires.readable; room = ap (leb (bytes_in_use (page_count c.args.store.now.page_size c.args.store.now.bytes))) c.clear.auto.map ∙ c.requires.room }

-- what marking the list's numbers from the cleared map gives
marking : (c : After-mark_list-differ)
    → ◌≡◌ {A = Marking} (record { all = c.mark_list-differ.result; map = c.mark_list-differ.new.map })
    (mark_all (page_count c.args.store.now.page_size c.args.store.now.bytes) (cleared (page_count c.args.store.now.page_size c.args.store.now.bytes) c.args.map.now)
    (chain_numbers c.args.store.now.page_size c.args.store.now.bytes c.args.list.pages c.args.head))
marking c =
    let x = c.args.store.now in
    let limit = page_count x.page_size x.bytes in
    c.mark_list-differ.ensures ∙ ap (λ m. mark_all limit m (chain_numbers x.page_size x.bytes c.args.list.pages c.args.head)) (c.clear.ensures ∙ ap (λ n. cleared n c.args.map.now) c.page_count-limit.ensures)

differs : (c : After-mark_list-differ)
    → c.mark_list-differ.result
    ≡ all_below (page_count c.args.store.now.page_size c.args.store.now.bytes) (numbers_of (chain_from c.args.store.now.page_size c.args.store.now.bytes c.args.list.pages c.args.head))
    && all_different (numbers_of (chain_from c.args.store.now.page_size c.args.store.now.bytes c.args.list.pages c.args.head))
differs c =
    let x = c.args.store.now in
    let limit = page_count x.page_size x.bytes in
    ap (λ (m : Marking). m.all) (marking c) ∙ judged limit c.args.map.now (chain_numbers x.page_size x.bytes c.args.list.pages c.args.head) c.requires.room
    ∙ chain_judged limit x.page_size x.bytes c.args.list.pages c.args.head

pub returns-then-is_few-clause-differ : goal.returns-then-is_few-clause-differ
returns-then-is_few-clause-differ c = differs (goal.at.returns-then-is_few-clause-differ c).After-mark_list-differ

pub returns-then-is_few-clause-map : goal.returns-then-is_few-clause-map
returns-then-is_few-clause-map c =
    let x = c.args.store.now in
    let limit = page_count x.page_size x.bytes in
    let ns = chain_numbers x.page_size x.bytes c.args.list.pages c.args.head in
    c.zero_list.ensures ∙ ap (λ (m : Marking). bytes_zero limit m.map ns) (marking (goal.at.returns-then-is_few-clause-map c).After-mark_list-differ)
    ∙ zeroed_again limit c.args.map.now ns c.requires.room

pub returns-else-is_few-clause-differ : goal.returns-else-is_few-clause-differ
returns-else-is_few-clause-differ c = differs (goal.at.returns-else-is_few-clause-differ c).After-mark_list-differ

pub returns-else-is_few-clause-map : goal.returns-else-is_few-clause-map
returns-else-is_few-clause-map c =
    let x = c.args.store.now in
    let limit = page_count x.page_size x.bytes in
    let ns = chain_numbers x.page_size x.bytes c.args.list.pages c.args.head in
    c.clear-else-is_few.ensures ∙ ap (λ n. cleared n c.mark_list-differ.new.map) c.page_count-limit.ensures
    ∙ ap (λ (m : Marking). cleared limit m.map) (marking (goal.at.returns-else-is_few-clause-map c).After-mark_list-differ)
    ∙ cleared_again limit c.args.map.now ns c.requires.room
