-- `read` meets its contract: what the walk found is the list's size or its refusal; the rest is the map's room, the numbers, and the room in the
-- tables.
use Rattle.free_list.proofs.read.read.Goals as goal
use Rattle.free_list.proofs.read.read.Goals.{After-has_bits, then-pages-list-via-then-pages-list, then-pages-list-via-else-pages-list+then-entries-list}
use Rattle.std.proofs.Common.{◌≡◌, length}
use mathlib.Core.Path.{sym, ◌∙◌}
use Rattle.page.specs.Pages.{page_count}
use Rattle.bit_map.specs.BitMap.{has_bits}
use Rattle.std.proofs.lemmas.Result.{err_from_is_err_and}
use Rattle.free_list.proofs.IntoLaws.{listed, into-refusal, into-short-map, into-repeat, into-short-pages, into-short-entries, into-read}

pub returns-in_err-list : goal.returns-in_err-list
returns-in_err-list c =
    let p = err_from_is_err_and c.from_residual.result c.from_residual.ensures.1 in
    rw (p.1, p.2) (into-refusal _ _ _ _ _ _ c.in_err-list.ensures.outcome)

-- the test of the map's room, said of the store
bits : (c : After-has_bits) → has_bits (page_count c.args.store.now.page_size c.args.store.now.bytes) (length c.args.map.now) ≡ c.has_bits.result
bits c = rw (← c.page_count.ensures) (sym c.has_bits.ensures)

pub returns-then-not-has_bits : goal.returns-then-not-has_bits
returns-then-not-has_bits c =
    into-short-map _ _ _ _ _ (listed _ _ _ _ c.in_ok-list.ensures.outcome) (bits (goal.at.returns-then-not-has_bits c).After-has_bits ∙ c.if-not-has_bits.true)

pub numbers_differ-requires : goal.numbers_differ-requires
numbers_differ-requires c =
    let l = listed _ _ _ _ c.in_ok-list.ensures.outcome in
    record { size = c.measure.ensures.sized; readable = l.readable; room = bits (goal.at.numbers_differ-requires c).After-has_bits ∙ c.if-not-has_bits.false }

pub returns-then-not-numbers_differ : goal.returns-then-not-numbers_differ
returns-then-not-numbers_differ c =
    let l = listed _ _ _ _ c.in_ok-list.ensures.outcome in
    let b = bits (goal.at.returns-then-not-numbers_differ c).After-has_bits ∙ c.if-not-has_bits.false in
    rw c.numbers_differ.ensures.map (into-repeat _ _ _ _ _ l b c.numbers_differ.ensures.differ c.if-not-numbers_differ.true)

pub returns-then-pages-list : goal.returns-then-pages-list
returns-then-pages-list c =
    let l = listed _ _ _ _ c.in_ok-list.ensures.outcome in
    let b = bits (goal.at.returns-then-pages-list c).After-has_bits ∙ c.if-not-has_bits.false in
    let d = c.numbers_differ.ensures.differ in
    rw c.numbers_differ.ensures.map
    (elim c.then-pages-list.branch [
      | then-pages-list-via-then-pages-list w ↦ into-short-pages _ _ _ _ _ l b d c.if-not-numbers_differ.false w.if-pages-list.true
      | then-pages-list-via-else-pages-list+then-entries-list w ↦
          into-short-entries _ _ _ _ _ l b d c.if-not-numbers_differ.false w.if-pages-list.false w.if-entries-list.true
    ])

pub fill-requires : goal.fill-requires
fill-requires c =
    let l = listed _ _ _ _ c.in_ok-list.ensures.outcome in
    record { size = c.measure.ensures.sized; readable = l.readable; count = l.total; pages_fit = c.if-pages-list.false; entries_fit = c.if-entries-list.false }

pub returns : goal.returns
returns c =
    let l = listed _ _ _ _ c.in_ok-list.ensures.outcome in
    let b = bits (goal.at.returns c).After-has_bits ∙ c.if-not-has_bits.false in
    rw (c.fill.ensures, c.numbers_differ.ensures.map)
    (into-read _ _ _ _ _ l b c.numbers_differ.ensures.differ c.if-not-numbers_differ.false c.if-pages-list.false c.if-entries-list.false)
