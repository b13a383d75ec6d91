-- What is shown of totals, of written values, of reading and of deleting, at pages of s bytes.
use Rattle.std.specs.Prelude.{ℕ, zero, suc, ◌+◌, ◌*◌, ◌-◌, ◌<◌, ◌≤◌, ◌≡◌, true, cond, List, [], ltb, length}
use Rattle.std.proofs.lemmas.List.Edits.{sets}
use Rattle.refusal.specs.Outcome.{answer, refused, Never}
use Rattle.refusal.specs.Effect.{effect}
use Rattle.overflow.specs.Totals.{max_size, body, holds, new_total, old_total, IsTotal, Total, page_total}
use Rattle.overflow.specs.ValuePages.{number_count, byte_count, value_page, chunk_into}
use Rattle.overflow.specs.Cells.{Cell, hash_size, cell_bytes}
use Rattle.overflow.specs.Reading.{Source, in_store, parse_page, first_walk, ReadLent, read_pages, read_cell, read_value_into, delete_pages, delete_cell, delete_into}
use Rattle.overflow.specs.Kept.{Kept, cell_for}

-- ---- totals

-- the new total is the least count of pages that has room for the value
abbrev pub Least : ℕ → Type 0
Least s = (size : ℕ) → 1 ≤ size → (holds s size (new_total s size) ≡ true) × ((p : ℕ) → holds s size p ≡ true → new_total s size ≤ p)

-- and the old one, or one less where these have room
abbrev pub OneLess : ℕ → Type 0
OneLess s = (size : ℕ) → 1 ≤ size → let old = old_total s size in new_total s size ≡ cond (holds s size (old - 1)) (old - 1) old

-- ---- writing

-- the writer makes a page for each index below the total, and for no other
abbrev pub PageForEach : ℕ → Type 0
PageForEach s = (total : ℕ) (value numbers page : List ℕ) (i : ℕ) → 1 ≤ length value → length value ≤ max_size s → length numbers ≡ total → s ≤ length page
    → chunk_into s total value numbers i page
    ≡ cond (ltb i total) (effect (answer s) (sets page 0 (value_page s total value numbers i))) (effect (refused 11 []) page)

-- none of these pages is empty
abbrev pub NoneEmpty : ℕ → Type 0
NoneEmpty s = (total : ℕ) (value numbers : List ℕ) (i : ℕ) → 1 ≤ length value → IsTotal s (length value) total → length numbers ≡ total → i < total
    → let page = value_page s total value numbers i in 1 ≤ number_count page + byte_count page

-- so the writer never makes an empty page, whatever it is lent: what it writes starts with two counts of which one at least is not 0
abbrev pub NeverEmpty : ℕ → Type 0
NeverEmpty s = (total : ℕ) (value numbers page : List ℕ) (i told : ℕ) → IsTotal s (length value) total → let e = chunk_into s total value numbers i page in e.outcome ≡ answer told
    → 1 ≤ number_count e.lent + byte_count e.lent

-- and page reading takes each page that it makes, wherever it comes from and at whatever index a walk comes to it: 16 and 25 are not for these
abbrev pub PageTaken : ℕ → Type 0
PageTaken s = (total : ℕ) (value numbers : List ℕ) (i : ℕ) → 1 ≤ length value → IsTotal s (length value) total → length numbers ≡ total → i < total
    → (source : Source) (k p : ℕ) → let page = value_page s total value numbers i in source k p ≡ answer page → parse_page s source k p ≡ answer page

-- ---- the spare room

-- what a page leaves behind its two counts, its numbers and its value bytes
unfoldable pub left_on : List ℕ → ℕ
left_on page = length page - (4 + 4 * number_count page + byte_count page)

-- what the first n pages of a value leave together
unfoldable pub left_on_pages : ℕ → ℕ → List ℕ → List ℕ → ℕ → ℕ
left_on_pages s total value numbers zero = 0
left_on_pages s total value numbers (suc n) = left_on_pages s total value numbers n + left_on (value_page s total value numbers n)

-- the spare room that is told of a value's size is what the pages of the value leave
abbrev pub SpareIsLeft : ℕ → Type 0
SpareIsLeft s = (value numbers : List ℕ) (t : Total) → page_total s (length value) ≡ answer t → length numbers ≡ t.total
    → t.spare ≡ left_on_pages s t.total value numbers t.total

-- and no difference is cut off at 0: of each page, what it holds and what it leaves are its s bytes
abbrev pub PageWhole : ℕ → Type 0
PageWhole s = (total : ℕ) (value numbers : List ℕ) (i : ℕ) → length numbers ≡ total
    → let page = value_page s total value numbers i in
    (length page ≡ s) × (4 + 4 * number_count page + byte_count page + left_on page ≡ s)

-- and of all pages, the value, all numbers and the spare room are the pages' bodies and what the cell has of the numbers
abbrev pub BodiesWhole : ℕ → Type 0
BodiesWhole s = (size : ℕ) (t : Total) → page_total s size ≡ answer t → size + 4 * t.total + t.spare ≡ body s * t.total + 4 * t.cell

-- ---- reading and deleting

-- a value that was written by either total, and whose pages a store holds, is read by its cell, into any table that has place for the old total
-- and any buffer that is long enough
abbrev pub ReadsBack : ℕ → Type 0
ReadsBack s = (store : List ℕ) (total : ℕ) (value numbers : List ℕ) → IsTotal s (length value) total → Kept s store total value numbers → (hash : List ℕ) → length hash ≡ hash_size
    → (table buffer : List ℕ) → old_total s (length value) ≤ length table → length value ≤ length buffer
    → read_value_into s (cell_bytes (cell_for value hash numbers)) store (record { numbers = table; value = buffer })
    ≡ effect (answer (record { size = length value; numbers = length numbers })) (record { numbers = sets table 0 numbers; value = sets buffer 0 value })

-- and deleting it finds exactly the numbers of its pages
abbrev pub DeletesAll : ℕ → Type 0
DeletesAll s = (store : List ℕ) (total : ℕ) (value numbers : List ℕ) → IsTotal s (length value) total → Kept s store total value numbers → (hash : List ℕ) → length hash ≡ hash_size
    → (table : List ℕ) → old_total s (length value) ≤ length table
    → delete_into s (cell_bytes (cell_for value hash numbers)) store table ≡ effect (answer (length numbers)) (sets table 0 numbers)

-- at a size of which the two totals are the same nothing has to be decided: a cell is read and deleted by this total, whatever the store holds
abbrev pub OneTotal : ℕ → Type 0
OneTotal s = (store : List ℕ) (c : Cell) → new_total s c.size ≡ old_total s c.size
    → ((lent : ReadLent) → read_cell s store lent (answer c) ≡ read_pages s store lent c (old_total s c.size))
    × ((table : List ℕ) → delete_cell s store table (answer c) ≡ delete_pages table (first_walk s (in_store s store) c) (old_total s c.size))

-- deleting knows the number of every page it comes to, whatever the store holds: it goes on only behind pages without bytes, and each of these
-- has a number
abbrev pub DeleteKnows : ℕ → Type 0
DeleteKnows s = (cell store table : List ℕ) → Never 14 (delete_into s cell store table).outcome
