-- Values and cells.
use Rattle.std.specs.Prelude.{ℕ, ◌≡◌, List, [], ◌∷◌, length}
use Rattle.refusal.specs.Effect.{Lent, LentMut, given, before, after, called, left, Returned, returned}
use Rattle.overflow.specs.Cells.{CellCounts, cell_with, encode_cell_into, decode_cell_into}
use Rattle.overflow.specs.Totals.{new_total, old_total}
use Rattle.overflow.specs.ValuePages.{chunk_into}
use Rattle.overflow.specs.Reading.{ValueCounts, read_lent, read_value_into, delete_into}

-- writing a page of a value, by the one total or the other, and writing a cell, tell no values
abbrev pub WritesPageBy : (ℕ → ℕ → ℕ) → ℕ → Lent → Lent → ℕ → LentMut → ℕ → Type 0
WritesPageBy total s value numbers index page r =
    ◌≡◌ {A = Returned (List ℕ)} (record { status = r; lent = after page })
    (returned (chunk_into s (total s (length (given value))) (given value) (given numbers) index (before page)))

abbrev pub WritesPage : ℕ → Lent → Lent → ℕ → LentMut → ℕ → Type 0
WritesPage = WritesPageBy new_total

abbrev pub WritesOldPage : ℕ → Lent → Lent → ℕ → LentMut → ℕ → Type 0
WritesOldPage = WritesPageBy old_total

abbrev pub EncodesCell : ℕ → ℕ → Lent → Lent → LentMut → ℕ → Type 0
EncodesCell s size hash numbers buffer r =
    ◌≡◌ {A = Returned (List ℕ)} (record { status = r; lent = after buffer })
    (returned (encode_cell_into s (cell_with size (given hash) (given numbers)) (before buffer)))

-- size, count of numbers
abbrev pub cell_values : CellCounts → List ℕ
cell_values c = c.size ∷ c.numbers ∷ []

abbrev pub DecodesCell : ℕ → Lent → LentMut → LentMut → ℕ → Type 0
DecodesCell s cell hash out r =
    left r out (after hash) ≡ called cell_values (before out) (decode_cell_into s (given cell) (before hash))

-- size, numbers found
abbrev pub value_values : ValueCounts → List ℕ
value_values v = v.size ∷ v.numbers ∷ []

abbrev pub ReadsValue : ℕ → Lent → Lent → LentMut → LentMut → LentMut → ℕ → Type 0
ReadsValue s cell store numbers value out r =
    left r out (read_lent after numbers value)
    ≡ called value_values (before out) (read_value_into s (given cell) (given store) (read_lent before numbers value))

-- numbers found
abbrev pub deleted_values : ℕ → List ℕ
deleted_values n = n ∷ []

abbrev pub DeletesValue : ℕ → Lent → Lent → LentMut → LentMut → ℕ → Type 0
DeletesValue s cell store numbers out r =
    left r out (after numbers) ≡ called deleted_values (before out) (delete_into s (given cell) (given store) (before numbers))
