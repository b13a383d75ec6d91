-- A value as it is kept: its pages in a store, and its cell.
use Rattle.std.specs.Prelude.{ℕ, ◌<◌, ◌≤◌, ◌≡◌, List, length, get_or, take}
use Rattle.page.specs.Pages.{page_count, page_at}
use Rattle.overflow.specs.Totals.{max_size, cell_numbers}
use Rattle.overflow.specs.ValuePages.{value_page}
use Rattle.overflow.specs.Cells.{Cell}

-- a store that holds the `total` pages of a value, each at its number
pub record Kept (s : ℕ) (store : List ℕ) (total : ℕ) (value numbers : List ℕ) : Type 0 where
  pub size : 1 ≤ length value
  pub few : length value ≤ max_size s
  pub count : length numbers ≡ total
  pub pages : (i : ℕ) → i < total → (get_or numbers i 0 < page_count s store) × (page_at s store (get_or numbers i 0) ≡ value_page s total value numbers i)

-- the cell of such a value: its size, a hash, and the first numbers
abbrev pub cell_for : List ℕ → List ℕ → List ℕ → Cell
cell_for value hash numbers = record { size = length value; hash = hash; numbers = take cell_numbers numbers }
