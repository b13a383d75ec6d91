-- A list that stands in a store.
use Rattle.std.specs.Prelude.{ℕ, ◌<◌, ◌≤◌, ◌≡◌, true, length, get_or}
use mathlib.Core.List.{List, Memᴰ}
use Rattle.page.specs.PageSize.{capacity}
use Rattle.page.specs.Pages.{page_count, page_at}
use Rattle.free_list.specs.ListPages.{prev_of, entries_of}
use Rattle.free_list.specs.Shape.{FreeList, is_shape, entries_on, previous}

-- a number that the store has a page for, and that is not nil
abbrev pub Inside : ℕ → ℕ → Type 0
Inside count n = (1 ≤ n) × (n < count)

-- A list of the shape whose pages stand in the store, each at its number, with the number of the page under it and its entries; all its
-- numbers are pages of the store, and it has no more pages than the store.
pub record StoredList (s : ℕ) (store : List ℕ) (l : FreeList) : Type 0 where
  pub shape : is_shape (capacity s) (length l.pages) (length l.entries) ≡ true
  pub few : length l.pages ≤ page_count s store
  pub inside : (j : ℕ) → j < length l.pages → Inside (page_count s store) (get_or l.pages j 0)
  pub before : (j : ℕ) → j < length l.pages → prev_of (page_at s store (get_or l.pages j 0)) ≡ previous l.pages j
  pub entries : (j : ℕ) → j < length l.pages → entries_of (page_at s store (get_or l.pages j 0)) ≡ entries_on (capacity s) l j
  pub entries_inside : (n : ℕ) → Memᴰ n l.entries → Inside (page_count s store) n
