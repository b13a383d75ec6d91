-- What is shown of reading a list.
use Rattle.std.specs.Prelude.{ℕ, ◌≡◌, Bool, true, false, take}
use mathlib.Core.List.{List, ◌++◌, Memᴰ}
use Rattle.laws.specs.Counting.{Different}
use Rattle.refusal.specs.Outcome.{answer}
use Rattle.refusal.specs.Effect.{effect}
use Rattle.page.specs.PageSize.{capacity}
use Rattle.page.specs.Pages.{page_count}
use Rattle.free_list.specs.Shape.{is_shape}
use Rattle.free_list.specs.StoredList.{Inside}
use Rattle.free_list.specs.Reading.{ListSize, ListLent, read_list_into}

-- P and L of a strict read that answers have the shape of an accepted list.
abbrev pub ReadShape : ℕ → Type 0
ReadShape s = (store : List ℕ) (head : ℕ) (lent after : ListLent) (size : ListSize)
    → read_list_into s store false head lent ≡ effect (answer size) after
    → is_shape (capacity s) size.P size.L ≡ true

-- After a read that answers, strict or loose, the numbers that it has put into the tables, of pages and entries, all differ, and each is that of a
-- page of the store.
abbrev pub ReadDiffers : ℕ → Type 0
ReadDiffers s = (store : List ℕ) (loose : Bool) (head : ℕ) (lent after : ListLent) (size : ListSize)
    → read_list_into s store loose head lent ≡ effect (answer size) after
    → let ns = take size.P after.tables.pages ++ take size.L after.tables.entries in
    Different ns × ((x : ℕ) → Memᴰ x ns → Inside (page_count s store) x)
