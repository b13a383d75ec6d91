-- What is shown of finished saves.
use Rattle.std.specs.Prelude.{ℕ, ◌+◌, ◌-◌, min, ◌<◌, ◌≤◌, ◌≡◌, true, false, ◌&&◌, eqb, length, drop}
use mathlib.Core.List.{List, Memᴰ}
use Rattle.laws.specs.Counting.{count, numbers_from, Different}
use Rattle.refusal.specs.Outcome.{answer}
use Rattle.page.specs.PageSize.{capacity}
use Rattle.page.specs.Pages.{page_count, write_pages}
use Rattle.free_list.specs.Shape.{FreeList, is_shape, head_of}
use Rattle.free_list.specs.Reading.{numbers_of, read_list}
use Rattle.preallocate.specs.Plan.{plan_of}
use Rattle.allocator.specs.OpenSave.{Save, list_of, bumped}
use Rattle.finisher.specs.Finish.{new_list, Finished, RoomLent, finish}

-- Conservation, with c entries to a list page: counted with repeats, list pages and entries after a finish, with the k entries handed
-- out, are those before, the freed numbers, and the numbers from the bump up to the new bump.
abbrev pub Conserved : ℕ → Type 0
Conserved c = 1 ≤ c → (l : FreeList) (k : ℕ) (freed : List ℕ) (bump : ℕ) → is_shape c (length l.pages) (length l.entries) ≡ true → (x : ℕ)
    → let t = plan_of c l k freed bump in
    count x (new_list l t).pages + count x (new_list l t).entries + count x (drop (length l.entries - k) l.entries)
    ≡ count x l.pages + count x l.entries + count x freed + count x (numbers_from bump (t.bump - bump))

-- Where something was popped or freed, the new list has the shape.
abbrev pub NewShape : ℕ → Type 0
NewShape c = 2 ≤ c → (l : FreeList) (k : ℕ) (freed : List ℕ) (bump : ℕ) → is_shape c (length l.pages) (length l.entries) ≡ true
    → k ≤ length l.entries → eqb k 0 && eqb (length freed) 0 ≡ false
    → let m = new_list l (plan_of c l k freed bump) in is_shape c (length m.pages) (length m.entries) ≡ true

-- The same of a finish that answers: the list that it makes has the shape,
abbrev pub FinishShape : ℕ → Type 0
FinishShape s = (v : Save) (freed : List ℕ) (room : RoomLent) (f : Finished) → finish s v freed room ≡ answer f
    → is_shape (capacity s) (length f.list.pages) (length f.list.entries) ≡ true

-- and its pages and entries, with the entries handed out, are those before, the freed numbers, and the numbers from the bump up to the
-- new bump.
abbrev pub FinishConserves : ℕ → Type 0
FinishConserves s = (v : Save) (freed : List ℕ) (room : RoomLent) (f : Finished) → finish s v freed room ≡ answer f → (x : ℕ)
    → count x f.list.pages + count x f.list.entries + count x (drop (v.L - min v.handed v.L) (list_of v).entries)
    ≡ count x (list_of v).pages + count x (list_of v).entries + count x freed + count x (numbers_from (bumped v) (f.bump - bumped v))

-- The numbers of the list that it makes, of pages and entries, all differ and lie below its bump.
abbrev pub FinishDiffers : ℕ → Type 0
FinishDiffers s = (v : Save) (freed : List ℕ) (room : RoomLent) (f : Finished) → finish s v freed room ≡ answer f
    → Different (numbers_of f.list) × ((x : ℕ) → Memᴰ x (numbers_of f.list) → x < f.bump)

-- A list was read from a store, and a save of it was finished: from the store that the pages were written to, reading from the new head
-- gives the new list. Asked for is a store that has pages for the freed numbers once the pages are written, as one that is grown to the
-- recorded length has.
abbrev pub FinishReadsBack : ℕ → Type 0
FinishReadsBack s = (v : Save) (store : List ℕ) (head : ℕ) → read_list s store head ≡ answer (list_of v)
    → (freed : List ℕ) (room : RoomLent) (f : Finished) → finish s v freed room ≡ answer f
    → ((n : ℕ) → Memᴰ n freed → n < page_count s (write_pages s store f.written))
    → read_list s (write_pages s store f.written) (head_of f.list) ≡ answer f.list
