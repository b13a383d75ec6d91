-- Document 01's demand 3, at pages of s bytes: what a reader with the first head and the first cells gets after a cut of the second save.
use Rattle.std.specs.Prelude.{ℕ, ◌⊎◌, ◌<◌, ◌≤◌, ◌≡◌, true, false, length}
use mathlib.Core.List.{List, ◌++◌, Memᴰ}
use Rattle.std.proofs.lemmas.List.Edits.{sets}
use Rattle.bit_map.specs.BitMap.{has_bits}
use Rattle.refusal.specs.Outcome.{answer}
use Rattle.refusal.specs.Effect.{effect}
use Rattle.page.specs.Pages.{page_count, Write, write_pages}
use Rattle.free_list.specs.Shape.{FreeList}
use Rattle.free_list.specs.Reading.{numbers_of, size_of, ListLent, list_lent_in, has_room, read_list_into}
use Rattle.overflow.specs.Totals.{old_total}
use Rattle.overflow.specs.Cells.{cell_count, decode_cell_into}
use Rattle.overflow.specs.Reading.{ReadLent, read_value_into}
use Rattle.allocator.specs.OpenSave.{Save}
use Rattle.finisher.specs.Finish.{Finished, RoomLent, finish}
use Rattle.rollback.specs.Calls.{Call, Run, run}

-- the reader with this head gets this list, into any tables with room for it and with any map that has a bit for each page of the store: P and L,
-- page numbers and entries in order
abbrev pub GetsList : ℕ → List ℕ → ℕ → FreeList → Type 0
GetsList s store head l =
    (t : ListLent) → has_room t.tables l ≡ true → has_bits (page_count s store) (length t.map) ≡ true
    → read_list_into s store false head t ≡ effect (answer (size_of l)) (list_lent_in (page_count s store) t l)

-- a cell, and the value that it leads to: its hash, the numbers of its pages and its bytes
pub record Value : Type 0 where
  pub cell : List ℕ
  pub hash : List ℕ
  pub numbers : List ℕ
  pub bytes : List ℕ

-- the value stands at the start of what is lent, whose other places stay
abbrev pub value_in : ReadLent → Value → ReadLent
value_in lent x = record { numbers = sets lent.numbers 0 x.numbers; value = sets lent.value 0 x.bytes }

-- the reader with this cell gets the value's size and hash, and into any table and buffer that are long enough its numbers and bytes. As a reader
-- asks it, the table has place for the old total of the value's size, be the value written by this total or by the new one
pub record GetsValue (s : ℕ) (store : List ℕ) (x : Value) : Type 0 where
  pub cell : (hash : List ℕ) → decode_cell_into s x.cell hash ≡ effect (answer (record { size = length x.bytes; numbers = cell_count x.cell })) (sets hash 0 x.hash)
  pub value : (lent : ReadLent) → old_total s (length x.bytes) ≤ length lent.numbers → length x.bytes ≤ length lent.value
      → read_value_into s x.cell store lent ≡ effect (answer (record { size = length x.bytes; numbers = length x.numbers })) (value_in lent x)

-- a save: its store, and what its caller keeps of it
pub record State : Type 0 where
  pub store : List ℕ
  pub head : ℕ
  pub list : FreeList
  pub values : List Value
  pub bump : ℕ

-- a finish that answered has made this list, and this bump
abbrev pub Made : ℕ → FreeList → ℕ → Type 0
Made s l bump = (v : Save) × (freed : List ℕ) × (room : RoomLent) × (f : Finished) × (finish s v freed room ≡ answer f) × (l ≡ f.list) × (bump ≡ f.bump)

-- its list and its values read; a finish has made the list, or the list's numbers, pages and entries, lie below the bump; the numbers of the values'
-- pages lie below the bump, and are none of the list's
pub record Good (s : ℕ) (a : State) : Type 0 where
  pub reads : GetsList s a.store a.head a.list
  pub each : (x : Value) → Memᴰ x a.values → GetsValue s a.store x
  pub below : Made s a.list a.bump ⊎ ((n : ℕ) → Memᴰ n (numbers_of a.list) → n < a.bump)
  pub values_below : (x : Value) → Memᴰ x a.values → (n : ℕ) → Memᴰ n x.numbers → n < a.bump
  pub values_apart : (x : Value) → Memᴰ x a.values → (n : ℕ) → Memᴰ n x.numbers → Memᴰ n (numbers_of a.list) → ⊥

-- what may be written: any page at a number that was handed out, and the list pages of the finish that succeeded, each at its number
pub data ToWrite (s : ℕ) (r : Run) (w : Write) : Type 0 where
  value_page : Memᴰ w.number r.numbers → length w.bytes ≡ s → ToWrite s r w
  list_page : (f : Finished) → Memᴰ f r.finished → Memᴰ w f.written → ToWrite s r w

-- the next save, cut anywhere: how many numbers it counts as handed out at its start, of which nothing is asked, and its calls; the bytes
-- by which the store has grown; the pages written, each whole, in any order
pub record Cut (s : ℕ) (a : State) (after : List ℕ) : Type 0 where
  pub start : ℕ
  pub calls : List Call
  pub extra : List ℕ
  pub writes : List Write
  pub allowed : (w : Write) → Memᴰ w writes → ToWrite s (run s a.list a.bump start calls) w
  pub leaves : after ≡ write_pages s (a.store ++ extra) writes

-- what the calls of such a save leave
abbrev pub run_of : {s : ℕ} {a : State} {after : List ℕ} → Cut s a after → Run
run_of {s} {a} c = run s a.list a.bump c.start c.calls

-- a store from which the head and the cells of a save read as they did
abbrev pub StillReads : ℕ → State → List ℕ → Type 0
StillReads s a after = GetsList s after a.head a.list × ((x : Value) → Memᴰ x a.values → GetsValue s after x)

-- demand 3: after the cut the first head and the first cells read as they did
abbrev pub Rollback : ℕ → Type 0
Rollback s = (a : State) (after : List ℕ) → Good s a → Cut s a after → StillReads s a after
