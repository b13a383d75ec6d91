-- Small saves, at pages of 16 bytes: a first one, a second that was finished and written whole, and a third that was cut. They meet what
-- is asked, and after the cut the second one is read, as computed. And two wrong finishes, whose pages would break the first save.
use Rattle.std.specs.Prelude.{ℕ, zero, suc, ◌≡◌, false, List, [], ◌∷◌, ◌++◌, replicate}
use Rattle.refusal.specs.Outcome.{answer, refused}
use Rattle.refusal.specs.Effect.{effect}
use Rattle.page.specs.Pages.{Write, write_pages}
use Rattle.free_list.specs.Shape.{FreeList}
use Rattle.free_list.specs.ListPages.{encode_list_page}
use Rattle.free_list.specs.Reading.{ListTables, ListLent, read_list_into}
use Rattle.overflow.specs.Totals.{new_total, old_total}
use Rattle.overflow.specs.ValuePages.{encode_value_page, value_page}
use Rattle.overflow.specs.Cells.{cell_bytes}
use Rattle.overflow.specs.Kept.{cell_for}
use Rattle.overflow.specs.Reading.{ReadLent, read_value_into}
use Rattle.finisher.specs.Finish.{finish, RoomLent}
use Rattle.rollback.specs.Calls.{Own, open_on, Call, hand_out_call, finish_call}
use Rattle.rollback.specs.Rollback.{Value, State, Good, Cut}
use Rattle.rollback.specs.Seasons.{Season}

-- the page size
abbrev pub small : ℕ
small = 16

-- ---- the parts

abbrev pub list : List ℕ → List ℕ → FreeList
list pages entries = record { pages = pages; entries = entries }

-- two tables
abbrev pub tables : List ℕ → List ℕ → ListTables
tables pages entries = record { pages = pages; entries = entries }

abbrev pub hash : List ℕ
hash = replicate 32 1

-- a value of these bytes, on the page of this number
abbrev pub value_at : ℕ → List ℕ → Value
value_at number bytes = record { cell = cell_bytes (cell_for bytes hash (number ∷ [])); hash = hash; numbers = number ∷ []; bytes = bytes }

-- a page that is written: a list page with these entries, which has no page under it; or the page of a value
abbrev pub list_page_at : ℕ → List ℕ → Write
list_page_at number entries = record { number = number; bytes = encode_list_page small 0 entries }

abbrev pub value_page_at : ℕ → List ℕ → Write
value_page_at number bytes = record { number = number; bytes = encode_value_page small [] bytes }

-- what a call has of its own: a recorded length of six pages, and these places behind the list
abbrev pub own : List ℕ → List ℕ → Own
own pages entries = record { recorded = 6; behind = tables pages entries }

abbrev pub room_for : ℕ → ℕ → ℕ → RoomLent
room_for bytes numbers map = record { bytes = bytes; numbers = numbers; map = map }

-- what is lent to the reader: two tables, and a map of two bytes
abbrev pub lent : List ℕ → List ℕ → List ℕ → ListLent
lent pages entries map = record { tables = tables pages entries; map = map }

-- ---- the first save: page 1 is its list page, with entries 2 and 3; page 4 holds a value of 5 bytes

abbrev pub bytes : List ℕ
bytes = 7 ∷ 8 ∷ 9 ∷ 10 ∷ 11 ∷ []

unfoldable pub store : List ℕ
store = replicate 16 0 ++ (encode_list_page small 0 (2 ∷ 3 ∷ []) ++ (replicate 32 0 ++ (encode_value_page small [] bytes ++ replicate 16 0)))

unfoldable pub first : State
first = record { store = store; head = 1; list = list (1 ∷ []) (2 ∷ 3 ∷ []); values = value_at 4 bytes ∷ []; bump = 5 }

-- ---- the second. Its first finish is refused with 21: the map has no byte. Called again with one byte it is refused with 6: the tables have no
-- place behind the list. Then it is handed a number, which is 3. The next finish is refused with 22: it frees a number twice. The next is refused
-- with 9: it lacks a byte of room. The last has longer tables and more room, and frees the first value's page: its list page is 2, with the freed
-- number and the old list page. A new value stands on page 3

abbrev pub new_bytes : List ℕ
new_bytes = 1 ∷ 2 ∷ 3 ∷ []

abbrev pub calls : List Call
calls =
    finish_call (own [] []) (4 ∷ []) (room_for 64 4 0)
    ∷ finish_call (own [] []) (4 ∷ []) (room_for 64 4 1)
    ∷ hand_out_call (own [] [])
    ∷ finish_call (own [] []) (4 ∷ 4 ∷ []) (room_for 64 4 1)
    ∷ finish_call (own [] []) (4 ∷ []) (room_for 15 1 1)
    ∷ finish_call (own (9 ∷ []) (9 ∷ 9 ∷ [])) (4 ∷ []) (room_for 16 1 2)
    ∷ []

abbrev pub writes : List Write
writes = list_page_at 2 (4 ∷ 1 ∷ []) ∷ value_page_at 3 new_bytes ∷ []

unfoldable pub second : State
second =
    record {
      store = write_pages small (store ++ []) writes;
      head = 2;
      list = list (2 ∷ []) (4 ∷ 1 ∷ []);
      values = value_at 3 new_bytes ∷ [];
      bump = 5;
    }

-- ---- the third is handed out 1 and 4, which were the first save's, writes there, and is cut before it is finished

abbrev pub cut_calls : List Call
cut_calls = hand_out_call (own [] []) ∷ hand_out_call (own (9 ∷ []) []) ∷ []

abbrev pub cut_writes : List Write
cut_writes = value_page_at 4 (5 ∷ []) ∷ value_page_at 1 (6 ∷ 6 ∷ []) ∷ []

unfoldable pub cut_store : List ℕ
cut_store = write_pages small (write_pages small (store ++ []) writes ++ replicate 20 0) cut_writes

-- ---- a save whose value has 203 bytes, the least size of which the totals differ at these pages: page 1 is its list page, with entry 20, and
-- pages 2 to 19 hold the value, which is written by the new total. By the old one it would have a page more

abbrev pub long_bytes : List ℕ
long_bytes = replicate 203 7

abbrev pub long_numbers : List ℕ
long_numbers = 2 ∷ 3 ∷ 4 ∷ 5 ∷ 6 ∷ 7 ∷ 8 ∷ 9 ∷ 10 ∷ 11 ∷ 12 ∷ 13 ∷ 14 ∷ 15 ∷ 16 ∷ 17 ∷ 18 ∷ 19 ∷ []

abbrev pub long_value : Value
long_value = record { cell = cell_bytes (cell_for long_bytes hash long_numbers); hash = hash; numbers = long_numbers; bytes = long_bytes }

-- its first n pages, one after another
unfoldable pub long_pages : ℕ → List ℕ
long_pages zero = []
long_pages (suc n) = long_pages n ++ value_page small 18 long_bytes long_numbers n

unfoldable pub long_store : List ℕ
long_store = replicate 16 0 ++ (encode_list_page small 0 (20 ∷ []) ++ (long_pages 18 ++ replicate 16 0))

unfoldable pub long : State
long = record { store = long_store; head = 1; list = list (1 ∷ []) (20 ∷ []); values = long_value ∷ []; bump = 21 }

-- tables of so many places for its numbers, and room for its bytes
abbrev pub long_room : ℕ → ReadLent
long_room places = record { numbers = replicate places 0; value = replicate 203 0 }

-- ---- what is shown of them

abbrev pub no_value : ReadLent
no_value = record { numbers = 0 ∷ 0 ∷ []; value = 0 ∷ 0 ∷ 0 ∷ 0 ∷ 0 ∷ [] }

pub record Witnessed : Type 0 where
  -- the first save is as asked, and the second follows it
  pub good : Good small first
  pub next : Season small first second
  -- the second save's first finish is refused for its map, the next for its tables, the next for a number freed twice, and the next for its room
  pub short_map : finish small (open_on first.list first.bump 0 (own [] [])) (4 ∷ []) (room_for 64 4 0) ≡ refused 21 []
  pub short_tables : finish small (open_on first.list first.bump 0 (own [] [])) (4 ∷ []) (room_for 64 4 1) ≡ refused 6 []
  pub freed_twice : finish small (open_on first.list first.bump 1 (own [] [])) (4 ∷ 4 ∷ []) (room_for 64 4 1) ≡ refused 22 []
  pub short_room : finish small (open_on first.list first.bump 1 (own [] [])) (4 ∷ []) (room_for 15 1 1) ≡ refused 9 []
  -- the third is cut, and then the second one's list and value are read
  pub cut : Cut small second cut_store
  pub list_read : read_list_into small cut_store false 2 (lent (0 ∷ 0 ∷ []) (0 ∷ 0 ∷ 0 ∷ []) (9 ∷ 9 ∷ []))
      ≡ effect (answer (record { P = 1; L = 2 })) (lent (2 ∷ 0 ∷ []) (4 ∷ 1 ∷ 0 ∷ []) (0 ∷ 9 ∷ []))
  pub value_read : read_value_into small (value_at 3 new_bytes).cell cut_store no_value
      ≡ effect (answer (record { size = 3; numbers = 1 })) (record { numbers = 3 ∷ 0 ∷ []; value = 1 ∷ 2 ∷ 3 ∷ 0 ∷ 0 ∷ [] })
  -- a finish that used the freed number 4 at once for its list page: the first value is lost, as a list page without one under it has the counts of
  -- an empty value page
  pub freed_reused : (read_value_into small (value_at 4 bytes).cell (write_pages small store (list_page_at 4 (2 ∷ 1 ∷ []) ∷ [])) no_value).outcome ≡ refused 25 (0 ∷ [])
  -- a finish that wrote its list page over the head: the first list is lost
  pub head_in_place : read_list_into small (write_pages small store (list_page_at 1 (2 ∷ 4 ∷ []) ∷ [])) false 1 (lent (0 ∷ []) (0 ∷ 0 ∷ []) (9 ∷ 9 ∷ []))
      ≡ effect (answer (record { P = 1; L = 2 })) (lent (1 ∷ []) (2 ∷ 4 ∷ []) (0 ∷ 9 ∷ []))
  -- a value that has the new total, where this is one less than the old one, is one that a save may have; its reader asks for a place more than its
  -- numbers take
  pub new_less : new_total small 203 ≡ 18
  pub old_more : old_total small 203 ≡ 19
  pub long_good : Good small long
  pub long_short : (read_value_into small long_value.cell long_store (long_room 18)).outcome ≡ refused 13 []
  pub long_read : read_value_into small long_value.cell long_store (long_room 19)
      ≡ effect (answer (record { size = 203; numbers = 18 })) (record { numbers = long_numbers ++ (0 ∷ []); value = long_bytes })
