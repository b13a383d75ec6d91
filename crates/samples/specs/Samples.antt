-- Document 01's marked samples at its page size, a row for each answer that they name. A row is about the definition that the operation's
-- contract cites: what is answered, and every place of what is lent, after the call; bytes are written out. Document 01's totals are the old
-- ones; two rows are sums: that a page less would do. The new totals and the spare room are as document 02 has them, and so are the rows that
-- are refused with 21 or 22, what the map holds, and the rows of the empty value page.
use Rattle.std.specs.Prelude.{ℕ, ◌+◌, ◌*◌, ◌-◌, ◌^◌, ◌≡◌, false, List, [], ◌∷◌, ◌++◌, length, replicate}
use Rattle.laws.specs.Counting.{numbers_from}
use Rattle.refusal.specs.Outcome.{Outcome, answer, refused}
use Rattle.refusal.specs.Effect.{Effect, effect}
use Rattle.page.specs.PageSize.{standard_page_size}
use Rattle.page.specs.Growth.{grow}
use Rattle.free_list.specs.Shape.{FreeList}
use Rattle.free_list.specs.Reading.{ListTables, ListLent, read_list_into}
use Rattle.allocator.specs.OpenSave.{Save, Counters, count_up}
use Rattle.finisher.specs.Finish.{FinishAnswer, FinishRoom, FinishLent, finish_into}
use Rattle.overflow.specs.Totals.{Total, cell_numbers, old_total, body, page_total}
use Rattle.overflow.specs.ValuePages.{chunk_into}
use Rattle.overflow.specs.Cells.{cell_with, hash_size, cell_bytes}
use Rattle.overflow.specs.Reading.{ReadLent, read_value_into, delete_into}

-- what lent places hold before a call
abbrev pub old : ℕ
old = 9

abbrev pub list : List ℕ → List ℕ → FreeList
list pages entries = record { pages = pages; entries = entries }

abbrev pub tables : List ℕ → List ℕ → ListTables
tables pages entries = record { pages = pages; entries = entries }

-- ---- reading

-- a store of 22 pages with list page 10, which has entries 20 and e; all other bytes are zero
abbrev pub store_with : ℕ → List ℕ
store_with e =
    replicate (standard_page_size * 10) 0
    ++ (0 ∷ 0 ∷ 0 ∷ 0 ∷ 2 ∷ 0 ∷ 20 ∷ 0 ∷ 0 ∷ 0 ∷ e ∷ 0 ∷ 0 ∷ 0 ∷ [])
    ++ replicate (standard_page_size * 12 - 14) 0

-- with entries 20, 21
abbrev pub store : List ℕ
store = store_with 21

-- what is lent to the reader: tables of two and three places, and a map; and what it has then
abbrev pub with_map : List ℕ → List ℕ → List ℕ → ListLent
with_map pages entries map = record { tables = tables pages entries; map = map }

abbrev pub map_used : List ℕ
map_used = 0 ∷ 0 ∷ 0 ∷ old ∷ old ∷ old ∷ []

-- ---- handing out and finishing

-- an open save of a list, with this bump and a recorded length of 8,192, which has handed out n numbers. Its tables have a place more
-- than the list, and the one for entries two
abbrev pub save : FreeList → ℕ → ℕ → Save
save l bump n =
    record {
      page_table = l.pages ++ (old ∷ []);
      entry_table = l.entries ++ (old ∷ old ∷ []);
      P = length l.pages;
      L = length l.entries;
      bump = bump;
      recorded = 8192;
      handed = n;
    }

-- the next number, after n; and this number, the n-th that is handed out
abbrev pub next : FreeList → ℕ → ℕ → Effect ℕ Counters
next l bump n = count_up standard_page_size (save l bump n)

abbrev pub handed : ℕ → ℕ → Effect ℕ Counters
handed number n = effect (answer number) (record { handed = n; recorded = 8192 })

-- room for a page, with a place more for its bytes and for its number, and a bit map of six bytes
abbrev pub room : FinishRoom
room = record { buffer = replicate (standard_page_size + 1) old; numbers = old ∷ old ∷ []; map = replicate 6 old }

-- the same with another number list and map
abbrev pub room_with : List ℕ → List ℕ → FinishRoom
room_with numbers map = record { buffer = room.buffer; numbers = numbers; map = map }

-- the map where its first four bytes were in use, as for all numbers below a bump of 30 or 32
abbrev pub unmarked : List ℕ
unmarked = 0 ∷ 0 ∷ 0 ∷ 0 ∷ old ∷ old ∷ []

-- the room where only the map was used
abbrev pub room_unmarked : FinishRoom
room_unmarked = record { buffer = room.buffer; numbers = room.numbers; map = unmarked }

-- the save is finished with these numbers freed
abbrev pub finish : FreeList → ℕ → ℕ → List ℕ → Effect FinishAnswer FinishLent
finish l bump n freed = finish_into standard_page_size (save l bump n) freed room

-- a page with these bytes at its front, and zeros behind them
abbrev pub page : List ℕ → List ℕ
page bytes = bytes ++ replicate (standard_page_size - length bytes) 0

-- it writes one page, which is the whole list: the page's number, how many entries, and its bytes; the bump, and the tables
abbrev pub writes : ℕ → ℕ → List ℕ → ℕ → ListTables → Effect FinishAnswer FinishLent
writes number entries bytes bump t =
    effect (answer (record { head = number; bump = bump; recorded = 8192; P = 1; L = entries; count = 1 }))
    (record { tables = t; room = record { buffer = bytes ++ (old ∷ []); numbers = number ∷ old ∷ []; map = unmarked } })

-- it writes none, and there is no list: the bump
abbrev pub writes_none : ℕ → Effect FinishAnswer FinishLent
writes_none bump =
    effect (answer (record { head = 0; bump = bump; recorded = 8192; P = 0; L = 0; count = 0 }))
    (record { tables = tables (old ∷ []) (old ∷ old ∷ []); room = room_unmarked })

-- it is refused with this number, and of what was lent only the map has changed
abbrev pub map_changed : ℕ → FreeList → Effect FinishAnswer FinishLent
map_changed number l = effect (refused number []) (record { tables = tables (l.pages ++ (old ∷ [])) (l.entries ++ (old ∷ old ∷ [])); room = room_unmarked })

-- ---- values

-- a total of which so many numbers go to the cell, the spare room, and the places that a reader's number table needs: the old total
abbrev pub pages : ℕ → ℕ → ℕ → ℕ → Outcome Total
pages total cell spare room = answer (record { total = total; cell = cell; spare = spare; room = room })

-- a value of 61,381 bytes: as document 01 has it, 4,088 on page 0, 4,092 on each of pages 1 to 14, 5 on page 15
abbrev pub value : List ℕ
value = replicate 4088 1 ++ (replicate (4092 * 14) 2 ++ replicate 5 3)

-- page i of it is written, where its pages have the numbers 101 to 116; and these bytes are
abbrev pub write : ℕ → Effect ℕ (List ℕ)
write i = chunk_into standard_page_size 16 value (numbers_from 101 16) i (replicate (standard_page_size + 1) old)

abbrev pub writes_bytes : List ℕ → Effect ℕ (List ℕ)
writes_bytes bytes = effect (answer standard_page_size) (bytes ++ (old ∷ []))

-- a cell of a value of one byte on page 12 of the store, which has only zeros, and what is lent to read it
abbrev pub empty_cell : List ℕ
empty_cell = cell_bytes (cell_with 1 (replicate hash_size 0) (12 ∷ []))

abbrev pub lent : List ℕ → ReadLent
lent numbers = record { numbers = numbers; value = old ∷ old ∷ [] }

pub record Samples : Type 0 where
  pub grow_0 : grow 0 ≡ answer 8192
  pub grow_1 : grow 1 ≡ answer 8192
  pub grow_2 : grow 2 ≡ answer 16384
  pub grow_8193 : grow 8193 ≡ answer 16384
  pub grow_8194 : grow 8194 ≡ answer 24576
  pub list_read : read_list_into standard_page_size store false 10 (with_map (old ∷ old ∷ []) (old ∷ old ∷ old ∷ []) (replicate 6 old))
      ≡ effect (answer (record { P = 1; L = 2 })) (with_map (10 ∷ old ∷ []) (20 ∷ 21 ∷ old ∷ []) map_used)
  pub map_short : read_list_into standard_page_size store false 10 (with_map (old ∷ old ∷ []) (old ∷ old ∷ old ∷ []) (replicate 2 old))
      ≡ effect (refused 21 []) (with_map (old ∷ old ∷ []) (old ∷ old ∷ old ∷ []) (replicate 2 old))
  pub entry_twice : read_list_into standard_page_size (store_with 20) false 10 (with_map (old ∷ old ∷ []) (old ∷ old ∷ old ∷ []) (replicate 6 old))
      ≡ effect (refused 22 []) (with_map (old ∷ old ∷ []) (old ∷ old ∷ old ∷ []) map_used)
  pub list_page_as_entry : read_list_into standard_page_size (store_with 10) false 10 (with_map (old ∷ old ∷ []) (old ∷ old ∷ old ∷ []) (replicate 6 old))
      ≡ effect (refused 22 []) (with_map (old ∷ old ∷ []) (old ∷ old ∷ old ∷ []) map_used)
  pub table_short : read_list_into standard_page_size store false 10 (with_map (old ∷ []) (old ∷ []) (replicate 6 old))
      ≡ effect (refused 6 []) (with_map (old ∷ []) (old ∷ []) map_used)
  pub handed_out_first : next (list (10 ∷ []) (20 ∷ 21 ∷ [])) 30 0 ≡ handed 21 1
  pub handed_out_second : next (list (10 ∷ []) (20 ∷ 21 ∷ [])) 30 1 ≡ handed 20 2
  pub finish_popped_and_freed :
      finish (list (10 ∷ []) (20 ∷ 21 ∷ [])) 30 1 (15 ∷ [])
      ≡ writes 20 2 (page (0 ∷ 0 ∷ 0 ∷ 0 ∷ 2 ∷ 0 ∷ 15 ∷ 0 ∷ 0 ∷ 0 ∷ 10 ∷ 0 ∷ 0 ∷ 0 ∷ [])) 30 (tables (20 ∷ old ∷ []) (15 ∷ 10 ∷ old ∷ old ∷ []))
  pub finish_freed :
      finish (list (10 ∷ []) (20 ∷ 21 ∷ [])) 30 0 (15 ∷ [])
      ≡ writes 21 3 (page (0 ∷ 0 ∷ 0 ∷ 0 ∷ 3 ∷ 0 ∷ 20 ∷ 0 ∷ 0 ∷ 0 ∷ 15 ∷ 0 ∷ 0 ∷ 0 ∷ 10 ∷ 0 ∷ 0 ∷ 0 ∷ [])) 30 (tables (21 ∷ old ∷ []) (20 ∷ 15 ∷ 10 ∷ old ∷ []))
  pub finish_empty_list : finish (list [] []) 30 2 [] ≡ writes_none 32
  pub finish_empty_list_freed : finish (list [] []) 30 0 (5 ∷ []) ≡ writes 30 1 (page (0 ∷ 0 ∷ 0 ∷ 0 ∷ 1 ∷ 0 ∷ 5 ∷ 0 ∷ 0 ∷ 0 ∷ [])) 31 (tables (30 ∷ []) (5 ∷ old ∷ []))
  pub finish_freed_twice : finish (list (10 ∷ []) (20 ∷ 21 ∷ [])) 30 0 (15 ∷ 15 ∷ []) ≡ map_changed 22 (list (10 ∷ []) (20 ∷ 21 ∷ []))
  pub finish_list_page_freed : finish (list (10 ∷ []) (20 ∷ 21 ∷ [])) 30 2 (10 ∷ []) ≡ map_changed 22 (list (10 ∷ []) (20 ∷ 21 ∷ []))
  pub finish_entry_freed : finish (list (10 ∷ []) (20 ∷ 21 ∷ [])) 30 1 (20 ∷ []) ≡ map_changed 22 (list (10 ∷ []) (20 ∷ 21 ∷ []))
  pub finish_entry_at_the_bump : finish (list (10 ∷ []) (30 ∷ 21 ∷ [])) 30 0 [] ≡ map_changed 22 (list (10 ∷ []) (30 ∷ 21 ∷ []))
  pub finish_tables_short : finish (list (10 ∷ []) (20 ∷ 21 ∷ [])) 30 0 (15 ∷ 16 ∷ 17 ∷ []) ≡ map_changed 6 (list (10 ∷ []) (20 ∷ 21 ∷ []))
  pub finish_map_short :
      finish_into standard_page_size (save (list (10 ∷ []) (20 ∷ 21 ∷ [])) 30 0) (15 ∷ []) (room_with (old ∷ old ∷ []) (replicate 3 old))
      ≡ effect (refused 21 []) (record { tables = tables (10 ∷ old ∷ []) (20 ∷ 21 ∷ old ∷ old ∷ []); room = room_with (old ∷ old ∷ []) (replicate 3 old) })
  pub finish_numbers_short :
      finish_into standard_page_size (save (list (10 ∷ []) (20 ∷ 21 ∷ [])) 30 0) (15 ∷ []) (room_with [] (replicate 6 old))
      ≡ effect (refused 9 []) (record { tables = tables (10 ∷ old ∷ []) (20 ∷ 21 ∷ old ∷ old ∷ []); room = room_with [] unmarked })
  pub all_popped_first : next (list (10 ∷ []) (20 ∷ [])) 30 0 ≡ handed 20 1
  pub all_popped_second : next (list (10 ∷ []) (20 ∷ [])) 30 1 ≡ handed 30 2
  pub all_popped_third : next (list (10 ∷ []) (20 ∷ [])) 30 2 ≡ handed 31 3
  pub finish_all_popped : finish (list (10 ∷ []) (20 ∷ [])) 30 3 [] ≡ writes 32 1 (page (0 ∷ 0 ∷ 0 ∷ 0 ∷ 1 ∷ 0 ∷ 10 ∷ 0 ∷ 0 ∷ 0 ∷ [])) 33 (tables (32 ∷ old ∷ []) (10 ∷ old ∷ old ∷ []))
  pub old_total_61380 : old_total standard_page_size 61380 ≡ 15
  pub old_total_61381 : old_total standard_page_size 61381 ≡ 16
  pub old_total_65468 : old_total standard_page_size 65468 ≡ 16
  pub old_total_65469 : old_total standard_page_size 65469 ≡ 17
  pub old_total_4243402 : old_total standard_page_size 4243402 ≡ 1038
  pub old_total_4243403 : old_total standard_page_size 4243403 ≡ 1039
  pub old_total_4243404 : old_total standard_page_size 4243404 ≡ 1039
  pub old_total_largest : old_total standard_page_size (2 ^ 29) ≡ 131329
  pub total_4243403_less_would_do : body standard_page_size * 1038 ≡ 4243403 + 4 * (1038 - cell_numbers) + 1
  pub total_4243404_less_would_do : body standard_page_size * 1038 ≡ 4243404 + 4 * (1038 - cell_numbers)
  pub total_1 : page_total standard_page_size 1 ≡ pages 1 1 4091 1
  pub total_61380 : page_total standard_page_size 61380 ≡ pages 15 15 0 15
  pub total_61381 : page_total standard_page_size 61381 ≡ pages 16 15 4087 16
  pub total_65468 : page_total standard_page_size 65468 ≡ pages 16 15 0 16
  pub total_65469 : page_total standard_page_size 65469 ≡ pages 17 15 4087 17
  pub total_4243402 : page_total standard_page_size 4243402 ≡ pages 1038 15 2 1038
  pub total_4243403 : page_total standard_page_size 4243403 ≡ pages 1038 15 1 1039
  pub total_4243404 : page_total standard_page_size 4243404 ≡ pages 1038 15 0 1039
  pub total_4243405 : page_total standard_page_size 4243405 ≡ pages 1039 15 4087 1039
  pub total_largest : page_total standard_page_size (2 ^ 29) ≡ pages 131329 15 2100 131329
  pub page_0_of_61381 : write 0 ≡ writes_bytes (1 ∷ 0 ∷ 248 ∷ 15 ∷ 116 ∷ 0 ∷ 0 ∷ 0 ∷ replicate 4088 1)
  pub page_15_of_61381 : write 15 ≡ writes_bytes (page (0 ∷ 0 ∷ 5 ∷ 0 ∷ 3 ∷ 3 ∷ 3 ∷ 3 ∷ 3 ∷ []))
  pub empty_page_read : read_value_into standard_page_size empty_cell store (lent (old ∷ old ∷ [])) ≡ effect (refused 25 (0 ∷ [])) (lent (12 ∷ old ∷ []))
  pub empty_page_deleted : delete_into standard_page_size empty_cell store (old ∷ old ∷ []) ≡ effect (refused 25 (0 ∷ [])) (12 ∷ old ∷ [])
