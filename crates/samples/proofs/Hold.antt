-- Document 01's marked samples hold, and document 02's.
-- Each row is an equation of two terms that compute to the same; a whole page that stands in a buffer by the law of such places, since
-- place by place it computes too long.
use Prim.Native.Nat.{ℕ, ◌+◌, ◌^◌}
use mathlib.Core.Path.{◌≡◌, refl, ◌∙◌}
use mathlib.Core.List.{List, [], ◌∷◌, ◌++◌, append-nil}
use native.Mathlib.Omega.{arith}
use lib.ListN.{length, replicate, length-replicate}
use lib.Seq.{sets, sets-eq}
use Rattle.laws.specs.Counting.{count, all_different, all_below, numbers_from}
use Rattle.refusal.specs.Outcome.{answer}
use Rattle.page.specs.Growth.{grow, grown, rounded_up}
use Rattle.page.specs.Bytes.{number_at, numbers_at, bytes_of, bytes_of_all}
use Rattle.page.specs.PageSize.{standard_page_size, capacity}
use Rattle.page.proofs.PageSizeLaws.{page-size}
use Rattle.page.specs.Pages.{page_count, page_at, Write}
use Rattle.free_list.specs.ListPages.{prev_of, count_of, entries_of, encode_list_page}
use Rattle.free_list.specs.Reading.{ListTables, list_in, count_fits, all_entries_fit, read_from, list_from, read_list_into}
use Rattle.free_list.specs.Shape.{FreeList, is_shape, is_fragmented, entries_below, entries_on, head_of}
use Rattle.preallocate.specs.Plan.{pages_for, room as room_of, pages_after, pushed_after, first_plan, next_plan, enough_room, plan_of}
use Rattle.allocator.specs.OpenSave.{bumped, state_fits, next_number, next_recorded, hand_out, count_up}
use Rattle.finisher.specs.Finish.{new_list, encoded_page, encoded_pages, carried_out, finish_list, first_bad, finish_answer, tables_of, finished, room_in, admitted as admitted_finish, fitted, finish as finishing, bytes_of_pages, finish_into}
use Rattle.finisher.proofs.FinishLaws.{into-answered}
use Rattle.bit_map.specs.BitMap.{bytes_in_use, cleared}
use Rattle.overflow.specs.Totals.{max_size, holds, first_from, new_total, raw_pages, old_total, spare_room, total_of, page_total}
use Rattle.overflow.specs.Layout.{numbers_before, numbers_on, bytes_before, bytes_on}
use Rattle.overflow.specs.ValuePages.{number_count, byte_count, value_numbers, value_bytes, encode_value_page, value_page, chunk, chunk_into}
use Rattle.overflow.specs.Cells.{cell_bytes, cell_size, cell_count, cell_of, decode_cell}
use Rattle.overflow.specs.Reading.{in_store, parse_page, walk, value_total, admitted, read_value_into, delete_into}
use Rattle.samples.proofs.LargeTotals.{large}
use Rattle.samples.specs.Samples.{old, list, save, room, unmarked, finish, writes, value, write, writes_bytes, Samples}

-- a whole page in a buffer with a place more
page-stands : (bytes : List ℕ) → length bytes ≡ standard_page_size → sets (replicate (standard_page_size + 1) old) 0 bytes ≡ bytes ++ (old ∷ [])
page-stands bytes e = sets-eq bytes (replicate (standard_page_size + 1) old) 0 (omega (arith, length-replicate {A = ℕ} (standard_page_size + 1) old)) ∙ rw e

-- the one page of a list
abbrev page_of : ℕ → List ℕ → Write
page_of number entries = record { number = number; bytes = encode_list_page standard_page_size 0 entries }

-- a finish that writes one page: what it answers and what is lent, from what it comes to and that page's bytes
one_page : (l : FreeList) (bump n : ℕ) (freed : List ℕ) (number : ℕ) (entries bytes : List ℕ) (up : ℕ) (t : ListTables)
    → finishing standard_page_size (save l bump n) freed (room_in room) ≡ answer (record { list = list (number ∷ []) entries; bump = up; written = page_of number entries ∷ [] })
    → encode_list_page standard_page_size 0 entries ≡ bytes → length bytes ≡ standard_page_size
    → finish_answer (save l bump n) (record { list = list (number ∷ []) entries; bump = up; written = page_of number entries ∷ [] })
    ≡ record { head = number; bump = up; recorded = 8192; P = 1; L = length entries; count = 1 }
    → list_in (tables_of (save l bump n)) (list (number ∷ []) entries) ≡ t
    → cleared (bumped (save l bump n)) room.map ≡ unmarked
    → finish l bump n freed ≡ writes number (length entries) bytes up t
unfolding bytes_of_pages
one_page l bump n freed number entries bytes up t done encoded long told stands map =
    into-answered standard_page_size (save l bump n) freed room _ done
    ∙ rw (told, append-nil (encode_list_page standard_page_size 0 entries), encoded, page-stands bytes long, stands, map)

-- a page of the value
page_of_lem : (i : ℕ) (bytes : List ℕ) → chunk standard_page_size 16 value (numbers_from 101 16) i (length (replicate (standard_page_size + 1) old)) ≡ answer bytes
    → length bytes ≡ standard_page_size → write i ≡ writes_bytes bytes
unfolding chunk_into
page_of_lem i bytes done long = rw (done, page-stands bytes long, long)

pub samples : Samples
unfolding count all_different all_below bytes_in_use cleared numbers_from number_at numbers_at bytes_of bytes_of_all capacity page_count page_at prev_of count_of entries_of encode_list_page count_fits all_entries_fit read_from list_from read_list_into is_shape is_fragmented entries_below entries_on head_of pages_for room_of pages_after pushed_after first_plan next_plan enough_room plan_of state_fits next_number next_recorded hand_out count_up new_list encoded_page encoded_pages carried_out finish_list first_bad finish_answer finished admitted_finish fitted finishing bytes_of_pages finish_into grow grown rounded_up max_size holds first_from new_total raw_pages old_total spare_room total_of page_total numbers_before numbers_on bytes_before bytes_on encode_value_page value_page chunk chunk_into number_count byte_count value_numbers value_bytes cell_bytes cell_size cell_count cell_of decode_cell in_store parse_page walk value_total admitted read_value_into delete_into
samples =
    record {
      grow_0 = refl;
      grow_1 = refl;
      grow_2 = refl;
      grow_8193 = refl;
      grow_8194 = refl;
      list_read = refl;
      map_short = refl;
      entry_twice = refl;
      list_page_as_entry = refl;
      table_short = refl;
      handed_out_first = refl;
      handed_out_second = refl;
      finish_popped_and_freed = one_page (list (10 ∷ []) (20 ∷ 21 ∷ [])) 30 1 (15 ∷ []) 20 (15 ∷ 10 ∷ []) _ 30 _ refl refl refl refl refl refl;
      finish_freed = one_page (list (10 ∷ []) (20 ∷ 21 ∷ [])) 30 0 (15 ∷ []) 21 (20 ∷ 15 ∷ 10 ∷ []) _ 30 _ refl refl refl refl refl refl;
      finish_empty_list = refl;
      finish_empty_list_freed = one_page (list [] []) 30 0 (5 ∷ []) 30 (5 ∷ []) _ 31 _ refl refl refl refl refl refl;
      finish_freed_twice = refl;
      finish_list_page_freed = refl;
      finish_entry_freed = refl;
      finish_entry_at_the_bump = refl;
      finish_tables_short = refl;
      finish_map_short = refl;
      finish_numbers_short = refl;
      all_popped_first = refl;
      all_popped_second = refl;
      all_popped_third = refl;
      finish_all_popped = one_page (list (10 ∷ []) (20 ∷ [])) 30 3 [] 32 (10 ∷ []) _ 33 _ refl refl refl refl refl refl;
      old_total_61380 = refl;
      old_total_61381 = refl;
      old_total_65468 = refl;
      old_total_65469 = refl;
      old_total_4243402 = refl;
      old_total_4243403 = refl;
      old_total_4243404 = refl;
      old_total_largest = refl;
      total_4243403_less_would_do = refl;
      total_4243404_less_would_do = refl;
      total_1 = refl;
      total_61380 = refl;
      total_61381 = refl;
      total_65468 = refl;
      total_65469 = refl;
      total_4243402 = large page-size 4243402 (omega arith) refl refl;
      total_4243403 = large page-size 4243403 (omega arith) refl refl;
      total_4243404 = large page-size 4243404 (omega arith) refl refl;
      total_4243405 = large page-size 4243405 (omega arith) refl refl;
      total_largest = large page-size (2 ^ 29) (omega arith) refl refl;
      page_0_of_61381 = page_of_lem 0 _ refl refl;
      page_15_of_61381 = page_of_lem 15 _ refl refl;
      empty_page_read = refl;
      empty_page_deleted = refl;
    }
