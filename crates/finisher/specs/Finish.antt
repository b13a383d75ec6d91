-- The finished save: the new list, the list pages to write, and the answer.
use Rattle.std.specs.Prelude.{ℕ, zero, suc, ◌*◌, ◌-◌, min, ◌&&◌, cond, List, [], ◌∷◌, ◌++◌, map, leb, ltb, eqb, length, get_or, take}
use Rattle.std.proofs.lemmas.List.Edits.{sets}
use Rattle.laws.specs.Counting.{all_different, all_below}
use Rattle.refusal.specs.Outcome.{Outcome, answer, check, with_answer}
use Rattle.refusal.specs.Effect.{LentMut, Effect, leaves, go_on}
use Rattle.bit_map.specs.BitMap.{has_bits, cleared}
use Rattle.page.specs.PageSize.{capacity}
use Rattle.page.specs.Pages.{page_at, Write}
use Rattle.page.specs.Growth.{max_bump, grown}
use Rattle.free_list.specs.ListPages.{encode_list_page}
use Rattle.free_list.specs.Shape.{FreeList, entries_on, head_of, previous}
use Rattle.free_list.specs.Reading.{numbers_of, ListTables, tables, list_in, has_room}
use Rattle.preallocate.specs.Plan.{Plan, plan_of}
use Rattle.allocator.specs.OpenSave.{Save, list_of, bumped, state_fits}

-- the new list: what is kept, with the top page's number, then the new pages; what is left, then the push list
unfoldable pub new_list : FreeList → Plan → FreeList
new_list l t =
    record {
      pages = cond (leb 1 t.kept) (take (t.kept - 1) l.pages ++ (t.top ∷ [])) [] ++ t.fresh;
      entries = take t.left l.entries ++ t.pushed;
    }

-- page j of a list, as encoded: its number and its bytes
unfoldable pub encoded_page : ℕ → FreeList → ℕ → Write
encoded_page s l j =
    record {
      number = get_or l.pages j 0;
      bytes = encode_list_page s (previous l.pages j) (entries_on (capacity s) l j);
    }

-- n pages of a list from page j up
unfoldable pub encoded_pages : ℕ → FreeList → ℕ → ℕ → List Write
encoded_pages s l j zero = []
encoded_pages s l j (suc n) = encoded_page s l j ∷ encoded_pages s l (suc j) n

-- what a finish makes of a list: the new list, the bump, and the pages to write, in the order encoded
pub record Finished : Type 0 where
  pub list : FreeList
  pub bump : ℕ
  pub written : List Write

-- the pages to write run from the top kept page, or the first new one where none is kept, to the new head
unfoldable pub carried_out : ℕ → FreeList → Plan → Finished
carried_out s l t =
    let m = new_list l t in
    record { list = m; bump = t.bump; written = encoded_pages s m (t.kept - 1) (length m.pages - (t.kept - 1)) }

-- finish a list after `handed` numbers; where nothing is popped and nothing freed, the list stays
unfoldable pub finish_list : ℕ → FreeList → ℕ → ℕ → List ℕ → Finished
finish_list s l bump handed freed =
    let k = min handed (length l.entries) in
    let changed = carried_out s l (plan_of (capacity s) l k freed bump) in
    cond (eqb k 0 && eqb (length freed) 0) (record { list = l; bump = bump; written = [] }) changed

-- the place of the first number that is 0 or not below the limit, or the list's length
unfoldable pub first_bad : ℕ → List ℕ → ℕ
first_bad limit [] = 0
first_bad limit (n ∷ ns) = cond (leb 1 n && ltb n limit) (suc (first_bad limit ns)) 0

-- what a finish answers: the new head, the bump, the recorded length, P, L and the count of pages written
pub record FinishAnswer : Type 0 where
  pub head : ℕ
  pub bump : ℕ
  pub recorded : ℕ
  pub P : ℕ
  pub L : ℕ
  pub count : ℕ

unfoldable pub finish_answer : Save → Finished → FinishAnswer
finish_answer v f =
    record {
      head = head_of f.list;
      bump = f.bump;
      recorded = cond (ltb v.recorded f.bump) (grown f.bump) v.recorded;
      P = length f.list.pages;
      L = length f.list.entries;
      count = length f.written;
    }

-- the two tables of a save
abbrev pub tables_of : Save → ListTables
tables_of v = record { pages = v.page_table; entries = v.entry_table }

-- what a save is finished to with these numbers freed, if no refusal stands against it
unfoldable pub finished : ℕ → Save → List ℕ → Finished
finished s v freed = finish_list s (list_of v) (bumped v) v.handed freed

-- what is left of a list where n numbers were handed out: its pages, and the entries that were not handed out
abbrev pub left_list : ℕ → FreeList → FreeList
left_list n l = record { pages = l.pages; entries = take (length l.entries - n) l.entries }

-- the numbers of a save's list that were not handed out
abbrev pub left_numbers : Save → List ℕ
left_numbers v = numbers_of (left_list v.handed (list_of v))

-- how much is lent beside the tables: for the pages to write so many bytes, and places for so many numbers; and a bit map of so many bytes
pub record RoomLent : Type 0 where
  pub bytes : ℕ
  pub numbers : ℕ
  pub map : ℕ

-- what is judged before anything is written, with a map of so many bytes
unfoldable pub admitted : ℕ → Save → List ℕ → ℕ → Outcome Finished
admitted s v freed map =
    let f = finished s v freed in
    let bad = first_bad (bumped v) freed in
    check (state_fits s v) 1 []
    (check (leb f.bump max_bump) 7 []
    (check (eqb bad (length freed)) 8 (bad ∷ [])
    (check (has_bits (bumped v) map) 21 []
    (answer f))))

-- what is judged behind that: the numbers that were not handed out lie below the bump after those handed out, and with the freed ones they all
-- differ; and the new list has room, and its pages
unfoldable pub fitted : ℕ → Save → List ℕ → RoomLent → Finished → Outcome Finished
fitted s v freed room f =
    check (all_below (bumped v) (left_numbers v) && all_different (left_numbers v ++ freed)) 22 []
    (check (has_room (tables_of v) f.list) 6 []
    (check (leb (s * length f.written) room.bytes && leb (length f.written) room.numbers) 9 []
    (answer f)))

-- its outcome, in the order of the refusals, with so much room lent
unfoldable pub finish : ℕ → Save → List ℕ → RoomLent → Outcome Finished
finish s v freed room = with_answer (fitted s v freed room) (admitted s v freed room.map)

-- pages one after another
unfoldable pub bytes_of_pages : List Write → List ℕ
bytes_of_pages [] = []
bytes_of_pages (w ∷ ws) = w.bytes ++ bytes_of_pages ws

-- n pages from page j on, as they lie in a page buffer and a number list
unfoldable pub lent_pages : ℕ → List ℕ → List ℕ → ℕ → ℕ → List Write
lent_pages s buffer numbers j zero = []
lent_pages s buffer numbers j (suc n) = record { number = get_or numbers j 0; bytes = page_at s buffer j } ∷ lent_pages s buffer numbers (suc j) n

-- ---- what is lent to a finish

-- beside the list's two tables: for the pages to write a page buffer and a number list, and a bit map
pub record FinishRoom : Type 0 where
  pub buffer : List ℕ
  pub numbers : List ℕ
  pub map : List ℕ

pub record FinishLent : Type 0 where
  pub tables : ListTables
  pub room : FinishRoom

-- how much room that is
abbrev pub room_in : FinishRoom → RoomLent
room_in room = record { bytes = length room.buffer; numbers = length room.numbers; map = length room.map }

-- as they are before or after the call
abbrev pub finish_room : (LentMut → List ℕ) → LentMut → LentMut → LentMut → FinishRoom
finish_room at buffer numbers map = record { buffer = at buffer; numbers = at numbers; map = at map }

abbrev pub finish_lent : (LentMut → List ℕ) → LentMut → LentMut → LentMut → LentMut → LentMut → FinishLent
finish_lent at pages entries buffer numbers map = record { tables = tables at pages entries; room = finish_room at buffer numbers map }

-- the pages as encoded stand in a buffer, and their numbers in a number list
abbrev pub with_pages : List ℕ → Finished → List ℕ
with_pages buffer f = sets buffer 0 (bytes_of_pages f.written)

abbrev pub with_numbers : List ℕ → Finished → List ℕ
with_numbers numbers f = sets numbers 0 (map (λ (w : Write). w.number) f.written)

-- the tables hold the new list, the buffer and the number list the pages as encoded
abbrev pub stored : FinishLent → Finished → FinishLent
stored l f =
    record {
      tables = list_in l.tables f.list;
      room = record { buffer = with_pages l.room.buffer f; numbers = with_numbers l.room.numbers f; map = l.room.map };
    }

-- no number is marked in the map, whose bytes in use are zero
abbrev pub unmarked : ℕ → FinishLent → FinishLent
unmarked limit l =
    record {
      tables = l.tables;
      room = record { buffer = l.room.buffer; numbers = l.room.numbers; map = cleared limit l.room.map };
    }

-- finish the save; a refusal leaves all as it was, but once the map was seen to have room its bytes in use are zero
unfoldable pub finish_into : ℕ → Save → List ℕ → FinishRoom → Effect FinishAnswer FinishLent
finish_into s v freed room =
    let l : FinishLent = record { tables = tables_of v; room = room } in
    let u = unmarked (bumped v) l in
    go_on l (λ f. leaves (finish_answer v) (stored u) u (fitted s v freed (room_in room) f)) (admitted s v freed (length room.map))
