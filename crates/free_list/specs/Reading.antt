-- List reading: from the head page through the previous numbers until nil. In a list that is read no number stands twice.
use Rattle.std.specs.Prelude.{ℕ, zero, suc, ◌+◌, Bool, true, false, ◌&&◌, ◌||◌, cond, List, [], ◌∷◌, ◌++◌, leb, ltb, eqb, length, Result}
use Rattle.std.proofs.lemmas.List.Edits.{sets}
use denote.Triple.Both.{Both}
use Rattle.std.specs.Borrow.{MutBor}
use Rattle.refusal.specs.Outcome.{Outcome, answer, refused, check, with_answer}
use Rattle.refusal.specs.Refusals.{outcome}
use Rattle.refusal.specs.Effect.{LentMut, before, after, Effect, leaves, go_on}
use Rattle.laws.specs.Counting.{all_different}
use Rattle.bit_map.specs.BitMap.{has_bits, cleared}
use Rattle.page.specs.PageSize.{capacity}
use Rattle.page.specs.Pages.{page_count, page_at}
use Rattle.free_list.specs.ListPages.{prev_of, count_of, entries_of}
use Rattle.free_list.specs.Shape.{FreeList}
use Rattle.refusal.specs.declared.Refusal.{Refusal}
use Rattle.free_list.specs.declared.tables.Tables.{Tables}
use Rattle.free_list.specs.declared.walk.ListCounts.{ListCounts}
use Rattle.free_list.specs.declared.walk.Reading.{Reading}
use Rattle.free_list.specs.declared.walk.Reading.TheVariants.{Strict, Loose}

-- the list with no page
abbrev pub empty_list : FreeList
empty_list = record { pages = []; entries = [] }

-- a list with one more page on top
abbrev pub on_top : ℕ → List ℕ → FreeList → FreeList
on_top p entries l = record { pages = l.pages ++ (p ∷ []); entries = l.entries ++ entries }

-- does a count of n fit a page that has `above` pages above it, with `entries` entries? The head holds 1 to c, every page below it c;
-- but under a head of one entry there may be one less. Read loosely, which no operation does, a page holds any count from 0 to c
unfoldable pub count_fits : Bool → ℕ → ℕ → ℕ → ℕ → Bool
count_fits loose c above entries n =
    cond loose (leb n c)
    (cond (eqb above 0) (leb 1 n && leb n c) (eqb n c || (eqb above 1 && (eqb entries 1 && eqb (n + 1) c))))

-- are all entries page numbers of a store of `count` pages, and none 0?
unfoldable pub all_entries_fit : ℕ → List ℕ → Bool
all_entries_fit count [] = true
all_entries_fit count (n ∷ ns) = (leb 1 n && ltb n count) && all_entries_fit count ns

-- the list from page p down, where `allowed` more pages may be read, and `above` pages with `entries` entries were
unfoldable pub read_from : ℕ → List ℕ → Bool → ℕ → ℕ → ℕ → ℕ → Outcome FreeList
read_from s store loose zero above entries zero = answer empty_list
read_from s store loose zero above entries (suc q) = refused 5 []
read_from s store loose (suc allowed) above entries zero = answer empty_list
read_from s store loose (suc allowed) above entries (suc q) =
    let p = suc q in
    let b = page_at s store p in
    let below =
    with_answer (λ l. answer (on_top p (entries_of b) l)) (read_from s store loose allowed (above + 1) (entries + count_of b) (prev_of b)) in
    check (ltb p (page_count s store)) 2 (p ∷ [])
    (check (count_fits loose (capacity s) above entries (count_of b)) 3 (p ∷ [])
    (check (all_entries_fit (page_count s store) (entries_of b)) 4 (p ∷ []) below))

-- the list with this head page, read strictly or loosely
unfoldable pub list_from : ℕ → List ℕ → Bool → ℕ → Outcome FreeList
list_from s store loose head = read_from s store loose (page_count s store) 0 0 head

-- all its numbers: of its pages, and its entries
abbrev pub numbers_of : FreeList → List ℕ
numbers_of l = l.pages ++ l.entries

-- a list is accepted where all its numbers differ (refusal 22)
abbrev pub differing : FreeList → Outcome FreeList
differing l = check (all_different (numbers_of l)) 22 [] (answer l)

-- the accepted list with this head page
abbrev pub read_list : ℕ → List ℕ → ℕ → Outcome FreeList
read_list s store head = with_answer differing (list_from s store false head)

-- how many pages and entries a list has
pub record ListSize : Type 0 where
  pub P : ℕ
  pub L : ℕ

abbrev pub size_of : FreeList → ListSize
size_of l = record { P = length l.pages; L = length l.entries }

-- the two tables that a list is read into
pub record ListTables : Type 0 where
  pub pages : List ℕ
  pub entries : List ℕ

abbrev pub tables : (LentMut → List ℕ) → LentMut → LentMut → ListTables
tables at pages entries = record { pages = at pages; entries = at entries }

-- a list stands at the start of the tables, whose other places stay
abbrev pub list_in : ListTables → FreeList → ListTables
list_in t l = record { pages = sets t.pages 0 l.pages; entries = sets t.entries 0 l.entries }

-- do the tables have room for a list? (refusal 6)
abbrev pub has_room : ListTables → FreeList → Bool
has_room t l = leb (length l.pages) (length t.pages) && leb (length l.entries) (length t.entries)

-- what is lent to the reader: the two tables, and a bit map with a bit for each page of the store
pub record ListLent : Type 0 where
  pub tables : ListTables
  pub map : List ℕ

abbrev pub list_lent : (LentMut → List ℕ) → LentMut → LentMut → LentMut → ListLent
list_lent at pages entries map = record { tables = tables at pages entries; map = at map }

-- the list in its tables, and the map's bytes in use zero
abbrev pub list_lent_in : ℕ → ListLent → FreeList → ListLent
list_lent_in count lent l = record { tables = list_in lent.tables l; map = cleared count lent.map }

-- read a list into two tables, with a bit map. The pages, and the map's room (refusal 21), are judged before anything is written; once the map was
-- seen to have room its bytes in use are zero, and refusals leave the tables
unfoldable pub read_list_into : ℕ → List ℕ → Bool → ℕ → ListLent → Effect ListSize ListLent
read_list_into s store loose head lent =
    let count = page_count s store in
    let unmarked : ListLent = record { tables = lent.tables; map = cleared count lent.map } in
    go_on lent
    (λ l. leaves size_of (list_lent_in count lent) unmarked (with_answer (λ m. check (has_room lent.tables m) 6 [] (answer m)) (differing l)))
    (with_answer (λ l. check (has_bits count (length lent.map)) 21 [] (answer l)) (list_from s store loose head))

-- ---- what the code says, to a definition

-- the tables that are lent to a call, before it and after it
abbrev pub LentTables : Type 0
LentTables = Both Tables (MutBor (List ℕ) × (MutBor (List ℕ) × Unit {0}))

abbrev pub tables_before : LentTables → ListTables
tables_before t = record { pages = t.entry.pages.now; entries = t.entry.entries.now }

abbrev pub tables_after : LentTables → ListTables
tables_after t = record { pages = t.exit.0.now; entries = t.exit.1.0.now }

-- the same as a `requires` sees them
abbrev pub tables_now : Tables → ListTables
tables_now t = record { pages = t.pages.now; entries = t.entries.now }

abbrev pub is_loose : Reading → Bool
is_loose Strict = false
is_loose Loose = true

-- with the map that is lent beside them
abbrev pub list_lent_before : LentTables → LentMut → ListLent
list_lent_before t map = record { tables = tables_before t; map = before map }

abbrev pub list_lent_after : LentTables → LentMut → ListLent
list_lent_after t map = record { tables = tables_after t; map = after map }

-- what the code answers, as an outcome
abbrev pub read_outcome : Result ListCounts Refusal → Outcome ListSize
read_outcome = outcome (λ l. record { P = l.pages; L = l.entries })
