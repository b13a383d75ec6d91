-- The finish's work in parts. Only private functions cite these.
use Rattle.std.specs.Prelude.{ℕ, ◌+◌, ◌-◌, min, ◌≤◌, ◌≡◌, Bool, true, false, ◌&&◌, cond, List, [], ◌∷◌, ◌++◌, reverse, leb, ltb, eqb, length, get_or, take, drop, Option, position, ◌||◌, Result}
use Rattle.std.proofs.lemmas.List.Edits.{sets}
use Rattle.refusal.specs.Outcome.{Outcome, answer, with_answer}
use Rattle.refusal.specs.Refusals.{outcome}
use Rattle.refusal.specs.Effect.{Effect, effect, go_on}
use Rattle.refusal.specs.declared.Refusal.{Refusal}
use Rattle.bit_map.specs.BitMap.{cleared}
use Rattle.page.specs.PageSize.{IsPageSize, capacity}
use Rattle.page.specs.Growth.{max_bump, grown}
use Rattle.free_list.specs.Reading.{ListTables}
use Rattle.free_list.specs.Shape.{FreeList}
use Rattle.preallocate.specs.Plan.{Plan, plan_of}
use Rattle.preallocate.specs.Counts.{counts}
use Rattle.preallocate.specs.declared.turns.Plan.{Plan as Counts}
use Rattle.allocator.specs.OpenSave.{Save, list_of, bumped, state_fits}
use Rattle.allocator.specs.declared.save.Start.{Start}
use Rattle.finisher.specs.Finish.{Finished, FinishAnswer, RoomLent, encoded_pages, finished, admitted, fitted, finish, bytes_of_pages}
use Rattle.finisher.specs.declared.judge.Work.{Work}
use Rattle.finisher.specs.declared.judge.Room.{Room}

-- ---- what a finish comes to, in numbers

-- how many entries were popped
abbrev pub popped : Save → ℕ
popped v = min v.handed v.L

-- nothing was popped and nothing freed
abbrev pub unchanged : Save → List ℕ → Bool
unchanged v freed = eqb (popped v) 0 && eqb (length freed) 0

-- the plan of a save that changes the list
abbrev pub plan_for : ℕ → Save → List ℕ → Plan
plan_for s v freed = plan_of (capacity s) (list_of v) (popped v) freed (bumped v)

-- where nothing changes all pages and entries are kept
abbrev pub all_kept : ℕ → ℕ → ℕ → Counts
all_kept P L bump = record { pages = P; entries = L; pushed = 0; fresh = 0; bump = bump; top = 0 }

abbrev pub work_of : ℕ → Save → List ℕ → Work
work_of s v freed =
    let f = finished s v freed in
    record {
      popped = popped v;
      bump = bumped v;
      plan = cond (unchanged v freed) (all_kept v.P v.L (bumped v)) (counts (plan_for s v freed));
      pages = length f.list.pages;
      entries = length f.list.entries;
      written = length f.written;
    }

-- the work where nothing changes
abbrev pub same_work : Start → ℕ → Work
same_work start bump =
    record {
      popped = 0;
      bump = bump;
      plan = all_kept start.pages start.entries bump;
      pages = start.pages;
      entries = start.entries;
      written = 0;
    }

-- a save that can go on, with the number of its pops and its bump
pub record Begun (s : ℕ) (v : Save) (pops bump : ℕ) : Type 0 where
  pub size : IsPageSize s
  pub state : state_fits s v ≡ true
  pub pops_are : pops ≡ popped v
  pub bump_is : bump ≡ bumped v
  pub limit : bump ≤ max_bump

-- the code's room, as the definitions have it, with a map of so many bytes
abbrev pub room_of : Room → ℕ → RoomLent
room_of room map = record { bytes = room.bytes; numbers = room.numbers; map = map }

-- what the code has judged, as an outcome; it is the finish's, of which the work is told
abbrev pub judged_outcome : Result Work Refusal → Outcome Work
judged_outcome = outcome (λ work. work)

-- the place of the first freed number that is 0 or not below the limit, if there is one
abbrev pub bad_place : ℕ → List ℕ → Option ℕ
bad_place limit = position (λ n. eqb n 0 || leb limit n)

abbrev pub work_told : ℕ → Save → List ℕ → Outcome Finished → Outcome Work
work_told s v freed = with_answer (λ (f : Finished). answer (work_of s v freed))

-- with the map, which is written once its room was judged
abbrev pub judged : ℕ → Save → List ℕ → Room → List ℕ → Effect Work (List ℕ)
judged s v freed room map =
    go_on map (λ f. effect (work_told s v freed (fitted s v freed (room_of room (length map)) f)) (cleared (bumped v) map)) (admitted s v freed (length map))

-- a save whose finish is admitted, with a map of so many bytes, and its work
pub record Admitted (s : ℕ) (v : Save) (freed : List ℕ) (work : Work) (map : ℕ) : Type 0 where
  pub admits : admitted s v freed map ≡ answer (finished s v freed)
  pub is : work ≡ work_of s v freed

-- a finish that answers, with this buffer, this number list and a map lent, and its work
pub record Goes (s : ℕ) (v : Save) (freed : List ℕ) (work : Work) (buffer numbers : List ℕ) : Type 0 where
  pub size : IsPageSize s
  pub map : ℕ
  pub answers : finish s v freed (record { bytes = length buffer; numbers = length numbers; map = map }) ≡ answer (finished s v freed)
  pub is : work ≡ work_of s v freed

-- a save that stands, and changes the list
pub record Changed (s : ℕ) (v : Save) (freed : List ℕ) : Type 0 where
  pub size : IsPageSize s
  pub state : state_fits s v ≡ true
  pub changed : unchanged v freed ≡ false

-- its work can be done: there is room in the tables
pub record Doable (s : ℕ) (v : Save) (freed : List ℕ) (work : Work) : Type 0 where
  pub save : Changed s v freed
  pub is : work ≡ work_of s v freed
  pub limit : (finished s v freed).bump ≤ max_bump
  pub pages_fit : length (finished s v freed).list.pages ≤ length v.page_table
  pub entries_fit : length (finished s v freed).list.entries ≤ length v.entry_table

-- the answer, with the first pages of the page table as the new list's
abbrev pub answer_of : ℕ → Work → List ℕ → FinishAnswer
answer_of recorded work pages =
    record {
      head = get_or (take work.pages pages) (work.pages - 1) 0;
      bump = work.plan.bump;
      recorded = cond (ltb recorded work.plan.bump) (grown work.plan.bump) recorded;
      P = work.pages;
      L = work.entries;
      count = work.written;
    }

-- ---- the push list

-- the first two change places, where asked
abbrev pub swap_if : Bool → List ℕ → List ℕ
swap_if true [] = []
swap_if true (x ∷ []) = x ∷ []
swap_if true (x ∷ y ∷ ns) = y ∷ x ∷ ns
swap_if false ns = ns

-- the push list: the freed numbers, then the old numbers of the pages from the top down to page `low`; a list that was mended has the
-- page under the head first
unfoldable pub push_list : List ℕ → Bool → List ℕ → ℕ → List ℕ
push_list freed mended pages low = freed ++ swap_if mended (reverse (drop low pages))

-- it has room in the table of entries, from place `at` on
pub record Pushable (freed released : List ℕ) (mended : Bool) (entries : List ℕ) (at : ℕ) : Type 0 where
  pub entries_fit : at + length freed + length released ≤ length entries
  pub two : mended ≡ true → 2 ≤ length released

-- ---- the new list

-- the bytes of n of its pages from page `first` up
abbrev pub bytes_from : ℕ → FreeList → ℕ → ℕ → List ℕ
bytes_from s l first n = bytes_of_pages (encoded_pages s l first n)

-- the numbers of the pages that are written: the top page's, if one is kept, and the new pages'
unfoldable pub new_numbers : Plan → List ℕ
new_numbers t = cond (leb 1 t.kept) (t.top ∷ t.fresh) t.fresh

abbrev pub numbers_for : ℕ → Save → List ℕ → List ℕ
numbers_for s v freed = new_numbers (plan_for s v freed)

-- there is room for them in the number list, or they stand there
pub record Numberable (s : ℕ) (v : Save) (freed : List ℕ) (work : Work) (numbers : List ℕ) : Type 0 where
  pub doable : Doable s v freed work
  pub numbers_fit : work.written ≤ length numbers

pub record Filled (s : ℕ) (v : Save) (freed : List ℕ) (work : Work) (numbers : List ℕ) : Type 0 where
  pub fillable : Numberable s v freed work numbers
  pub numbers_are : take work.written numbers ≡ numbers_for s v freed

-- the tables with the new list
abbrev pub new_tables : ℕ → Save → List ℕ → ListTables
new_tables s v freed =
    let f = finished s v freed in
    record { pages = sets v.page_table 0 f.list.pages; entries = sets v.entry_table 0 f.list.entries }
