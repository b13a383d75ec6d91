-- Calls of the code, each with what was lent to it and what it left, by the definitions that the contracts of `mopsienna_hand_out` and
-- `mopsienna_finish` cite; and the claim that any sequence of them, refused ones too, is one of the statement.
use Rattle.std.specs.Prelude.{ℕ, ◌<◌, ◌≡◌, true, false, length}
use mathlib.Core.List.{List, [], ◌∷◌, ◌++◌, map, Memᴰ}
use Rattle.refusal.specs.Outcome.{Outcome, answer, refused}
use Rattle.refusal.specs.Effect.{Effect, effect}
use Rattle.page.specs.Pages.{page_count, Write, write_pages}
use Rattle.free_list.specs.Shape.{FreeList, head_of}
use Rattle.bit_map.specs.BitMap.{has_bits}
use Rattle.free_list.specs.Reading.{ListSize, size_of, ListTables, ListLent, has_room, read_list_into}
use Rattle.overflow.specs.Totals.{IsTotal}
use Rattle.overflow.specs.Cells.{hash_size, cell_bytes}
use Rattle.overflow.specs.Kept.{Kept, cell_for}
use Rattle.allocator.specs.OpenSave.{Save, HandedOut, hand_out}
use Rattle.finisher.specs.Finish.{Finished, FinishAnswer, FinishRoom, FinishLent, lent_pages, finish_into}
use Rattle.rollback.specs.Calls.{Own, in_front, open_on, Call, Run, run}
use Rattle.rollback.specs.Rollback.{GetsList, GetsValue, State, Good, StillReads}

-- one call: the open save that it was given, what else was lent, and what it left
pub data CodeCall : Type 0 where
  hand_out_made : Save → Outcome HandedOut → CodeCall
  finish_made : Save → List ℕ → FinishRoom → Effect FinishAnswer FinishLent → CodeCall

-- a save of this list and bump, which has handed out n numbers, with a recorded length and tables of the call's own
abbrev pub OpenOn : FreeList → ℕ → ℕ → Save → Type 0
OpenOn l bump n v = (own : Own) × (v ≡ open_on l bump n own)

-- where a call answered, and where it was refused
abbrev pub if_answered : {A : Type 0} → (A → Type 0) → Type 0 → Outcome A → Type 0
if_answered told stopped (answer a) = told a
if_answered told stopped (refused number values) = stopped

-- Calls on a save of this list and bump, which has handed out n numbers. Each left what its contract says. One that answered was given
-- that save, and the count of a number handed out goes on to the next; a finish that answered was the last. Nothing is asked of one that
-- was refused: it may have been given anything.
abbrev pub Follows : ℕ → FreeList → ℕ → ℕ → List CodeCall → Type 0
Follows s l bump n [] = Unit {0}
Follows s l bump n (hand_out_made v o ∷ made) =
    (o ≡ hand_out s v) × if_answered (λ (h : HandedOut). OpenOn l bump n v × Follows s l bump h.save.handed made) (Follows s l bump n made) o
Follows s l bump n (finish_made v freed room e ∷ made) =
    (e ≡ finish_into s v freed room) × if_answered (λ (a : FinishAnswer). OpenOn l bump n v × (made ≡ [])) (Follows s l bump n made) e.outcome

-- ---- what they told their caller

-- the answer, if there is one
abbrev pub answers : {A : Type 0} → Outcome A → List A
answers (answer a) = a ∷ []
answers (refused number values) = []

-- the numbers
unfoldable pub numbers_told : List CodeCall → List ℕ
numbers_told [] = []
numbers_told (hand_out_made v o ∷ made) = map (λ (h : HandedOut). h.number) (answers o) ++ numbers_told made
numbers_told (finish_made v freed room e ∷ made) = numbers_told made

-- a finish that answered: what was freed, its answer, and what it left
pub record FinishTold : Type 0 where
  pub freed : List ℕ
  pub answer : FinishAnswer
  pub lent : FinishLent

abbrev pub told_with : List ℕ → FinishLent → FinishAnswer → FinishTold
told_with freed lent a = record { freed = freed; answer = a; lent = lent }

unfoldable pub finish_told : List CodeCall → List FinishTold
finish_told [] = []
finish_told (hand_out_made v o ∷ made) = finish_told made
finish_told (finish_made v freed room e ∷ made) = map (told_with freed e.lent) (answers e.outcome) ++ finish_told made

-- the pages that it left in the buffer, with their numbers
abbrev pub pages_left : ℕ → FinishTold → List Write
pages_left s t = lent_pages s t.lent.room.buffer t.lent.room.numbers 0 t.answer.count

-- ---- that they are calls of the statement

-- what was told is this finish: its head, bump, P and L; its pages in the buffer; tables with its list at the front, which the next save
-- is opened with. And a store of the recorded length has all pages that were freed.
pub record Tells (s : ℕ) (f : Finished) (t : FinishTold) : Type 0 where
  pub head : t.answer.head ≡ head_of f.list
  pub bump : t.answer.bump ≡ f.bump
  pub P : t.answer.P ≡ length f.list.pages
  pub L : t.answer.L ≡ length f.list.entries
  pub writes : pages_left s t ≡ f.written
  pub opens : (behind : ListTables) × (t.lent.tables ≡ in_front f.list behind)
  pub covers : (n : ℕ) → Memᴰ n t.freed → n < t.answer.recorded

-- no finish has answered, or one has, which is the one that succeeded
abbrev pub FinishIs : ℕ → List Finished → List ℕ → List FinishTold → Type 0
FinishIs s finished freed [] = finished ≡ []
FinishIs s finished freed (t ∷ ts) = (ts ≡ []) × (freed ≡ t.freed) × (f : Finished) × (finished ≡ f ∷ []) × Tells s f t

-- the calls are this run
pub record IsRun (s : ℕ) (made : List CodeCall) (r : Run) : Type 0 where
  pub numbers : r.numbers ≡ numbers_told made
  pub finish : FinishIs s r.finished r.freed (finish_told made)

-- any sequence of calls of the code is a run of the statement
abbrev pub CodeRuns : ℕ → Type 0
CodeRuns s = (l : FreeList) (bump n : ℕ) (made : List CodeCall) → Follows s l bump n made → (calls : List Call) × IsRun s made (run s l bump n calls)

-- one read that answers is enough for `GetsList`: it has found a list, which every reader with this head gets, and its tables have it at the front
abbrev pub ReadGets : ℕ → Type 0
ReadGets s = (store : List ℕ) (head : ℕ) (lent after : ListLent) (size : ListSize) → read_list_into s store false head lent ≡ effect (answer size) after
    → (l : FreeList) × GetsList s store head l × (size ≡ size_of l) × (behind : ListTables) × (after.tables ≡ in_front l behind)

-- a save is opened with the tables that its list was read into
abbrev pub ReadOpens : ℕ → Type 0
ReadOpens s = (store : List ℕ) (head : ℕ) (l : FreeList) → GetsList s store head l
    → (t : ListLent) → has_room t.tables l ≡ true → has_bits (page_count s store) (length t.map) ≡ true
    → (behind : ListTables) × ((read_list_into s store false head t).lent.tables ≡ in_front l behind)

-- a value whose pages, as a writer makes them by the one total or the other, stand in the store at their numbers, is one that its reader gets by
-- its cell: size, hash, numbers and bytes
abbrev pub WrittenReads : ℕ → Type 0
WrittenReads s = (store : List ℕ) (total : ℕ) (value numbers : List ℕ) → IsTotal s (length value) total → Kept s store total value numbers → (hash : List ℕ) → length hash ≡ hash_size
    → GetsValue s store (record { cell = cell_bytes (cell_for value hash numbers); hash = hash; numbers = numbers; bytes = value })

-- ---- demand 3 in the words of such a caller

-- what it may write: any page at a number that it was told, and the pages that the finish left in the buffer
pub data FromCode (s : ℕ) (made : List CodeCall) (w : Write) : Type 0 where
  value_page : Memᴰ w.number (numbers_told made) → length w.bytes ≡ s → FromCode s made w
  list_page : (t : FinishTold) → Memᴰ t (finish_told made) → Memᴰ w (pages_left s t) → FromCode s made w

-- whatever calls it makes and whichever of these pages are written, the first head and the first cells read as they did
abbrev pub CodeRollback : ℕ → Type 0
CodeRollback s = (a : State) → Good s a → (n : ℕ) (made : List CodeCall) → Follows s a.list a.bump n made
    → (extra : List ℕ) (writes : List Write) → ((w : Write) → Memᴰ w writes → FromCode s made w)
    → StillReads s a (write_pages s (a.store ++ extra) writes)
