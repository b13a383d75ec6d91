-- The open save: its state, and handing out a number.
use Rattle.std.specs.Prelude.{ℕ, suc, ◌+◌, ◌-◌, Bool, ◌&&◌, ◌||◌, cond, List, [], leb, ltb, length, get_or, take}
use Rattle.refusal.specs.Outcome.{Outcome, answer, check}
use Rattle.refusal.specs.Effect.{Effect, leaves}
use Rattle.page.specs.PageSize.{capacity}
use Rattle.page.specs.Growth.{max_bump, grown}
use Rattle.free_list.specs.Shape.{FreeList, is_shape}

-- an open save: the first list in two tables, its bump, the store's *recorded length*, and how many numbers were handed out
pub record Save : Type 0 where
  pub page_table : List ℕ
  pub entry_table : List ℕ
  pub P : ℕ
  pub L : ℕ
  pub bump : ℕ
  pub recorded : ℕ
  pub handed : ℕ

-- the first list: the filled part of the tables
abbrev pub list_of : Save → FreeList
list_of v = record { pages = take v.P v.page_table; entries = take v.L v.entry_table }

-- does the state stand? (refusal 1)
unfoldable pub state_fits : ℕ → Save → Bool
state_fits s v =
    (leb 1 v.bump && leb v.bump max_bump)
    && (is_shape (capacity s) v.P v.L && (leb v.P (length v.page_table) && leb v.L (length v.entry_table)))

-- the bump after the numbers handed out
abbrev pub bumped : Save → ℕ
bumped v = v.bump + (v.handed - v.L)

-- the next number: entries are popped from the end, and past the list it is the bump
unfoldable pub next_number : Save → ℕ
next_number v = cond (ltb v.handed v.L) (get_or v.entry_table (v.L - suc v.handed) 0) (bumped v)

-- the recorded length after it: a number past the list that is not below it grows it
unfoldable pub next_recorded : Save → ℕ
next_recorded v = cond (ltb v.handed v.L || ltb (next_number v) v.recorded) v.recorded (grown (next_number v))

-- the save with one number more handed out
abbrev pub next_save : Save → Save
next_save v =
    record { page_table = v.page_table; entry_table = v.entry_table; P = v.P; L = v.L; bump = v.bump; recorded = next_recorded v; handed = suc v.handed }

-- a number handed out, and the save after it
pub record HandedOut : Type 0 where
  pub number : ℕ
  pub save : Save

-- hand out one number
unfoldable pub hand_out : ℕ → Save → Outcome HandedOut
hand_out s v =
    check (state_fits s v) 1 []
    (check (ltb v.handed v.L || ltb (next_number v) max_bump) 7 []
    (answer (record { number = next_number v; save = next_save v })))

-- ---- counting up where the save stands

-- what changes: how many numbers were handed out, and the recorded length
pub record Counters : Type 0 where
  pub handed : ℕ
  pub recorded : ℕ

abbrev pub counters : Save → Counters
counters v = record { handed = v.handed; recorded = v.recorded }

-- hand out one number, and count up; a refusal leaves all as it was
unfoldable pub count_up : ℕ → Save → Effect ℕ Counters
count_up s v = leaves (λ (h : HandedOut). h.number) (λ (h : HandedOut). counters h.save) (counters v) (hand_out s v)
