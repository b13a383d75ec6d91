-- The calls of a save, one after another, each with a recorded length and tables of its own; what goes on from call to call is how many
-- numbers were handed out.
use Rattle.std.specs.Prelude.{ℕ, List, [], ◌∷◌, ◌++◌, length}
use Rattle.refusal.specs.Outcome.{Outcome, answer, refused}
use Rattle.free_list.specs.Shape.{FreeList}
use Rattle.free_list.specs.Reading.{ListTables}
use Rattle.allocator.specs.OpenSave.{Save, HandedOut, hand_out}
use Rattle.finisher.specs.Finish.{Finished, finish, RoomLent}

-- what a call has of its own: the recorded length, and what stands behind the list in its tables
pub record Own : Type 0 where
  pub recorded : ℕ
  pub behind : ListTables

-- tables of any length with the list at the front, and anything behind it
abbrev pub in_front : FreeList → ListTables → ListTables
in_front l behind = record { pages = l.pages ++ behind.pages; entries = l.entries ++ behind.entries }

-- a save of this list and bump, which has handed out n numbers, as a call gets it
abbrev pub open_on : FreeList → ℕ → ℕ → Own → Save
open_on l bump n own =
    let t = in_front l own.behind in
    record {
      page_table = t.pages;
      entry_table = t.entries;
      P = length l.pages;
      L = length l.entries;
      bump = bump;
      recorded = own.recorded;
      handed = n;
    }

-- hand out a number; or finish, with these numbers freed, so much room lent for the pages to write, and a map of so many bytes
pub data Call : Type 0 where
  hand_out_call : Own → Call
  finish_call : Own → List ℕ → RoomLent → Call

-- what the calls leave: the numbers handed out; and the finish that succeeded, if one did, with the numbers that it freed
pub record Run : Type 0 where
  pub numbers : List ℕ
  pub finished : List Finished
  pub freed : List ℕ

-- a refused call leaves the save as it was; a finish that succeeds is the save's last call, and what comes behind it counts for nothing
abbrev pub after_hand_out : (ℕ → Run) → Run → Outcome HandedOut → Run
after_hand_out next stay (answer h) =
    let r = next h.save.handed in
    record { numbers = h.number ∷ r.numbers; finished = r.finished; freed = r.freed }
after_hand_out next stay (refused number values) = stay

abbrev pub after_finish : List ℕ → Run → Outcome Finished → Run
after_finish freed stay (answer f) = record { numbers = []; finished = f ∷ []; freed = freed }
after_finish freed stay (refused number values) = stay

-- run the calls on a save of this list and bump, which has handed out n numbers
unfoldable pub run : ℕ → FreeList → ℕ → ℕ → List Call → Run
run s l bump n [] = record { numbers = []; finished = []; freed = [] }
run s l bump n (hand_out_call own ∷ calls) =
    after_hand_out (λ (m : ℕ). run s l bump m calls) (run s l bump n calls) (hand_out s (open_on l bump n own))
run s l bump n (finish_call own freed room ∷ calls) = after_finish freed (run s l bump n calls) (finish s (open_on l bump n own) freed room)
