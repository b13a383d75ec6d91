-- The numbers that one save is handed out all differ: whatever calls it makes, refused ones too, and whatever it counts as handed out at its start.
use Rattle.std.specs.Prelude.{ℕ, ◌<◌, ◌≡◌}
use mathlib.Core.List.{List, Memᴰ}
use Rattle.laws.specs.Counting.{Different}
use Rattle.refusal.specs.Outcome.{answer}
use Rattle.free_list.specs.Shape.{FreeList}
use Rattle.allocator.specs.OpenSave.{Save}
use Rattle.finisher.specs.Finish.{Finished, RoomLent, finish}
use Rattle.rollback.specs.Calls.{Call, run}
use Rattle.rollback.specs.Rollback.{GetsList}
use Rattle.rollback.specs.CodeCalls.{CodeCall, Follows, numbers_told}

-- those of a save of this list and bump: in the statement's calls, and as the code's tell them
pub record HandsOut (s : ℕ) (l : FreeList) (bump : ℕ) : Type 0 where
  pub run : (n : ℕ) (calls : List Call) → Different (run s l bump n calls).numbers
  pub told : (n : ℕ) (made : List CodeCall) → Follows s l bump n made → Different (numbers_told made)

-- where the list was read, and its entries lie below the bump
abbrev pub ReadHandsOut : ℕ → Type 0
ReadHandsOut s = (store : List ℕ) (head : ℕ) (l : FreeList) → GetsList s store head l → (bump : ℕ) → ((n : ℕ) → Memᴰ n l.entries → n < bump) → HandsOut s l bump

-- and where a finish made the list: of its numbers nothing is asked
abbrev pub FinishHandsOut : ℕ → Type 0
FinishHandsOut s = (v : Save) (freed : List ℕ) (room : RoomLent) (f : Finished) → finish s v freed room ≡ answer f → HandsOut s f.list f.bump
