-- The open save.
use Rattle.std.specs.Prelude.{ℕ, ◌≡◌, List, [], ◌∷◌, Result, Ok, Err}
use Rattle.refusal.specs.Effect.{Lent, LentMut, given, before, after, nothing, effect, called, left}
use Rattle.allocator.specs.OpenSave.{Save, HandedOut, hand_out}
use Rattle.allocator.specs.declared.save.Save.{Save as SaveStruct}
use Rattle.allocator.specs.declared.save.OpenSave.{OpenSave}
use Rattle.allocator.specs.declared.allocate.Handed.{Handed}
use Rattle.page.specs.declared.number.PageNumber.{PageNumber}
use Rattle.refusal.specs.declared.Refusal.{Refusal}
use Rattle.finisher.specs.Finish.{FinishAnswer, finish_room, finish_lent, finish_into}

-- an open save as a host lends it: its bump, recorded length, P, L and numbers handed out, and the two tables
abbrev pub open_save : ℕ → ℕ → ℕ → ℕ → ℕ → List ℕ → List ℕ → Save
open_save bump length p l count pages entries =
    record { page_table = pages; entry_table = entries; P = p; L = l; bump = bump; recorded = length; handed = count }

-- the same without the tables, as the code has it
abbrev pub save_of : ℕ → ℕ → ℕ → ℕ → ℕ → SaveStruct
save_of bump length p l count =
    record { start = record { bump = bump; pages = p; entries = l }; «open» = record { allocations = record { 0 = count }; length = length } }

-- the number, and how many numbers are handed out and the recorded length after it
abbrev pub handed_values : HandedOut → List ℕ
handed_values h = h.number ∷ h.save.handed ∷ h.save.recorded ∷ []

-- what an open save answered, beside the save after it
abbrev pub handed : Result PageNumber Refusal → OpenSave → Result Handed Refusal
handed (Ok number) «open» = Ok (record { number = number; «open» = «open» })
handed (Err r) «open» = Err r

-- the same of what the code handed out
abbrev pub handed_told : Handed → List ℕ
handed_told h = h.number.0 ∷ h.«open».allocations.0 ∷ h.«open».length ∷ []

abbrev pub HandsOut : ℕ → ℕ → ℕ → ℕ → ℕ → ℕ → Lent → Lent → LentMut → ℕ → Type 0
HandsOut s bump length p l count pages entries out r =
    left r out nothing ≡ called handed_values (before out) (effect (hand_out s (open_save bump length p l count (given pages) (given entries))) nothing)

-- head, bump, recorded length, P, L, pages written
abbrev pub finish_values : FinishAnswer → List ℕ
finish_values a = a.head ∷ a.bump ∷ a.recorded ∷ a.P ∷ a.L ∷ a.count ∷ []

abbrev pub Finishes : ℕ → ℕ → ℕ → ℕ → ℕ → ℕ → LentMut → LentMut → Lent → LentMut → LentMut → LentMut → LentMut → ℕ → Type 0
Finishes s bump length p l count pages entries freed buffer numbers map out r =
    left r out (finish_lent after pages entries buffer numbers map)
    ≡ called finish_values (before out)
    (finish_into s (open_save bump length p l count (before pages) (before entries)) (given freed) (finish_room before buffer numbers map))
