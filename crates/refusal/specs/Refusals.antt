-- Document 01's table 'What stops a call', and document 02's new numbers: the number of each refusal, and the values returned with it.
use Rattle.std.specs.Prelude.{ℕ, List, [], ◌∷◌, Option, Some, None, Result, Ok, Err}
use Rattle.refusal.specs.Outcome.{Outcome, answer, refused}
use Rattle.refusal.specs.declared.Refusal.{Refusal}
use Rattle.refusal.specs.declared.Refusal.TheVariants.{State, ListPage, Count, Entry, Chain, Tables, Limit, Freed, Buffer, Size, Index, Cell, Room, Unknown, Missing, ValuePage, Numbers, Bytes, Map, Repeat, EmptyPage, Rows, SecondBuffer}

-- the number
abbrev pub number : Refusal → ℕ
number State = 1
number (ListPage page) = 2
number (Count page) = 3
number (Entry page) = 4
number Chain = 5
number Tables = 6
number Limit = 7
number (Freed place) = 8
number Buffer = 9
number Size = 10
number Index = 11
number Cell = 12
number Room = 13
number (Unknown index) = 14
number (Missing index) = 15
number (ValuePage index) = 16
number Numbers = 17
number Bytes = 18
number Map = 21
number Repeat = 22
number (EmptyPage index) = 25
number Rows = 26
number SecondBuffer = 27

-- what is returned beside the number; of a page that is looked up the index of `Missing` is its number
abbrev pub values : Refusal → List ℕ
values State = []
values (ListPage page) = page ∷ []
values (Count page) = page ∷ []
values (Entry page) = page ∷ []
values Chain = []
values Tables = []
values Limit = []
values (Freed place) = place ∷ []
values Buffer = []
values Size = []
values Index = []
values Cell = []
values Room = []
values (Unknown index) = index ∷ []
values (Missing index) = index ∷ []
values (ValuePage index) = index ∷ []
values Numbers = []
values Bytes = []
values Map = []
values Repeat = []
values (EmptyPage index) = index ∷ []
values Rows = []
values SecondBuffer = []

-- a value returned beside the number, or none
abbrev pub told_beside : Option ℕ → List ℕ
told_beside None = []
told_beside (Some value) = value ∷ []

-- the outcome that a refusal is
abbrev pub refusal : {A : Type 0} → Refusal → Outcome A
refusal r = refused (number r) (values r)

-- what the code answers, as an outcome: `told` says what an answer is to a definition
abbrev pub outcome : {A B : Type 0} → (A → B) → Result A Refusal → Outcome B
outcome told (Ok a) = answer (told a)
outcome told (Err r) = refusal r
