-- The numbers that name the kinds of calls.
use Rattle.std.specs.Prelude.{ℕ, ◌≡◌, ◌≢◌, List, ◌∷◌}
use Rattle.replayed.specs.declared.kind.Kind.{Kind}
use Rattle.replayed.specs.declared.kind.Kind.TheVariants.{Grow, Total, ReadList, HandOut, Finish, WritePage, EncodeCell, DecodeCell, ReadValue, DeleteValue, Lookup, WriteOldPage, Columns, Rows}

-- the number of each kind
abbrev pub number_of : Kind → ℕ
number_of Grow = 1
number_of Total = 2
number_of ReadList = 3
number_of HandOut = 4
number_of Finish = 5
number_of WritePage = 6
number_of EncodeCell = 7
number_of DecodeCell = 8
number_of ReadValue = 9
number_of DeleteValue = 10
number_of Lookup = 11
number_of WriteOldPage = 12
number_of Columns = 13
number_of Rows = 14

-- n is the number of no kind
abbrev pub NamesNone : ℕ → Type 0
NamesNone n = (kind : Kind) → n ≢ number_of kind

-- the line begins with the number of a kind
abbrev pub NamesKind : List ℕ → Type 0
NamesKind line = (kind : Kind) × (rest : List ℕ) × (line ≡ number_of kind ∷ rest)
