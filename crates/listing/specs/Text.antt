-- The text printed for a size, a line and an input, at pages of s bytes.
use Rattle.std.specs.Prelude.{ℕ, Option, Some, None, codes}
use mathlib.Core.List.{List, [], ◌∷◌, ◌++◌, flat_map}
use Rattle.refusal.specs.Outcome.{Outcome, answer, refused}
use Rattle.overflow.specs.Totals.{Total, page_total}
use Rattle.listing.specs.Decimal.{digits_of}
use Rattle.listing.specs.Lines.{newline, lines, size_of}

-- a space and a number
unfoldable pub number_text : ℕ → List ℕ
number_text n = 32 ∷ digits_of n

-- behind a size: its total, the numbers in the cell and the spare room; or ` refused` and the refusal's number
unfoldable pub outcome_text : Outcome Total → List ℕ
outcome_text (answer t) = number_text t.total ++ (number_text t.cell ++ number_text t.spare)
outcome_text (refused number values) = codes " refused" ++ number_text number

-- `bad`, or the size and what is told of it
unfoldable pub size_text : ℕ → Option ℕ → List ℕ
size_text s None = codes "bad\n"
size_text s (Some n) = digits_of n ++ (outcome_text (page_total s n) ++ (newline ∷ []))

-- what is printed for a line
unfoldable pub line_text : ℕ → List ℕ → List ℕ
line_text s line = size_text s (size_of line)

-- the text of a line has at most so many bytes (`length_line` of proofs/TextLaws)
abbrev pub max_text : ℕ
max_text = 64

unfoldable pub header : List ℕ
header = codes "size pages cell spare\n"

-- all that is printed for an input
unfoldable pub listing : ℕ → List ℕ → List ℕ
listing s input = header ++ flat_map (line_text s) (lines input)
