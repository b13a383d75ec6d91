-- The lines of an input, each without its newline, and the size that a line gives.
use Rattle.std.specs.Prelude.{ℕ, suc, ◌+◌, ◌&&◌, cond, List, [], ◌∷◌, ◌++◌, Option, Some, None, leb, eqb, length, drop}
use Rattle.listing.specs.Decimal.{all_digits, decimal_of}

abbrev pub newline : ℕ
newline = 10

-- the bytes before the first newline, or all
unfoldable pub line_length : List ℕ → ℕ
line_length [] = 0
line_length (byte ∷ bytes) = cond (eqb byte newline) 0 (suc (line_length bytes))

-- the place of the first newline at or after `from`, or the length; `from` where that is past the end
unfoldable pub end_of_line : List ℕ → ℕ → ℕ
end_of_line bytes from = from + line_length (drop from bytes)

-- the lines of an input, where `line` was read already. The last line may lack its newline; after a final newline there is none
unfoldable pub lines_after : List ℕ → List ℕ → List (List ℕ)
lines_after [] [] = []
lines_after (b ∷ line) [] = (b ∷ line) ∷ []
lines_after line (byte ∷ bytes) = cond (eqb byte newline) (line ∷ lines_after [] bytes) (lines_after (line ++ (byte ∷ [])) bytes)

abbrev pub lines : List ℕ → List (List ℕ)
lines = lines_after []

-- a line of 1 to 9 digits is a size
unfoldable pub size_of : List ℕ → Option ℕ
size_of line = cond (leb 1 (length line) && leb (length line) 9 && all_digits line) (Some (decimal_of line)) None
