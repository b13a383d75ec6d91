-- The numbers that a line of text says.
use Rattle.std.specs.Prelude.{ℕ, ◌<◌, ◌^◌, ◌==◌, List, All, map}
use Rattle.std.specs.List.{slice_split}
use Rattle.std.specs.Str.Parse.{IsNumeral, digits_value}

-- what stands between the spaces
abbrev pub parts_of : List ℕ → List (List ℕ)
parts_of line = slice_split (λ b. b == 32) line

-- decimal digits alone, which write a number of 64 bits
abbrev pub IsNumber : List ℕ → Type 0
IsNumber bs = IsNumeral 10 bs × (digits_value 10 bs < 2 ^ 64)

-- each part is a number
abbrev pub IsLine : List ℕ → Type 0
IsLine line = All IsNumber (parts_of line)

-- these numbers
abbrev pub numbers_of : List ℕ → List ℕ
numbers_of line = map (digits_value 10) (parts_of line)
