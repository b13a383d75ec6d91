-- What is read of a line, byte by byte.
use Rattle.std.specs.Prelude.{ℕ, ◌≡◌, ◌<◌, List, [], ◌++◌, All, length, map, Option, Result, MatchOption, MatchResult}
use Rattle.std.specs.Str.Parse.{digits_value}
use Rattle.record_line.specs.declared.fault.Fault.{Fault}
use Rattle.record_line.specs.declared.fault.Fault.TheVariants.{Wrong, OutOfMemory}
use Rattle.record_line.specs.declared.TheConstants.{MOST}
use Rattle.record_line.specs.declared.reading.Reading.{Reading}
use Rattle.record_line.specs.Text.{IsNumber, IsLine, parts_of}

-- no digit is read of a part yet, or digits that write this number
abbrev pub Writes : Option ℕ → List ℕ → Type 0
Writes last digits = MatchOption last (digits ≡ []) (λ number. IsNumber digits × (digits_value 10 digits ≡ number))

-- the parts that ended are numbers, and digits alone stand behind them, whatever follows
pub record ReadsNumbers (numbers : List ℕ) (last : Option ℕ) (bytes : List ℕ) : Type 0 where
  pub ended : List (List ℕ)
  pub digits : List ℕ
  pub right : All IsNumber ended
  pub values : numbers ≡ map (digits_value 10) ended
  pub writes : Writes last digits
  pub parts : (more : List ℕ) → parts_of (bytes ++ more) ≡ ended ++ parts_of (digits ++ more)

-- why these bytes are no line of at most MOST numbers
abbrev pub Fails : Fault → List ℕ → Type 0
Fails Wrong bytes = ¬ (IsLine bytes)
Fails OutOfMemory bytes = MOST < length (parts_of bytes)

-- these numbers, and what is read of the last one; or why no line begins with these bytes
abbrev pub ReadsOn : List ℕ → Result (Option ℕ) Fault → List ℕ → Type 0
ReadsOn numbers last bytes =
    MatchResult last (λ last. ReadsNumbers numbers last bytes) (λ fault. (more : List ℕ) → Fails fault (bytes ++ more))

abbrev pub Reads : Reading → List ℕ → Type 0
Reads reading bytes = ReadsOn reading.numbers.items reading.last bytes
