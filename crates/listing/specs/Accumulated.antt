-- What the code accumulates of a line as it is read, and the size that this gives.
use Rattle.std.specs.Prelude.{ℕ, ◌+◌, ◌*◌, ◌-◌, ◌^◌, Bool, false, ◌&&◌, cond, List, fold, Option, Some, None, option_and_then, ltb, eqb}
use Rattle.listing.specs.Decimal.{is_digit}
use Rattle.listing.specs.declared.line.Digits.{Digits}
use Rattle.listing.specs.declared.line.Line.{Line}

-- before the first byte
abbrev pub no_bytes : Line
no_bytes = record { digits = Some (record { count = 0; value = 0 }) }

-- of a line that is no size, whatever follows
abbrev pub no_size : Line
no_size = record { digits = None }

-- digits after one byte more: nothing where that is no size
unfoldable pub digits_with_byte : Digits → ℕ → Option Digits
digits_with_byte digits byte =
    cond (ltb digits.count 9 && (ltb digits.value (10 ^ 8) && is_digit byte))
    (Some (record { count = digits.count + 1; value = 10 * digits.value + (byte - 48) }))
    None

-- after one byte more
abbrev pub with_byte : Line → ℕ → Line
with_byte line byte = record { digits = option_and_then (λ digits. digits_with_byte digits byte) line.digits }

-- after some bytes more
abbrev pub with_bytes : Line → List ℕ → Line
with_bytes = fold with_byte

-- whether no byte was read
abbrev pub accumulated_empty : Line → Bool
accumulated_empty line = elim line.digits [ Some digits ↦ eqb digits.count 0 | None ↦ false ]

-- the size that it gives
abbrev pub accumulated_size : Line → Option ℕ
accumulated_size line = option_and_then (λ digits. cond (eqb digits.count 0) None (Some digits.value)) line.digits
