-- Numbers in decimal, as ASCII bytes.
use Rattle.std.specs.Prelude.{ℕ, zero, suc, ◌+◌, ◌*◌, ◌-◌, ◌/◌, ◌%◌, Bool, true, ◌&&◌, cond, List, [], ◌∷◌, ◌++◌, leb, ltb}

-- `0` to `9`
unfoldable pub is_digit : ℕ → Bool
is_digit byte = leb 48 byte && leb byte 57

unfoldable pub all_digits : List ℕ → Bool
all_digits [] = true
all_digits (byte ∷ bytes) = is_digit byte && all_digits bytes

-- the number that digits write behind those of n
unfoldable pub decimal_after : ℕ → List ℕ → ℕ
decimal_after n [] = n
decimal_after n (byte ∷ bytes) = decimal_after (10 * n + (byte - 48)) bytes

-- the number that digits write
abbrev pub decimal_of : List ℕ → ℕ
decimal_of = decimal_after 0

-- the digits of n, with no leading zero: those of n / 10, and the last one. `more` bounds how many stand before the last: n is enough
unfoldable pub digits_up_to : ℕ → ℕ → List ℕ
digits_up_to zero n = (48 + n) ∷ []
digits_up_to (suc more) n =
    let several : List ℕ = digits_up_to more (n / 10) ++ ((48 + n % 10) ∷ []) in
    cond (ltb n 10) ((48 + n) ∷ []) several

abbrev pub digits_of : ℕ → List ℕ
digits_of n = digits_up_to n n
