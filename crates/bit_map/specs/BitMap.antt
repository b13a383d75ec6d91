-- A bit map: number n is bit n % 8 of byte n / 8. It stands for a set, the numbers that are marked: those whose bits are 1.
use Rattle.std.specs.Prelude.{ℕ, ◌+◌, ◌/◌, ◌%◌, ◌^◌, Bool, List, eqb, leb, get_or, set, replicate, bit_or}
use Rattle.std.specs.Int.{bit_at}
use Rattle.std.proofs.lemmas.List.Edits.{sets}

-- the bytes in use where there is a bit for each number below a limit
unfoldable pub bytes_in_use : ℕ → ℕ
bytes_in_use limit = (limit + 7) / 8

-- does a map of so many bytes have these? (refusal 21)
abbrev pub has_bits : ℕ → ℕ → Bool
has_bits limit bytes = leb (bytes_in_use limit) bytes

-- is n marked?
unfoldable pub is_marked : List ℕ → ℕ → Bool
is_marked map n = eqb (bit_at (get_or map (n / 8) 0) (n % 8)) 1

-- with n marked
unfoldable pub with_marked : List ℕ → ℕ → List ℕ
with_marked map n = set map (n / 8) (bit_or (get_or map (n / 8) 0) (2 ^ (n % 8)))

-- with none marked: the bytes in use are zero, and the others stay
unfoldable pub cleared : ℕ → List ℕ → List ℕ
cleared limit map = sets map 0 (replicate (bytes_in_use limit) 0)
