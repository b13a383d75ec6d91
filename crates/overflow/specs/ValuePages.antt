-- Value pages: two bytes count of numbers, two bytes count of value bytes, numbers, bytes.
use Rattle.std.specs.Prelude.{ℕ, ◌+◌, ◌*◌, ◌-◌, ◌&&◌, cond, List, [], ◌++◌, leb, ltb, eqb, length, take, drop, replicate}
use Rattle.refusal.specs.Outcome.{Outcome, answer, check}
use Rattle.refusal.specs.Effect.{Effect}
use Rattle.page.specs.Bytes.{number_at, bytes_of, numbers_at, bytes_of_all}
use Rattle.overflow.specs.Totals.{max_size, cell_numbers}
use Rattle.overflow.specs.Layout.{numbers_before, numbers_on, bytes_before, bytes_on}
use Rattle.refusal.specs.Stored.{stored_in}

-- the count of numbers
unfoldable pub number_count : List ℕ → ℕ
number_count b = number_at 2 b 0

-- the count of value bytes
unfoldable pub byte_count : List ℕ → ℕ
byte_count b = number_at 2 b 2

-- the numbers
unfoldable pub value_numbers : List ℕ → List ℕ
value_numbers b = numbers_at 4 b 4 (number_count b)

-- the value bytes
unfoldable pub value_bytes : List ℕ → List ℕ
value_bytes b = take (byte_count b) (drop (4 + 4 * number_count b) b)

-- ---- what bytes of any length say; the value bytes are as far as they go

-- the count of numbers, and none where the bytes end within the header
unfoldable pub numbers_within : List ℕ → ℕ
numbers_within b = cond (leb 4 (length b)) (number_count b) 0

-- the count of value bytes, likewise
unfoldable pub bytes_within : List ℕ → ℕ
bytes_within b = cond (leb 4 (length b)) (byte_count b) 0

-- number i, and nil where the bytes end before it does
unfoldable pub number_within : List ℕ → ℕ → ℕ
number_within b i = cond (leb (8 + 4 * i) (length b)) (number_at 4 b (4 + 4 * i)) 0

-- ---- writing a page

-- a value page as s bytes; those past the value bytes are zero
unfoldable pub encode_value_page : ℕ → List ℕ → List ℕ → List ℕ
encode_value_page s numbers bytes =
    bytes_of 2 (length numbers)
    ++ (bytes_of 2 (length bytes) ++ (bytes_of_all 4 numbers ++ (bytes ++ replicate (s - (4 + 4 * length numbers + length bytes)) 0)))

-- page i of the `total` pages of a value: its part of the numbers after the cell's, and of the bytes
unfoldable pub value_page : ℕ → ℕ → List ℕ → List ℕ → ℕ → List ℕ
value_page s total value numbers i =
    let size = length value in
    encode_value_page s
    (take (numbers_on s total i) (drop (cell_numbers + numbers_before s total i) numbers))
    (take (bytes_on s total size i) (drop (bytes_before s total size i) value))

-- the same with so many bytes lent for it, in the order of the refusals
unfoldable pub chunk : ℕ → ℕ → List ℕ → List ℕ → ℕ → ℕ → Outcome (List ℕ)
chunk s total value numbers i bytes_lent =
    let size = length value in
    check (leb 1 size && leb size (max_size s)) 10 []
    (check (eqb (length numbers) total && ltb i total) 11 []
    (check (leb s bytes_lent) 9 []
    (answer (value_page s total value numbers i))))

-- write page i of the `total` pages of a value into a page buffer
unfoldable pub chunk_into : ℕ → ℕ → List ℕ → List ℕ → ℕ → List ℕ → Effect ℕ (List ℕ)
chunk_into s total value numbers i page = stored_in page (chunk s total value numbers i (length page))
