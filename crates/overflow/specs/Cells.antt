-- Cells: size (8 bytes), hash (32, carried and not computed), numbers. The limit of the size may depend on the page size s.
use Rattle.std.specs.Prelude.{ℕ, ◌+◌, ◌*◌, ◌-◌, ◌/◌, ◌%◌, ◌&&◌, List, [], ◌++◌, leb, eqb, length, take, drop, Result}
use Rattle.std.proofs.lemmas.List.Edits.{sets}
use Rattle.refusal.specs.Outcome.{Outcome, answer, check, with_answer}
use Rattle.refusal.specs.Effect.{Effect, leaves}
use Rattle.refusal.specs.Refusals.{outcome}
use Rattle.refusal.specs.declared.Refusal.{Refusal}
use Rattle.page.specs.Bytes.{number_at, bytes_of, numbers_at, bytes_of_all}
use Rattle.overflow.specs.Totals.{max_size}
use Rattle.refusal.specs.Stored.{stored_in}
use Rattle.overflow.specs.declared.cell.ValueCounts.{ValueCounts as CountsTold}

pub record Cell : Type 0 where
  pub size : ℕ
  pub hash : List ℕ
  pub numbers : List ℕ

abbrev pub cell_with : ℕ → List ℕ → List ℕ → Cell
cell_with size hash numbers = record { size = size; hash = hash; numbers = numbers }

-- the bytes of a hash, and those before the numbers
abbrev pub hash_size : ℕ
hash_size = 32

abbrev pub cell_header : ℕ
cell_header = 8 + hash_size

-- ---- out

-- a cell as bytes
unfoldable pub cell_bytes : Cell → List ℕ
cell_bytes c = bytes_of 8 c.size ++ (c.hash ++ bytes_of_all 4 c.numbers)

-- the same with so many bytes lent for it
unfoldable pub encode_cell : ℕ → Cell → ℕ → Outcome (List ℕ)
encode_cell s c bytes_lent =
    check (leb c.size (max_size s)) 10 []
    (check (leb (cell_header + 4 * length c.numbers) bytes_lent) 13 []
    (answer (cell_bytes c)))

-- write a cell into a buffer
unfoldable pub encode_cell_into : ℕ → Cell → List ℕ → Effect ℕ (List ℕ)
encode_cell_into s c buffer = stored_in buffer (encode_cell s c (length buffer))

-- ---- in

-- the size that a cell's bytes give, and how many numbers
unfoldable pub cell_size : List ℕ → ℕ
cell_size b = number_at 8 b 0

unfoldable pub cell_count : List ℕ → ℕ
cell_count b = (length b - cell_header) / 4

-- the cell that the bytes are
unfoldable pub cell_of : List ℕ → Cell
cell_of b = record { size = cell_size b; hash = take hash_size (drop 8 b); numbers = numbers_at 4 b cell_header (cell_count b) }

-- the same, with the size and the length tested
unfoldable pub decode_cell : ℕ → List ℕ → Outcome Cell
decode_cell s b =
    check (leb (cell_header + 4) (length b) && eqb (length b % 4) 0) 12 []
    (check (leb (cell_size b) (max_size s)) 10 []
    (answer (cell_of b)))

-- size and count of numbers
pub record CellCounts : Type 0 where
  pub size : ℕ
  pub numbers : ℕ

abbrev pub cell_counts_of : Cell → CellCounts
cell_counts_of c = record { size = c.size; numbers = length c.numbers }

unfoldable pub cell_counts : ℕ → List ℕ → Outcome CellCounts
cell_counts s b = with_answer (λ c. answer (cell_counts_of c)) (decode_cell s b)

-- read a cell alone: its hash stands where one was lent
unfoldable pub decode_cell_into : ℕ → List ℕ → List ℕ → Effect CellCounts (List ℕ)
decode_cell_into s b hash = leaves cell_counts_of (λ c. sets hash 0 c.hash) hash (decode_cell s b)

-- what the code answers, as an outcome
abbrev pub decoded_outcome : Result CountsTold Refusal → Outcome CellCounts
decoded_outcome = outcome (λ c. record { size = c.size; numbers = c.numbers })
