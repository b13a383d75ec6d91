-- Columns before storage, and back: the three rows of docs/FORMAT.md, no row, and the refusals; a field for each case.
use Rattle.std.specs.Prelude.{ℕ, ◌≡◌, List, [], ◌∷◌, ◌++◌, take, replicate}
use Rattle.refusal.specs.Outcome.{answer, refused}
use Rattle.refusal.specs.Effect.{effect}
use Rattle.columns.specs.Columns.{columns_of, rows_of, rearrange_into}
use Rattle.samples.specs.Samples.{old}

abbrev pub three_rows : List ℕ
three_rows =
    0xD0 ∷ 0x07 ∷ 0xDC ∷ 0x05 ∷ 0x2C ∷ 0x01 ∷ 0x3C ∷ 0x00
    ∷ 0xDA ∷ 0x07 ∷ 0xD2 ∷ 0x05 ∷ 0x2C ∷ 0x01 ∷ 0x3D ∷ 0x00
    ∷ 0xD5 ∷ 0x07 ∷ 0xD7 ∷ 0x05 ∷ 0x36 ∷ 0x01 ∷ 0x3C ∷ 0x00 ∷ []

abbrev pub their_columns : List ℕ
their_columns =
    0xD0 ∷ 0x07 ∷ 0x0A ∷ 0x00 ∷ 0xFB ∷ 0xFF
    ∷ 0xDC ∷ 0x05 ∷ 0xF6 ∷ 0xFF ∷ 0x05 ∷ 0x00
    ∷ 0x2C ∷ 0x01 ∷ 0x00 ∷ 0x00 ∷ 0x0A ∷ 0x00
    ∷ 0x3C ∷ 0x00 ∷ 0x01 ∷ 0x00 ∷ 0xFF ∷ 0xFF ∷ []

-- a second buffer of so many bytes
abbrev pub buffer : ℕ → List ℕ
buffer n = replicate n old

pub record RecordingSamples : Type 0 where
  pub columns_made : rearrange_into columns_of three_rows (buffer 26) ≡ effect (answer 24) (their_columns ++ buffer 2)
  pub rows_made : rearrange_into rows_of their_columns (buffer 26) ≡ effect (answer 24) (three_rows ++ buffer 2)
  pub columns_fit : rearrange_into columns_of three_rows (buffer 24) ≡ effect (answer 24) their_columns
  pub rows_fit : rearrange_into rows_of their_columns (buffer 24) ≡ effect (answer 24) three_rows
  pub no_columns_made : rearrange_into columns_of [] (buffer 1) ≡ effect (answer 0) (buffer 1)
  pub no_rows_made : rearrange_into rows_of [] (buffer 1) ≡ effect (answer 0) (buffer 1)
  pub half_a_row : rearrange_into columns_of (take 4 three_rows) (buffer 26) ≡ effect (refused 26 []) (buffer 26)
  pub half_a_row_of_columns : rearrange_into rows_of (take 4 their_columns) (buffer 26) ≡ effect (refused 26 []) (buffer 26)
  pub row_and_a_half : rearrange_into columns_of (take 12 three_rows) (buffer 26) ≡ effect (refused 26 []) (buffer 26)
  pub row_and_a_half_of_columns : rearrange_into rows_of (take 12 their_columns) (buffer 26) ≡ effect (refused 26 []) (buffer 26)
  pub part_of_a_row : rearrange_into columns_of (take 23 three_rows) (buffer 22) ≡ effect (refused 26 []) (buffer 22)
  pub part_of_columns : rearrange_into rows_of (take 23 their_columns) (buffer 22) ≡ effect (refused 26 []) (buffer 22)
  pub columns_too_long : rearrange_into columns_of three_rows (buffer 23) ≡ effect (refused 27 []) (buffer 23)
  pub rows_too_long : rearrange_into rows_of their_columns (buffer 23) ≡ effect (refused 27 []) (buffer 23)
