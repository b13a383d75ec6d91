-- Limits and totals at the small panel's page size, a row for each: what the definitions that the operations' contracts cite come to there.
use Rattle.std.specs.Prelude.{ℕ, ◌+◌, ◌-◌, ◌^◌, ◌≡◌, true, false, List, [], ◌∷◌, ◌++◌, replicate}
use Rattle.refusal.specs.Outcome.{Outcome, answer, refused}
use Rattle.refusal.specs.Effect.{Effect, effect}
use Rattle.page.specs.PageSize.{panel_page_size, standard_page_size, capacity}
use Rattle.page.specs.Pages.{page_count}
use Rattle.free_list.specs.Reading.{count_fits}
use Rattle.overflow.specs.Totals.{body, max_size, page_total}
use Rattle.overflow.specs.Layout.{numbers_per_page}
use Rattle.overflow.specs.Cells.{Cell, CellCounts, cell_with, hash_size, cell_bytes, encode_cell_into, decode_cell_into}
use Rattle.overflow.specs.Reading.{parse_page}
use Rattle.samples.specs.Samples.{old, pages}

-- a value page with these four bytes at its front, and zeros behind them
abbrev pub value_page : List ℕ → List ℕ
value_page counts = counts ++ replicate (body panel_page_size) 0

-- it is parsed as page 5 of a walk
abbrev pub parsed : List ℕ → Outcome (List ℕ)
parsed counts = parse_page panel_page_size (λ i p. answer (value_page counts)) 5 0

-- a cell of a value of so many bytes that has one number
abbrev pub cell : ℕ → Cell
cell size = cell_with size (replicate hash_size 7) (3 ∷ [])

abbrev pub written : ℕ → Effect ℕ (List ℕ)
written size = encode_cell_into panel_page_size (cell size) (replicate 45 old)

abbrev pub read : ℕ → Effect CellCounts (List ℕ)
read size = decode_cell_into panel_page_size (cell_bytes (cell size)) (replicate hash_size old)

pub record PanelSamples : Type 0 where
  pub body_of_a_page : body panel_page_size ≡ 1020
  pub entries_on_a_page : capacity panel_page_size ≡ 254
  pub numbers_on_a_page : numbers_per_page panel_page_size ≡ 255
  pub entries_254 : count_fits false (capacity panel_page_size) 0 0 254 ≡ true
  pub entries_255 : count_fits false (capacity panel_page_size) 0 0 255 ≡ false
  pub entries_253_under_one : count_fits false (capacity panel_page_size) 1 1 253 ≡ true
  pub entries_252_under_one : count_fits false (capacity panel_page_size) 1 1 252 ≡ false
  pub entries_253_under_two : count_fits false (capacity panel_page_size) 1 2 253 ≡ false
  pub pages_of_2047_bytes : page_count panel_page_size (replicate 2047 0) ≡ 1
  pub pages_of_2048_bytes : page_count panel_page_size (replicate 2048 0) ≡ 2
  pub numbers_255 : parsed (255 ∷ 0 ∷ 0 ∷ 0 ∷ []) ≡ answer (value_page (255 ∷ 0 ∷ 0 ∷ 0 ∷ []))
  pub numbers_256 : parsed (0 ∷ 1 ∷ 0 ∷ 0 ∷ []) ≡ refused 16 (5 ∷ [])
  pub bytes_1020 : parsed (0 ∷ 0 ∷ 252 ∷ 3 ∷ []) ≡ answer (value_page (0 ∷ 0 ∷ 252 ∷ 3 ∷ []))
  pub bytes_1021 : parsed (0 ∷ 0 ∷ 253 ∷ 3 ∷ []) ≡ refused 16 (5 ∷ [])
  pub largest : max_size panel_page_size ≡ 2 ^ 20
  pub largest_a_word_less : max_size (panel_page_size - 4) ≡ 2 ^ 29
  pub largest_a_word_more : max_size (panel_page_size + 4) ≡ 2 ^ 29
  pub largest_standard : max_size standard_page_size ≡ 2 ^ 29
  pub total_0 : page_total panel_page_size 0 ≡ refused 10 []
  pub total_1 : page_total panel_page_size 1 ≡ pages 1 1 1019 1
  pub total_15300 : page_total panel_page_size 15300 ≡ pages 15 15 0 15
  pub total_15301 : page_total panel_page_size 15301 ≡ pages 16 15 1015 16
  pub total_16316 : page_total panel_page_size 16316 ≡ pages 16 15 0 16
  pub total_16317 : page_total panel_page_size 16317 ≡ pages 17 15 1015 17
  pub total_274378 : page_total panel_page_size 274378 ≡ pages 270 15 2 270
  pub total_274379 : page_total panel_page_size 274379 ≡ pages 270 15 1 271
  pub total_274380 : page_total panel_page_size 274380 ≡ pages 270 15 0 271
  pub total_274381 : page_total panel_page_size 274381 ≡ pages 271 15 1015 271
  pub total_largest : page_total panel_page_size (2 ^ 20) ≡ pages 1033 15 1012 1033
  pub total_too_large : page_total panel_page_size (2 ^ 20 + 1) ≡ refused 10 []
  pub cell_written : written (2 ^ 20) ≡ effect (answer 44) (cell_bytes (cell (2 ^ 20)) ++ (old ∷ []))
  pub cell_not_written : written (2 ^ 20 + 1) ≡ effect (refused 10 []) (replicate 45 old)
  pub cell_read : read (2 ^ 20) ≡ effect (answer (record { size = 2 ^ 20; numbers = 1 })) (replicate hash_size 7)
  pub cell_not_read : read (2 ^ 20 + 1) ≡ effect (refused 10 []) (replicate hash_size old)
