-- List pages: bytes 0-3 the previous list page, 4-5 the count, then the entries, four bytes each.
use Rattle.std.specs.Prelude.{ℕ, ◌+◌, ◌*◌, ◌-◌, ◌^◌, min, cond, List, ◌++◌, leb, length, take, replicate}
use Rattle.page.specs.PageSize.{capacity}
use Rattle.page.specs.Bytes.{number_at, bytes_of, numbers_at, bytes_of_all}

-- the number of the previous list page
unfoldable pub prev_of : List ℕ → ℕ
prev_of b = number_at 4 b 0

-- the count of entries
unfoldable pub count_of : List ℕ → ℕ
count_of b = number_at 2 b 4

-- the entries
unfoldable pub entries_of : List ℕ → List ℕ
entries_of b = numbers_at 4 b 6 (count_of b)

-- a list page as s bytes; those past the last entry are zero
unfoldable pub encode_list_page : ℕ → ℕ → List ℕ → List ℕ
encode_list_page s prev entries =
    bytes_of 4 prev ++ (bytes_of 2 (length entries) ++ (bytes_of_all 4 entries ++ replicate (s - (6 + 4 * length entries)) 0))

-- ---- what bytes of any length say

-- the number of the previous list page, and nil where the bytes end within the header
unfoldable pub prev_within : List ℕ → ℕ
prev_within b = cond (leb 6 (length b)) (prev_of b) 0

-- the count of entries, and none where the bytes end within the header
unfoldable pub count_within : List ℕ → ℕ
count_within b = cond (leb 6 (length b)) (count_of b) 0

-- entry i, and nil where the bytes end before it does
unfoldable pub entry_within : List ℕ → ℕ → ℕ
entry_within b i = cond (leb (10 + 4 * i) (length b)) (number_at 4 b (6 + 4 * i)) 0

-- ---- and what is made of them

-- how many entries n bytes have places for, where their count has 16 bits
unfoldable pub places : ℕ → ℕ
places n = min (capacity n) (2 ^ 16 - 1)

-- a list page of all these bytes, with as many of the entries as it has places for; bytes that end within the header stay
unfoldable pub page_within : ℕ → List ℕ → List ℕ → List ℕ
page_within prev entries b = cond (leb 6 (length b)) (encode_list_page (length b) prev (take (places (length b)) entries)) b
