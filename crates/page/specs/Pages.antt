-- A store: its bytes, in pages of s bytes each.
use Rattle.std.specs.Prelude.{ℕ, ◌+◌, ◌*◌, ◌-◌, ◌/◌, ◌^◌, min, List, [], ◌∷◌, ◌++◌, length, take, drop, replicate}

-- a store as the code has it: the size of its pages, and its bytes
pub record Stored : Type 0 where
  pub page_size : ℕ
  pub bytes : List ℕ

-- the whole pages of a store, at most 2^32 - 1
unfoldable pub page_count : ℕ → List ℕ → ℕ
page_count s store = min (length store / s) (2 ^ 32 - 1)

-- the bytes of page p
unfoldable pub page_at : ℕ → List ℕ → ℕ → List ℕ
page_at s store p = take s (drop (s * p) store)

-- a page to write, and its number
pub record Write : Type 0 where
  pub number : ℕ
  pub bytes : List ℕ

-- the store after one page is written whole; a store that ends before the page is filled up to it with zeros
unfoldable pub write_page : ℕ → List ℕ → Write → List ℕ
write_page s store w = take (s * w.number) (store ++ replicate (s * w.number) 0) ++ (w.bytes ++ drop (s * w.number + s) store)

-- the store after some pages are written, one after another
unfoldable pub write_pages : ℕ → List ℕ → List Write → List ℕ
write_pages s store [] = store
write_pages s store (w ∷ ws) = write_pages s (write_page s store w) ws
