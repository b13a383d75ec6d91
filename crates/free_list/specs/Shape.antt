-- The shape of an accepted list of P pages and L entries, with c entries to a page.
use Rattle.std.specs.Prelude.{ℕ, ◌+◌, ◌*◌, ◌-◌, Bool, ◌&&◌, ◌||◌, cond, List, leb, eqb, length, get_or, take, drop}

-- no page and no entry; or some entries, on as few pages as hold them, or one more where they would fill these
unfoldable pub is_shape : ℕ → ℕ → ℕ → Bool
is_shape c P L = (eqb P 0 && eqb L 0) || (leb 1 L && (leb (c * (P - 1)) L && leb L (c * P)))

-- one more than needed, document 01's *fragmented*: the head holds one entry, and the page under it one less than it could
unfoldable pub is_fragmented : ℕ → ℕ → ℕ → Bool
is_fragmented c P L = leb 2 P && eqb L (c * (P - 1))

-- how many entries stand on the pages below page j, which is counted from the bottom: c on each; below the head of a fragmented list all
-- entries but one
unfoldable pub entries_below : ℕ → ℕ → ℕ → ℕ → ℕ
entries_below c P L j = cond (leb P j) L (cond (is_fragmented c P L && leb P (j + 1)) (L - 1) (c * j))

-- a list: its page numbers and its entries, both from the bottom page up
pub record FreeList : Type 0 where
  pub pages : List ℕ
  pub entries : List ℕ

-- the entries on page j of a list
unfoldable pub entries_on : ℕ → FreeList → ℕ → List ℕ
entries_on c l j =
    let below = entries_below c (length l.pages) (length l.entries) in
    take (below (j + 1) - below j) (drop (below j) l.entries)

-- the number of a list's head page, 0 if it has none
unfoldable pub head_of : FreeList → ℕ
head_of l = get_or l.pages (length l.pages - 1) 0

-- the number of the page under page j, 0 if there is none
abbrev pub previous : List ℕ → ℕ → ℕ
previous pages j = cond (eqb j 0) 0 (get_or pages (j - 1) 0)
