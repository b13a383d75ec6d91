-- The turns of a finish in numbers, as the code takes them: a whole page at the top is swapped, or a page is taken. Only this crate's
-- private functions cite these; `PlanLaws` says that they are the turns of `Plan`.
use Rattle.std.specs.Prelude.{ℕ, zero, suc, ◌+◌, ◌-◌, ◌*◌, ◌^◌, ◌≤◌, ◌<◌, ◌≡◌, List, [], ◌∷◌, ◌++◌, Bool, true, false, cond, ◌&&◌, length, get_or, leb, ltb, eqb}
use Rattle.free_list.specs.Shape.{FreeList}
use Rattle.page.specs.PageSize.{most_entries}
use Rattle.preallocate.specs.Plan.{Plan}
use Rattle.preallocate.specs.Counts.{Told, Makes}
use Rattle.preallocate.specs.declared.turns.Plan.{Plan as Counts}

abbrev pub room_of : ℕ → Counts → ℕ
room_of c p = c * (p.pages + p.fresh) - p.entries

-- a whole page has come to the top
abbrev pub whole_of : ℕ → Counts → Bool
whole_of c p = leb 1 p.pages && eqb p.entries (c * p.pages)

-- the top page has one entry
abbrev pub last_of : ℕ → Counts → Bool
last_of c p = eqb (p.entries - 1) (c * (p.pages - 1))

-- ---- the first number popped

-- n entries are left of those on p pages, and the list is not mended; `none` has what is pushed before. Its page is emptied, or it becomes
-- that page's number
abbrev pub first_popped : ℕ → FreeList → ℕ → ℕ → Counts → Counts
first_popped c l p n none =
    cond (eqb n (c * (p - 1)))
    (record { pages = p - 1; entries = n; pushed = none.pushed + 1; fresh = 1; bump = none.bump; top = get_or l.pages (p - 2) 0 })
    (record { pages = p; entries = n; pushed = none.pushed + 1; fresh = none.fresh; bump = none.bump; top = get_or l.entries n 0 })

abbrev pub first_names : ℕ → FreeList → ℕ → ℕ → List ℕ
first_names c l p n = cond (eqb n (c * (p - 1))) (get_or l.entries n 0 ∷ []) []

-- it can be popped
pub record FirstPoppable (c : ℕ) (l : FreeList) (p n : ℕ) (none : Counts) : Type 0 where
  pub some : 1 ≤ p
  pub pages_fit : p ≤ length l.pages
  pub entries_fit : n < length l.entries
  pub product : c * p < 2 ^ 64
  pub pushes : none.pushed + 1 < 2 ^ 64

-- ---- one turn

-- a whole page's number joins the push list, and its last entry becomes its number
abbrev pub top_swapped : FreeList → Counts → Counts
top_swapped l p =
    record { pages = p.pages; entries = p.entries - 1; pushed = p.pushed + 1; fresh = p.fresh; bump = p.bump; top = get_or l.entries (p.entries - 1) 0 }

-- the bump is a new page
abbrev pub bump_taken : Counts → Counts
bump_taken p = record { pages = p.pages; entries = p.entries; pushed = p.pushed; fresh = p.fresh + 1; bump = p.bump + 1; top = p.top }

-- the last entry is a new page
abbrev pub entry_taken : Counts → Counts
entry_taken p = record { pages = p.pages; entries = p.entries - 1; pushed = p.pushed; fresh = p.fresh + 1; bump = p.bump; top = p.top }

-- so is the page that it leaves empty
abbrev pub last_taken : FreeList → Counts → Counts
last_taken l p =
    record { pages = p.pages - 1; entries = p.entries - 1; pushed = p.pushed; fresh = p.fresh + 2; bump = p.bump; top = get_or l.pages (p.pages - 2) 0 }

-- a page is taken: what is counted after it, and the new pages
unfoldable pub taken : ℕ → FreeList → Counts → Counts
taken c l p = cond (leb 1 p.entries) (cond (last_of c p) (last_taken l p) (entry_taken p)) (bump_taken p)

unfoldable pub named : ℕ → FreeList → Counts → List ℕ
named c l p =
    let x = get_or l.entries (p.entries - 1) 0 in
    cond (leb 1 p.entries) (cond (last_of c p) (x ∷ p.top ∷ []) (x ∷ [])) (p.bump ∷ [])

-- one turn
unfoldable pub stepped : ℕ → FreeList → Counts → Counts
stepped c l p = cond (whole_of c p) (top_swapped l p) (taken c l p)

unfoldable pub step_names : ℕ → FreeList → Counts → List ℕ
step_names c l p = cond (whole_of c p) [] (named c l p)

-- ---- turns while the room is short of the push list, at most k

unfoldable pub planned : ℕ → FreeList → ℕ → Counts → Counts
planned c l zero p = p
planned c l (suc k) p = elim (ltb (room_of c p) p.pushed) [ true ↦ planned c l k (stepped c l p) | false ↦ p ]

unfoldable pub new_pages : ℕ → FreeList → ℕ → Counts → List ℕ
new_pages c l zero p = []
new_pages c l (suc k) p = elim (ltb (room_of c p) p.pushed) [ true ↦ step_names c l p ++ new_pages c l k (stepped c l p) | false ↦ [] ]

-- more turns than this are never taken: the entries left, and the room that is missing
abbrev pub work : ℕ → Counts → ℕ
work c p = p.entries + (p.pushed - room_of c p)

-- ---- what holds at every turn

-- the entries left fill the pages kept, but for the top page, which has at least one
pub record Packed (c : ℕ) (l : FreeList) (p : Counts) : Type 0 where
  pub capacity : 2 ≤ c
  pub kept : p.pages ≤ length l.pages
  pub within : p.entries ≤ length l.entries
  pub most : p.entries ≤ c * p.pages
  pub least : c * p.pages < p.entries + c

-- the sums have 64 bits; `bumps` says that the bump rises no further than the room is short
pub record Small (c : ℕ) (p : Counts) : Type 0 where
  pub capacity_fits : c ≤ most_entries
  pub lists : p.pushed + p.entries < 2 ^ 63
  pub rooms : c * (p.pages + p.fresh) < 2 ^ 63 + 2 ^ 20
  pub bumps : p.bump + p.pushed < 2 ^ 63 + room_of c p

-- the room is short of the push list
abbrev pub Short : ℕ → Counts → Type 0
Short c p = room_of c p < p.pushed

-- so a turn is due
pub record Due (c : ℕ) (l : FreeList) (p : Counts) : Type 0 where
  pub packed : Packed c l p
  pub small : Small c p
  pub short : Short c p

-- ---- what the code says of its turns

-- the first number is popped, and turns may follow
pub record Started (c : ℕ) (l : FreeList) (first : Plan) (before : List ℕ) (r : Counts) (after : List ℕ) : Type 0 where
  pub made : Makes first before r after
  pub packed : Packed c l r
  pub small : Small c r

-- a page is taken
abbrev pub Took : ℕ → FreeList → Counts → List ℕ → Counts → List ℕ → Type 0
Took c l p before r after = Told (taken c l p) p.fresh (named c l p) before r after

-- all turns are taken, at any bound on the turns that is enough
unfoldable pub Planned : ℕ → FreeList → Counts → List ℕ → Counts → List ℕ → Type 0
Planned c l p before r after = (k : ℕ) → work c p ≤ k → Told (planned c l k p) p.fresh (new_pages c l k p) before r after

-- some turns are taken, or none: what the turns from r on come to is what those from p on come to
pub record Along (c : ℕ) (l : FreeList) (p : Counts) (before : List ℕ) (r : Counts) (after : List ℕ) : Type 0 where
  pub packed : Packed c l r
  pub small : Small c r
  pub less : work c r ≤ work c p
  pub same : length after ≡ length before
  pub planned : (last : Counts) (out : List ℕ) → Planned c l r after last out → Planned c l p before last out

-- one turn is taken at the least
pub record Turned (c : ℕ) (l : FreeList) (p : Counts) (before : List ℕ) (r : Counts) (after : List ℕ) : Type 0 where
  pub falls : work c r < work c p
  pub along : Along c l p before r after
