-- The reader's work in parts: the walk that only reads, and the filling of the tables. Only private functions cite these.
use Rattle.std.specs.Prelude.{ℕ, zero, suc, ◌+◌, ◌*◌, ◌^◌, ◌≤◌, ◌<◌, ◌≡◌, Bool, true, List, [], ◌∷◌, ◌++◌, length, Option, Some, None, Result, Ok, Err}
use Rattle.refusal.specs.Outcome.{Outcome, answer, with_answer}
use Rattle.refusal.specs.Refusals.{refusal}
use Rattle.refusal.specs.declared.Refusal.{Refusal}
use Rattle.page.specs.PageSize.{IsPageSize, capacity, most_entries}
use Rattle.page.specs.Pages.{page_count, page_at}
use Rattle.bit_map.specs.BitMap.{has_bits}
use Rattle.free_list.specs.ListPages.{prev_of, count_of, entries_of}
use Rattle.free_list.specs.Shape.{FreeList}
use Rattle.free_list.specs.Reading.{empty_list, on_top, count_fits, all_entries_fit, read_from, list_from, ListSize, size_of}
use Rattle.free_list.specs.declared.walk.ListCounts.{ListCounts}
use Rattle.free_list.specs.declared.walk.Walk.{Walk}
use Rattle.free_list.specs.declared.walk.Descent.{Descent}
use Rattle.free_list.specs.declared.walk.Descent.TheVariants.{Ended, More}

-- a walk that has just begun, which may visit so many pages
abbrev pub walk_from : ℕ → ℕ → Walk
walk_from allowed head = record { page = head; allowed = allowed; pages = 0; entries = 0 }

-- what keeps the counts of a walk from wrapping: no more pages than a store has, and no more entries than they hold
pub record WalkFits (w : Walk) : Type 0 where
  pub few : w.pages + w.allowed < 2 ^ 32
  pub few_entries : w.entries ≤ most_entries * w.pages

module _ (s : ℕ) (store : List ℕ) (loose : Bool) where
  -- ---- the size of a list, as a walk finds it

  -- of the list with this head page
  unfoldable pub read_size : ℕ → Outcome ListSize
  read_size head = with_answer (λ l. answer (size_of l)) (list_from s store loose head)

  -- of the whole list, where a walk has come so far: what it has passed, and what reading finds from here
  unfoldable pub size_from : Walk → Outcome ListSize
  size_from w =
      with_answer (λ l. answer (record { P = w.pages + length l.pages; L = w.entries + length l.entries }))
      (read_from s store loose w.allowed w.pages w.entries w.page)

  -- what the answer of a visit says of it
  abbrev pub visited_size : Result Walk Refusal → Outcome ListSize
  visited_size (Ok w) = size_from w
  visited_size (Err r) = refusal r

  -- ---- a walk that goes round

  -- a page that is passed wherever it stands below the second page of a list
  pub record Passable (p : ℕ) : Type 0 where
    pub some : 1 ≤ p
    pub inside : p < page_count s store
    pub fits : count_fits loose (capacity s) 2 0 (count_of (page_at s store p)) ≡ true
    pub entries_fit : all_entries_fit (page_count s store) (entries_of (page_at s store p)) ≡ true

  -- from page p a walk comes to page q by n such pages
  abbrev pub Trail : ℕ → ℕ → ℕ → Type 0
  Trail zero p q = p ≡ q
  Trail (suc n) p q = Passable p × Trail n (prev_of (page_at s store p)) q

  -- the walk has come from its mark, if it has one, by such pages
  abbrev pub Marked : Option ℕ → Walk → Type 0
  Marked None w = Unit {0}
  Marked (Some mark) w = (n : ℕ) × (2 ≤ w.pages) × Trail n mark w.page

  -- ---- the contract of a visit

  -- a visit passes a page and uses up one of the pages allowed
  pub record Passed (w n : Walk) : Type 0 where
    pub fewer : n.allowed + 1 ≡ w.allowed
    pub fits : WalkFits n
    pub more : n.pages ≡ w.pages + 1
    pub before : n.page ≡ prev_of (page_at s store w.page)
    pub passable : 2 ≤ w.pages → Passable w.page

  abbrev pub Advanced : Walk → Result Walk Refusal → Type 0
  Advanced w (Ok n) = Passed w n
  Advanced w (Err r) = Unit {0}

  pub record Visits (w : Walk) (r : Result Walk Refusal) : Type 0 where
    pub size : visited_size r ≡ size_from w
    pub advanced : Advanced w r

  -- ---- the contract of a walk

  -- what the answer of a walk says of it
  abbrev pub walked_size : Result Descent Refusal → Outcome ListSize
  walked_size (Ok (Ended l)) = answer (record { P = l.pages; L = l.entries })
  walked_size (Ok (More w)) = size_from w
  walked_size (Err r) = refusal r

  -- what a walk asks
  pub record MayWalk (most : ℕ) (mark : Option ℕ) (w : Walk) : Type 0 where
    pub size : IsPageSize s
    pub capped : most ≡ capacity s
    pub fits : WalkFits w
    pub marked : Marked mark w

  -- a walk that goes on has used up as many pages as it may nest
  abbrev pub Onward : Option ℕ → ℕ → Walk → Result Descent Refusal → Type 0
  Onward mark nested w (Ok (Ended l)) = Unit {0}
  Onward mark nested w (Ok (More n)) = (n.allowed + nested ≡ w.allowed) × WalkFits n × Marked mark n
  Onward mark nested w (Err r) = Unit {0}

  pub record Walks (mark : Option ℕ) (nested : ℕ) (w : Walk) (r : Result Descent Refusal) : Type 0 where
    pub size : walked_size r ≡ size_from w
    pub onward : Onward mark nested w r

-- what a visit asks: a page to visit, and the most entries of a page
pub record MayVisit (s most : ℕ) (w : Walk) : Type 0 where
  pub size : IsPageSize s
  pub capped : most ≡ capacity s
  pub some : 1 ≤ w.page
  pub fits : WalkFits w

-- ---- filling the tables

-- the list of k pages from page p down, whatever they hold
unfoldable pub chain_from : ℕ → List ℕ → ℕ → ℕ → FreeList
chain_from s store zero p = empty_list
chain_from s store (suc k) p = on_top p (entries_of (page_at s store p)) (chain_from s store k (prev_of (page_at s store p)))

-- its pages lie in the store, and no count is above what a page holds
abbrev pub Readable : ℕ → List ℕ → ℕ → ℕ → Type 0
Readable s store zero p = Unit {0}
Readable s store (suc k) p = (p < page_count s store) × (count_of (page_at s store p) ≤ capacity s) × Readable s store k (prev_of (page_at s store p))

-- the numbers of these pages, as a walk down comes to them: each page's own number, and its entries
unfoldable pub chain_numbers : ℕ → List ℕ → ℕ → ℕ → List ℕ
chain_numbers s store zero p = []
chain_numbers s store (suc k) p = (p ∷ entries_of (page_at s store p)) ++ chain_numbers s store k (prev_of (page_at s store p))

-- what the judging of its numbers asks: such pages, with as many entries as are counted, and a map with a bit for each page of the store
pub record Judgeable (s : ℕ) (store : List ℕ) (head : ℕ) (list : ListCounts) (map : ℕ) : Type 0 where
  pub size : IsPageSize s
  pub readable : Readable s store list.pages head
  pub room : has_bits (page_count s store) map ≡ true

-- what the filling asks: such a list, with as many entries as are counted, and room for it
pub record Fillable (s : ℕ) (store : List ℕ) (head : ℕ) (list : ListCounts) (pages entries : ℕ) : Type 0 where
  pub size : IsPageSize s
  pub readable : Readable s store list.pages head
  pub count : length (chain_from s store list.pages head).entries ≡ list.entries
  pub pages_fit : list.pages ≤ pages
  pub entries_fit : list.entries ≤ entries
