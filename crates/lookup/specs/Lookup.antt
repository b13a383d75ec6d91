-- Page lookup: a number is sought among the pending pages of a save, then in the store.
--
-- The pending pages lie one after another: the page of the number at place i is the s bytes from s * i.
use Rattle.std.specs.Prelude.{ℕ, suc, ◌*◌, ◌||◌, cond, List, [], ◌∷◌, leb, ltb, eqb, length, take, drop, Result}
use Rattle.refusal.specs.Outcome.{Outcome, answer, refused, check}
use Rattle.refusal.specs.Refusals.{outcome}
use Rattle.refusal.specs.declared.Refusal.{Refusal}
use Rattle.page.specs.Pages.{page_count}
use Rattle.lookup.specs.declared.find.Place.{Place as PlaceTold}
use Rattle.lookup.specs.declared.find.Place.TheVariants.{Pending, Store}

-- the place of the first number that is the page, or the list's length
unfoldable pub first_of : ℕ → List ℕ → ℕ
first_of page [] = 0
first_of page (n ∷ ns) = cond (eqb n page) 0 (suc (first_of page ns))

-- where a page lies: in the pending pages or in the store, from this byte on
pub data Place : Type 0 where
  pending_at : ℕ → Place
  store_at : ℕ → Place

-- where the page lies: at its first place among the pending pages; if it is none of them, in the store. Refusal 9: fewer pending bytes
-- than a page for each number. Refusal 15: the page is neither pending nor in the store
unfoldable pub find : ℕ → List ℕ → List ℕ → List ℕ → ℕ → Outcome Place
find s numbers pending store page =
    let i = first_of page numbers in
    let is_pending = ltb i (length numbers) in
    let is_stored = ltb page (page_count s store) in
    check (leb (s * length numbers) (length pending)) 9 []
    (check (is_pending || is_stored) 15 (page ∷ [])
    (answer (cond is_pending (pending_at (s * i)) (store_at (s * page)))))

-- the s bytes of the place; after a refusal none
abbrev pub bytes_at : ℕ → List ℕ → List ℕ → Outcome Place → List ℕ
bytes_at s pending store (answer (pending_at at)) = take s (drop at pending)
bytes_at s pending store (answer (store_at at)) = take s (drop at store)
bytes_at s pending store (refused number values) = []

-- the bytes of the page
unfoldable pub lookup : ℕ → List ℕ → List ℕ → List ℕ → ℕ → List ℕ
lookup s numbers pending store page = bytes_at s pending store (find s numbers pending store page)

-- what the code answers, as an outcome
abbrev pub place_told : PlaceTold → Place
place_told (Pending at) = pending_at at
place_told (Store at) = store_at at

abbrev pub find_outcome : Result PlaceTold Refusal → Outcome Place
find_outcome = outcome place_told
