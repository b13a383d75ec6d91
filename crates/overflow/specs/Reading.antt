-- Reading and deleting a value: a walk over its pages, whose numbers are queued from the cell and then from each page. How many pages it has is
-- decided on the way.
use Rattle.std.specs.Prelude.{ℕ, zero, suc, ◌+◌, ◌*◌, Bool, true, false, ◌&&◌, cond, List, [], ◌∷◌, ◌++◌, leb, ltb, eqb, length, get_or, take, Result}
use Rattle.std.proofs.lemmas.List.Edits.{sets}
use Rattle.refusal.specs.Outcome.{Outcome, answer, refused, check, with_answer}
use Rattle.refusal.specs.Effect.{LentMut, Effect, effect, leaves}
use Rattle.refusal.specs.Refusals.{outcome}
use Rattle.refusal.specs.declared.Refusal.{Refusal}
use Rattle.page.specs.Pages.{page_count, page_at}
use Rattle.overflow.specs.Totals.{body, old_total, new_total}
use Rattle.overflow.specs.ValuePages.{number_count, byte_count, value_numbers, value_bytes}
use Rattle.overflow.specs.Cells.{Cell, decode_cell}
use Rattle.overflow.specs.declared.cell.ValueCounts.{ValueCounts as CountsTold}

-- ---- the walk

-- where the bytes of a page come from: of page i of a walk, which has number p, its bytes or a refusal
abbrev pub Source : Type 0
Source = ℕ → ℕ → Outcome (List ℕ)

-- from a store, which has the page or not
unfoldable pub in_store : ℕ → List ℕ → Source
in_store s store i p = check (ltb p (page_count s store)) 15 (i ∷ []) (answer (page_at s store p))

-- the bytes of such a page, whose numbers and value bytes fit its body, and which has at least one of them
unfoldable pub parse_page : ℕ → Source → Source
parse_page s source i p =
    with_answer
    (λ b.
    check (leb (4 * number_count b + byte_count b) (body s)) 16 (i ∷ [])
    (check (leb 1 (number_count b + byte_count b)) 25 (i ∷ [])
    (answer b)))
    (source i p)

-- the numbers and the value bytes found so far
pub record Found : Type 0 where
  pub numbers : List ℕ
  pub bytes : List ℕ

-- with those of one page more
abbrev pub with_page : Found → List ℕ → Found
with_page f b = record { numbers = f.numbers ++ value_numbers b; bytes = f.bytes ++ value_bytes b }

-- those of a cell
abbrev pub in_cell : Cell → Found
in_cell c = record { numbers = c.numbers; bytes = [] }

-- how a walk comes out: it has ended, before the page of some index, or stopped with a refusal; and what it has found
pub data Walked : Type 0 where
  ended : ℕ → Found → Walked
  stopped : Found → ℕ → List ℕ → Walked

abbrev pub found_by : Walked → Found
found_by (ended i f) = f
found_by (stopped f number values) = f

-- go on with the page's bytes, or stop
abbrev pub onward : Found → (List ℕ → Walked) → Outcome (List ℕ) → Walked
onward f next (answer b) = next b
onward f next (refused number values) = stopped f number values

-- walk `left` more pages, from page i on; or only to the first page that has value bytes
unfoldable pub walk : ℕ → Source → Bool → ℕ → ℕ → Found → Walked
walk s source to_bytes zero i f = ended i f
walk s source to_bytes (suc left) i f =
    onward f
    (λ (b : List ℕ). cond (to_bytes && leb 1 (byte_count b)) (ended (suc i) (with_page f b)) (walk s source to_bytes left (suc i) (with_page f b)))
    (check (ltb i (length f.numbers)) 14 (i ∷ []) (parse_page s source i (get_or f.numbers i 0)))

-- the number table after it: the first `total` numbers found, its other places as before
abbrev pub table_after : ℕ → List ℕ → Walked → List ℕ
table_after total table w = sets table 0 (take total (found_by w).numbers)

-- ---- how many pages a value has

-- the walk that decides it: to the first page that has value bytes, over as many pages as the old total at most
abbrev pub first_walk : ℕ → Source → Cell → Walked
first_walk s source c = walk s source true (old_total s c.size) 0 (in_cell c)

-- the new total, where a page with value bytes has been taken and as many numbers were found until then; else the old one
unfoldable pub value_total : ℕ → ℕ → Walked → ℕ
value_total s size (ended i f) = cond (leb 1 (length f.bytes) && eqb (length f.numbers) (new_total s size)) (new_total s size) (old_total s size)
value_total s size (stopped f number values) = old_total s size

-- ---- admission

-- the cell, where a value can have its size and there is room for the walk
unfoldable pub admitted : ℕ → (Cell → Bool) → List ℕ → Outcome Cell
admitted s room b = with_answer (λ c. check (leb 1 c.size) 10 [] (check (room c) 13 [] (answer c))) (decode_cell s b)

-- room for the numbers of a cell's value, as many as it may have, and for its bytes
abbrev pub numbers_room : ℕ → ℕ → Cell → Bool
numbers_room s numbers c = leb (old_total s c.size) numbers

abbrev pub bytes_room : ℕ → Cell → Bool
bytes_room bytes c = leb c.size bytes

-- ---- reading

-- what was found is the value, if there are as many numbers and bytes as there should be
abbrev pub whole_value : ℕ → ℕ → Walked → Outcome Found
whole_value total size (ended i f) = check (eqb (length f.numbers) total) 17 [] (check (eqb (length f.bytes) size) 18 [] (answer f))
whole_value total size (stopped f number values) = refused number values

-- how many bytes the value has, and how many numbers were found
pub record ValueCounts : Type 0 where
  pub size : ℕ
  pub numbers : ℕ

abbrev pub value_counts_of : Found → ValueCounts
value_counts_of f = record { size = length f.bytes; numbers = length f.numbers }

-- what is lent for it: a number table and a value buffer
pub record ReadLent : Type 0 where
  pub numbers : List ℕ
  pub value : List ℕ

abbrev pub read_lent : (LentMut → List ℕ) → LentMut → LentMut → ReadLent
read_lent at numbers value = record { numbers = at numbers; value = at value }

-- with the table after the walk, the value stands at the start of its buffer; a refusal leaves the buffer as it was
abbrev pub value_stored : List ℕ → List ℕ → Outcome Found → Effect ValueCounts ReadLent
value_stored table value = leaves value_counts_of (λ f. record { numbers = table; value = sets value 0 f.bytes }) (record { numbers = table; value = value })

-- the value of a cell that has so many pages
abbrev pub read_pages : ℕ → List ℕ → ReadLent → Cell → ℕ → Effect ValueCounts ReadLent
read_pages s store lent c total =
    let w = walk s (in_store s store) false total 0 (in_cell c) in
    value_stored (table_after total lent.numbers w) lent.value (whole_value total c.size w)

abbrev pub read_cell : ℕ → List ℕ → ReadLent → Outcome Cell → Effect ValueCounts ReadLent
read_cell s store lent (answer c) = read_pages s store lent c (value_total s c.size (first_walk s (in_store s store) c))
read_cell s store lent (refused number values) = effect (refused number values) lent

-- read the value of a cell into a number table and a value buffer
unfoldable pub read_value_into : ℕ → List ℕ → List ℕ → ReadLent → Effect ValueCounts ReadLent
read_value_into s cell store lent =
    read_cell s store lent (admitted s (λ c. numbers_room s (length lent.numbers) c && bytes_room (length lent.value) c) cell)

-- what the code answers, as an outcome
abbrev pub read_outcome : Result CountsTold Refusal → Outcome ValueCounts
read_outcome = outcome (λ v. record { size = v.size; numbers = v.numbers })

-- ---- deleting

-- the numbers found, if there are as many as there should be
abbrev pub all_numbers : ℕ → Walked → Outcome ℕ
all_numbers total (ended i f) = check (eqb (length f.numbers) total) 17 [] (answer (length f.numbers))
all_numbers total (stopped f number values) = refused number values

-- after the walk to the first page that has value bytes
abbrev pub delete_pages : List ℕ → Walked → ℕ → Effect ℕ (List ℕ)
delete_pages table w total = effect (all_numbers total w) (table_after total table w)

abbrev pub delete_cell : ℕ → List ℕ → List ℕ → Outcome Cell → Effect ℕ (List ℕ)
delete_cell s store table (answer c) = let w = first_walk s (in_store s store) c in delete_pages table w (value_total s c.size w)
delete_cell s store table (refused number values) = effect (refused number values) table

-- collect the numbers of a cell's value in a number table
unfoldable pub delete_into : ℕ → List ℕ → List ℕ → List ℕ → Effect ℕ (List ℕ)
delete_into s cell store table = delete_cell s store table (admitted s (numbers_room s (length table)) cell)

abbrev pub deleted_outcome : Result ℕ Refusal → Outcome ℕ
deleted_outcome = outcome (λ n. n)
