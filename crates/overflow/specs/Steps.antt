-- The parts of the walk, of reading and of deleting, which only the functions below the operations cite.
use Rattle.std.specs.Prelude.{ℕ, zero, suc, ◌+◌, ◌*◌, ◌-◌, ◌^◌, ◌<◌, ◌≤◌, ◌≡◌, Bool, true, false, ◌&&◌, cond, List, [], ◌∷◌, ◌++◌, leb, ltb, eqb, length, get_or, take, Result}
use Rattle.std.proofs.lemmas.List.Edits.{sets}
use Rattle.refusal.specs.Outcome.{Outcome, answer, refused, check, with_answer}
use Rattle.refusal.specs.Effect.{Effect, effect, leaves}
use Rattle.refusal.specs.Refusals.{outcome}
use Rattle.refusal.specs.declared.Refusal.{Refusal}
use Rattle.page.specs.Pages.{page_count, page_at}
use Rattle.overflow.specs.Totals.{cell_numbers, body, old_total, new_total}
use Rattle.overflow.specs.ValuePages.{value_numbers, value_bytes, numbers_within, bytes_within}
use Rattle.overflow.specs.Cells.{Cell, cell_of}
use Rattle.overflow.specs.Reading.{Source, in_store, parse_page, in_cell, Walked, ended, stopped, walk, table_after, admitted, numbers_room, bytes_room}
use Rattle.overflow.specs.declared.page_ref.ValuePageRef.{ValuePageRef}
use Rattle.overflow.specs.declared.admit.Needs.{Needs}
use Rattle.overflow.specs.declared.total.Totals.{Totals}
use Rattle.overflow.specs.declared.total.TotalRule.{TotalRule}
use Rattle.overflow.specs.declared.total.TotalRule.TheVariants.{New, Old}
use Rattle.overflow.specs.declared.walk.WalkCounts.{WalkCounts}
use Rattle.overflow.specs.declared.walk.Until.{Until}
use Rattle.overflow.specs.declared.walk.Until.TheVariants.{FirstBytes, End}

-- ---- admission

-- what a cell's value needs, where it is admitted with room for so many numbers and bytes
abbrev pub needs_of : ℕ → Cell → Needs
needs_of s c = record { size = c.size; totals = record { new = new_total s c.size; old = old_total s c.size } }

unfoldable pub admitted_needs : ℕ → ℕ → ℕ → List ℕ → Outcome Needs
admitted_needs s numbers bytes b = with_answer (λ c. answer (needs_of s c)) (admitted s (λ c. numbers_room s numbers c && bytes_room bytes c) b)

abbrev pub admitted_outcome : Result Needs Refusal → Outcome Needs
admitted_outcome = outcome (λ n. n)

-- the two totals of a size
pub record IsTotals (s size : ℕ) (totals : Totals) : Type 0 where
  pub new : totals.new ≡ new_total s size
  pub old : totals.old ≡ old_total s size

-- the one that a rule takes
abbrev pub total_of_rule : TotalRule → Totals → ℕ
total_of_rule New totals = totals.new
total_of_rule Old totals = totals.old

-- the bodies of so many pages hold a value and its numbers, and are far from the limit of their type
pub record Room (s size total : ℕ) : Type 0 where
  pub enough : size + 4 * (total - cell_numbers) ≤ body s * total
  pub small : body s * total < 2 ^ 32

-- ---- one page of the walk

-- a page as the code has it holds the list of its bytes
abbrev pub page_outcome : Result ValuePageRef Refusal → Outcome (List ℕ)
page_outcome = outcome (λ p. p.0.now)

-- page i of a walk that knows so many numbers, the first `total` of them by its table: its bytes, with its numbers put behind the known
unfoldable pub visit_into : ℕ → Source → ℕ → ℕ → ℕ → List ℕ → Effect (List ℕ) (List ℕ)
visit_into s source total i known table =
    leaves (λ b. b) (λ b. sets table known (take (total - known) (value_numbers b))) table
    (check (ltb i known) 14 (i ∷ []) (parse_page s source i (get_or table i 0)))

-- ---- the walk in the numbers of the code

-- whether it ends with the first page that has value bytes
abbrev pub to_bytes : Until → Bool
to_bytes FirstBytes = true
to_bytes End = false

-- before the first page
abbrev pub start_counts : ℕ → WalkCounts
start_counts known = record { pages = 0; size = 0; numbers = known }

-- with the counts of one page more
abbrev pub counts_with : WalkCounts → List ℕ → WalkCounts
counts_with f b = record { pages = f.pages + 1; size = f.size + bytes_within b; numbers = f.numbers + numbers_within b }

abbrev pub resumed : (List ℕ → List ℕ → Effect WalkCounts (List ℕ)) → Outcome (List ℕ) → List ℕ → Effect WalkCounts (List ℕ)
resumed next (answer b) table = next b table
resumed next (refused number values) table = effect (refused number values) table

-- walk `left` more pages, with so much found
unfoldable pub walk_table : ℕ → Source → Bool → ℕ → ℕ → WalkCounts → List ℕ → Effect WalkCounts (List ℕ)
walk_table s source to_bytes total zero f table = effect (answer f) table
walk_table s source to_bytes total (suc left) f table =
    let v = visit_into s source total f.pages f.numbers table in
    resumed
    (λ b t. cond (to_bytes && leb 1 (bytes_within b)) (effect (answer (counts_with f b)) t) (walk_table s source to_bytes total left (counts_with f b) t))
    v.outcome v.lent

-- with a place of the table for each page that is walked, from where it has come to
unfoldable pub walk_into : ℕ → Source → Bool → WalkCounts → List ℕ → Effect WalkCounts (List ℕ)
walk_into s source to_bytes f table = walk_table s source to_bytes (length table) (length table - f.pages) f table

-- so far from the limits of their types are its counts
pub record SmallCounts (f : WalkCounts) : Type 0 where
  pub size : f.size ≤ 65536 * f.pages
  pub numbers : f.numbers ≤ 2 ^ 62 + 65536 * f.pages

abbrev pub walk_outcome : Result WalkCounts Refusal → Outcome WalkCounts
walk_outcome = outcome (λ f. f)

-- what has been found, in numbers, where a walk has ended
abbrev pub walk_counts : Walked → Outcome WalkCounts
walk_counts (ended i f) = answer (record { pages = i; size = length f.bytes; numbers = length f.numbers })
walk_counts (stopped f number values) = refused number values

-- the walk from a cell to the first page that has value bytes, with a place of the table for each page
unfoldable pub first_walk_into : ℕ → List ℕ → List ℕ → List ℕ → Effect WalkCounts (List ℕ)
first_walk_into s store cell table =
    let w = walk s (in_store s store) true (length table) 0 (in_cell (cell_of cell)) in
    effect (walk_counts w) (table_after (length table) table w)

-- the total that it decides, by its counts
unfoldable pub counted_total : Needs → WalkCounts → ℕ
counted_total needs f = cond (leb 1 f.size && eqb f.numbers needs.totals.new) needs.totals.new needs.totals.old

-- ---- copying

-- the value bytes of some pages, one after another
unfoldable pub value_bytes_of : ℕ → List ℕ → List ℕ → List ℕ
value_bytes_of s store [] = []
value_bytes_of s store (p ∷ ps) = value_bytes (page_at s store p) ++ value_bytes_of s store ps

-- pages of the store, whose value bytes have room
pub record Copyable (s : ℕ) (store numbers value : List ℕ) : Type 0 where
  pub inside : (k : ℕ) → k < length numbers → get_or numbers k 0 < page_count s store
  pub room : length (value_bytes_of s store numbers) ≤ length value
