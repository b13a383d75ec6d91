-- How a store grows, and how many pages a value takes.
use Rattle.std.specs.Prelude.{ℕ, ◌≡◌, List, [], ◌∷◌}
use Rattle.refusal.specs.Effect.{LentMut, before, nothing, effect, called, left}
use Rattle.page.specs.Growth.{grow}
use Rattle.overflow.specs.Totals.{Total, page_total}

-- the new length
abbrev pub grow_values : ℕ → List ℕ
grow_values length = length ∷ []

abbrev pub Grows : ℕ → LentMut → ℕ → Type 0
Grows page out r = left r out nothing ≡ called grow_values (before out) (effect (grow page) nothing)

-- total, numbers in the cell, spare room, places that a reader's number table needs
abbrev pub total_values : Total → List ℕ
total_values t = t.total ∷ t.cell ∷ t.spare ∷ t.room ∷ []

abbrev pub TellsTotal : ℕ → ℕ → LentMut → ℕ → Type 0
TellsTotal s size out r = left r out nothing ≡ called total_values (before out) (effect (page_total s size) nothing)
