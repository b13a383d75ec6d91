-- The free list.
use Rattle.std.specs.Prelude.{ℕ, ◌≡◌, false, List, [], ◌∷◌}
use Rattle.refusal.specs.Effect.{Lent, LentMut, given, before, after, called, left}
use Rattle.free_list.specs.Reading.{ListSize, list_lent, read_list_into}

-- P, L
abbrev pub list_values : ListSize → List ℕ
list_values size = size.P ∷ size.L ∷ []

abbrev pub ReadsList : ℕ → Lent → ℕ → LentMut → LentMut → LentMut → LentMut → ℕ → Type 0
ReadsList s store head pages entries map out r =
    left r out (list_lent after pages entries map)
    ≡ called list_values (before out) (read_list_into s (given store) false head (list_lent before pages entries map))
