-- Page lookup.
use Rattle.std.specs.Prelude.{ℕ, ◌≡◌, List, [], ◌∷◌}
use Rattle.refusal.specs.Effect.{Lent, LentMut, given, before, nothing, effect, called, left}
use Rattle.lookup.specs.Lookup.{Place, pending_at, store_at, find}

-- 0 for the pending pages or 1 for the store, and the byte there
abbrev pub place_values : Place → List ℕ
place_values (pending_at at) = 0 ∷ at ∷ []
place_values (store_at at) = 1 ∷ at ∷ []

abbrev pub LooksUp : ℕ → Lent → Lent → Lent → ℕ → LentMut → ℕ → Type 0
LooksUp s numbers pending store page out r =
    left r out nothing ≡ called place_values (before out) (effect (find s (given numbers) (given pending) (given store) page) nothing)
