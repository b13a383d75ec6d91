-- How much of a line a call takes.
use Rattle.std.specs.Prelude.{ℕ, ◌+◌, ◌^◌, ◌≡◌, ◌≤◌, List, ◌∷◌, length}

-- so many numbers of the line are taken, or more
abbrev pub TakesAtLeast : ℕ → List ℕ → List ℕ → Type 0
TakesAtLeast count line rest = length rest + count ≤ length line

-- no number is left, or the next one has more than 64 bits
abbrev pub HasNoNumber : List ℕ → Type 0
HasNoNumber line = (n : ℕ) (rest : List ℕ) → line ≡ n ∷ rest → 2 ^ 64 ≤ n
