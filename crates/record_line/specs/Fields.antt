-- What the next numbers of a line are.
use Rattle.std.specs.Prelude.{ℕ, ◌≡◌, ◌<◌, ◌≤◌, ◌++◌, List, ◌∷◌, All, length, Result, Err}

-- a number that is refused
abbrev pub IsRefused : {T E : Type 0} → (ℕ → Result T E → Type 0) → ℕ → Type 0
IsRefused {E = E} gives n = (e : E) × gives n (Err e)

-- no number is left, or the next one is refused
abbrev pub NoneFits : {T E : Type 0} → (ℕ → Result T E → Type 0) → List ℕ → Type 0
NoneFits gives line = (n : ℕ) (rest : List ℕ) → line ≡ n ∷ rest → IsRefused gives n

-- a count comes next, and behind it as many numbers, none of which is refused
abbrev pub HasArray : {T E : Type 0} → (ℕ → Result T E → Type 0) → List ℕ → Type 0
HasArray gives line = (items : List ℕ) × (rest : List ℕ) × (line ≡ length items ∷ (items ++ rest)) × All (λ n. ¬ (IsRefused gives n)) items

-- a count comes next that is no more than the numbers behind it
abbrev pub HasRoom : List ℕ → Type 0
HasRoom line = (count : ℕ) × (rest : List ℕ) × (line ≡ count ∷ rest) × (count ≤ length rest)

-- a count comes next that is above the most
abbrev pub HasTooMany : ℕ → List ℕ → Type 0
HasTooMany most line = (count : ℕ) × (rest : List ℕ) × (line ≡ count ∷ rest) × (most < count)
