-- Counting the numbers of a list, with repeats.
use Rattle.std.specs.Prelude.{ℕ, zero, suc, ◌+◌, Bool, true, ◌&&◌, cond, eqb, ltb}
use mathlib.Core.List.{List, [], ◌∷◌, Memᴰ}

-- how often x occurs
unfoldable pub count : ℕ → List ℕ → ℕ
count x [] = 0
count x (n ∷ ns) = cond (eqb x n) 1 0 + count x ns

-- n, n + 1 .., so many
unfoldable pub numbers_from : ℕ → ℕ → List ℕ
numbers_from n zero = []
numbers_from n (suc m) = n ∷ numbers_from (suc n) m

-- no number stands twice
abbrev pub Different : List ℕ → Type 0
Different [] = Unit {0}
Different (n ∷ ns) = (Memᴰ n ns → ⊥) × Different ns

-- does no number stand twice?
unfoldable pub all_different : List ℕ → Bool
all_different [] = true
all_different (n ∷ ns) = eqb (count n ns) 0 && all_different ns

-- are all below the limit?
unfoldable pub all_below : ℕ → List ℕ → Bool
all_below limit [] = true
all_below limit (n ∷ ns) = ltb n limit && all_below limit ns
