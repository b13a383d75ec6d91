-- Laws about the numbers that come next: an array stands at the front of no line where one of its numbers is refused.
-- Assumes nothing.
use Rattle.std.proofs.Common.{arith, ◌≡◌, ◌<◌, ℕ, List, [], ◌∷◌, ◌++◌, All, length, drop, get_or, Result, sym, ap, subst, ◌∙◌}
use Rattle.std.proofs.lemmas.List.Elements.{All-head, All-tail}
use Rattle.record_line.specs.Fields.{IsRefused, NoneFits, HasArray}

no_items : {T E : Type 0} (gives : ℕ → Result T E → Type 0) (taken items left rest : List ℕ)
    → taken ++ left ≡ items ++ rest → length taken < length items → NoneFits gives left → All (λ n. ¬ (IsRefused gives n)) items → ⊥
no_items gives taken [] left rest same fewer none all = omega arith
no_items gives [] (x ∷ xs) left rest same fewer none all =
    let P : ℕ → Type 0 = λ n. ¬ (IsRefused gives n) in All-head P x xs all (none x (xs ++ rest) same)
no_items gives (y ∷ ys) (x ∷ xs) left rest same fewer none all =
    let P : ℕ → Type 0 = λ n. ¬ (IsRefused gives n) in
    no_items gives ys xs left rest (ap (drop 1) same) (omega arith) none (All-tail P x xs all)

pub no_array : {T E : Type 0} (gives : ℕ → Result T E → Type 0) (count : ℕ) (taken left line : List ℕ)
    → line ≡ count ∷ (taken ++ left) → length taken < count → NoneFits gives left → HasArray gives line → ⊥
no_array gives count taken left line begins fewer none (items, rest, whole, all) =
    let same : count ∷ (taken ++ left) ≡ length items ∷ (items ++ rest) = sym begins ∙ whole in
    let P : ℕ → Type 0 = λ n. length taken < n in
    no_items gives taken items left rest (ap (drop 1) same) (subst P (ap (λ xs. get_or xs 0 0) same) fewer) none all
