-- Where the next number is not that of the next item, no rest makes the line begin with the numbers of all items.
-- Assumes nothing.
use Rattle.std.proofs.Common.{arith, ◌≡◌, ◌<◌, ℕ, zero, suc, List, [], ◌∷◌, ◌++◌, length, take, drop, get_or, map, Result, Ok, Err, OnErr, sym, ap, refl, ◌∙◌}
use Rattle.record_line.proofs.fields.Fields.expect.Goals as goal

on_err : {T E : Type 0} {P : Type 0} (r : Result T E) → P → OnErr r P
on_err (Ok _) p = tt
on_err (Err _) p = p

next_differs : {A : Type 0} (f : A → ℕ) (items : List A) (i : ℕ) (x : A) (line left : List ℕ)
    → line ≡ map f (take i items) ++ left → x ≡ get_or items i x → i < length items
    → ((rest : List ℕ) → left ≡ f x ∷ rest → ⊥) → (rest : List ℕ) → line ≡ map f items ++ rest → ⊥
next_differs f [] i x line left taken at within differs rest whole = omega arith
next_differs f (y ∷ ys) zero x line left taken at within differs rest whole =
    differs (map f ys ++ rest) (sym taken ∙ (whole ∙ ap (λ z. f z ∷ (map f ys ++ rest)) (sym at)))
next_differs f (y ∷ ys) (suc n) x line left taken at within differs rest whole =
    next_differs f ys n x (map f (take n ys) ++ left) left refl at (omega arith) differs rest (ap (drop 1) (sym taken ∙ whole))

pub returns-in_err-expect_number-clause-wrong : goal.returns-in_err-expect_number-clause-wrong
returns-in_err-expect_number-clause-wrong g c =
    let number = g.T.Number.number in
    let same : c.into.result ≡ number c.item-item.result = g.met.T.Number.to_number _ _ c.into.ensures in
    let none = next_differs number c.args.items.now c.loop-item.item-index c.item-item.result c.args.self.now c.loop-item.self
    c.loop-item.invariant c.item-item.is (omega (arith, c.loop-item-test.true))
    (λ rest e. c.in_err-expect_number.ensures.wrong rest (e ∙ ap (λ n. n ∷ rest) (sym same))) in
    on_err c.from_residual.result none
