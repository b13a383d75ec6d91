-- Case analysis: what a passed check and an answer that is carried on tell.
use Prim.Native.Nat.{ℕ}
use native.Mathlib.Omega.{arith}
use mathlib.Core.Path.{◌≡◌, refl, ap}
use mathlib.Core.Bool.{Bool, true, false}
use mathlib.Core.List.{List}
use Rattle.refusal.specs.Outcome.{Outcome, answer, refused, check, with_answer}
use Rattle.refusal.specs.Effect.{Effect, effect}

-- outcomes that are the same have the same answer
pub unanswer : {A : Type 0} {x y : A} → answer x ≡ answer y → x ≡ y
unanswer e = cc

-- an answer behind a check: the test held, and the rest gave it
pub check_answer : {A : Type 0} (b : Bool) (n : ℕ) (vs : List ℕ) (o : Outcome A) {a : A} → check b n vs o ≡ answer a → (b ≡ true) × (o ≡ answer a)
check_answer true n vs o e = (refl, e)
check_answer false n vs o e = let z : ◌≡◌ {A = ℕ} 0 1 = cc in absurd (omega arith)

-- an answer made from another outcome's answer
pub with_answer_answer : {A B : Type 0} (f : A → Outcome B) (o : Outcome A) {b : B} → with_answer f o ≡ answer b → (a : A) × (o ≡ answer a) × (f a ≡ answer b)
with_answer_answer f (answer a) e = (a, refl, e)
with_answer_answer f (refused n vs) e = let z : ◌≡◌ {A = ℕ} 0 1 = cc in absurd (omega arith)

-- a refusal where answers are only carried over
pub with_answer_refused : {A B : Type 0} (f : A → B) (o : Outcome A) {n : ℕ} {vs : List ℕ} → with_answer (λ a. answer (f a)) o ≡ refused n vs → o ≡ refused n vs
with_answer_refused f (answer a) e = let z : ◌≡◌ {A = ℕ} 0 1 = cc in absurd (omega arith)
with_answer_refused f (refused n vs) e = cc

-- an effect that answers is not one of a refusal
pub not_refused : {A B : Type 0} {n : ℕ} {vs : List ℕ} {lent m : B} {a : A} → effect (refused n vs) lent ≡ effect (answer a) m → ⊥
not_refused {A} {B} {n} {vs} {lent} {m} {a} e =
    let o : refused n vs ≡ answer a = ap (λ (x : Effect A B). x.outcome) e in
    let z : ◌≡◌ {A = ℕ} 0 1 = cc in
    omega arith
