-- Case analysis: what a condition and a joined test tell.
use Prim.Native.Nat.{ℕ}
use native.Mathlib.Omega.{arith}
use mathlib.Core.Path.{◌≡◌, refl, sym, ap, ◌∙◌}
use mathlib.Core.Logic.{◌⊎◌, inl, inr}
use mathlib.Core.Bool.{Bool, true, false, ◌&&◌, ◌||◌, cond}

-- a property of a condition, from that of each branch under its test
pub cond_cases : {A : Type 0} (Q : A → Type 0) (b : Bool) (x y : A) → (b ≡ true → Q x) → (b ≡ false → Q y) → Q (cond b x y)
cond_cases Q true x y f g = f refl
cond_cases Q false x y f g = g refl

pub and-true : (a b : Bool) → a && b ≡ true → (a ≡ true) × (b ≡ true)
and-true true b e = (refl, e)
and-true false b e = let z : ◌≡◌ {A = ℕ} 0 1 = cc in absurd (omega arith)

pub and-true_right : (b : Bool) → b && true ≡ b
and-true_right true = refl
and-true_right false = refl

pub and-false_right : (b : Bool) → b && false ≡ false
and-false_right true = refl
and-false_right false = refl

pub or_true_right : (b : Bool) → b || true ≡ true
or_true_right true = refl
or_true_right false = refl

pub and-false : (a b : Bool) → a && b ≡ false → (a ≡ false) ⊎ (b ≡ false)
and-false true b e = inr e
and-false false b e = inl refl

pub or-true : (a b : Bool) → a || b ≡ true → (a ≡ true) ⊎ (b ≡ true)
or-true true b e = inl refl
or-true false b e = inr e

pub or-false : (a b : Bool) → a || b ≡ false → (a ≡ false) × (b ≡ false)
or-false true b e = let z : ◌≡◌ {A = ℕ} 0 1 = cc in absurd (omega arith)
or-false false b e = (refl, e)

-- tests that hold in the same cases are the same
pub same_truth : (a b : Bool) → (a ≡ true → b ≡ true) → (b ≡ true → a ≡ true) → a ≡ b
same_truth true b f g = sym (f refl)
same_truth false true f g = g refl
same_truth false false f g = refl

-- no test both holds and fails
pub not_both : (b : Bool) → b ≡ true → b ≡ false → ⊥
not_both b t f = let z : ◌≡◌ {A = ℕ} 1 0 = ap (λ (x : Bool). cond {A = ℕ} x 1 0) (sym t ∙ f) in absurd (omega (arith, z))
