-- A refusal that an outcome never is: each step of a definition that does not give it keeps it so.
use Prim.Native.Nat.{ℕ}
use native.Mathlib.Omega.{arith}
use mathlib.Core.Path.{◌≡◌, refl, ap}
use mathlib.Core.Logic.{◌≢◌}
use mathlib.Core.Bool.{Bool, true, false}
use mathlib.Core.List.{List}
use Rattle.refusal.specs.Outcome.{Outcome, answer, refused, check, with_answer, Never}

module _ {m : ℕ} where
  pub never_answer : {A : Type 0} (a : A) → Never m (answer a)
  never_answer a vs e = let z : ◌≡◌ {A = ℕ} 0 1 = cc in absurd (omega arith)

  pub never_refused : {A : Type 0} {n : ℕ} {ws : List ℕ} → n ≢ m → Never {A = A} m (refused n ws)
  never_refused {n = n} other vs e = let same : n ≡ m = cc in other same

  pub never_check : {A : Type 0} (b : Bool) (n : ℕ) (ws : List ℕ) {o : Outcome A} → n ≢ m → Never m o → Never m (check b n ws o)
  never_check true n ws other rest = rest
  never_check false n ws other rest = never_refused other

  pub never_with : {A B : Type 0} (f : A → Outcome B) (o : Outcome A) → Never m o → ((a : A) → o ≡ answer a → Never m (f a)) → Never m (with_answer f o)
  never_with f (answer a) first rest vs e = rest a refl vs e
  never_with f (refused n ws) first rest vs e = let same : n ≡ m = cc in first ws (ap (λ k. refused k ws) same)
