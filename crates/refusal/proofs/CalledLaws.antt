-- An operation's contract, carried over to the function of the C interface above it.
use Prim.Native.Nat.{ℕ}
use mathlib.Core.Path.{◌≡◌, sym, ap, ◌∙◌}
use mathlib.Core.List.{List}
use lib.Seq.{sets}
use Rattle.refusal.specs.Outcome.{Outcome}
use Rattle.refusal.specs.Refusals.{number, values, refusal}
use Rattle.refusal.specs.Effect.{Effect, effect, Called, called}
use Rattle.refusal.specs.declared.Refusal.{Refusal}

-- `of` turns what the operation answered into an outcome; it answered r, which is q
module _ {A B R : Type 0} (of : R → Outcome A) {r q : R} {lent : B} {e : Effect A B} (meets : effect (of r) lent ≡ e) (is : r ≡ q) where
  same_effect : effect (of q) lent ≡ e
  same_effect = ap (λ (x : R). effect (of x) lent) (sym is) ∙ meets

  pub carried : (told : A → List ℕ) (out : List ℕ) → called told out (effect (of q) lent) ≡ called told out e
  carried told out = ap (called told out) same_effect

-- a refusal that is reported
pub reported : {A B : Type 0} (told : A → List ℕ) (out : List ℕ) (r : Refusal) {lent : B} {status : ℕ} {after : List ℕ} → status ≡ number r → after ≡ sets out 0 (values r)
    → ◌≡◌ {A = Called B} (record { status = status; out = after; lent = lent }) (called told out (effect (refusal r) lent))
reported told out r p q = rw (p, q)
