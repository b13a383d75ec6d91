-- Handing out where the save stands, as a C call: what was counted up goes to `out` behind the number.
use Prim.Native.Nat.{ℕ}
use mathlib.Core.Path.{◌≡◌, refl, ap, ◌∙◌}
use mathlib.Core.List.{List, [], ◌∷◌}
use Rattle.std.specs.Prelude.{Result, Ok, Err}
use Rattle.refusal.specs.Outcome.{Outcome, answer, refused}
use Rattle.refusal.specs.Refusals.{outcome}
use Rattle.refusal.specs.Effect.{nothing, Effect, effect, leaves, Called, called}
use Rattle.refusal.specs.declared.Refusal.{Refusal}
use Rattle.allocator.specs.OpenSave.{Save, HandedOut, hand_out, Counters, counters, count_up}
use Rattle.allocator.specs.Answers.{handed_effect, handed_outcome, counters_of}
use Rattle.allocator.specs.declared.allocate.Handed.{Handed}
use Rattle.allocator.specs.declared.save.OpenSave.{OpenSave}
use Rattle.page.specs.declared.number.PageNumber.{PageNumber}
use Rattle.calls.specs.Saves.{handed, handed_values, handed_told}

-- the number, and behind it the counters
abbrev with_counters : Counters → ℕ → List ℕ
with_counters k n = n ∷ k.handed ∷ k.recorded ∷ []

abbrev counted : List ℕ → Effect ℕ Counters → Called (Unit {0})
counted out e = called (with_counters e.lent) out (effect e.outcome nothing)

handed_out : (s : ℕ) (v : Save) (out : List ℕ) → counted out (count_up s v) ≡ called handed_values out (effect (hand_out s v) nothing)
unfolding count_up
handed_out s v out = by_outcome (hand_out s v)
  where
    by_outcome : (o : Outcome HandedOut)
        → counted out (leaves (λ (h : HandedOut). h.number) (λ (h : HandedOut). counters h.save) (counters v) o) ≡ called handed_values out (effect o nothing)
    by_outcome (answer h) = refl
    by_outcome (refused number values) = refl

as_told : (k : Counters) (out : List ℕ) (r : Result Handed Refusal) → called (λ vs. vs) out (effect (outcome handed_told r) nothing) ≡ counted out (handed_effect k r)
as_told k out (Ok h) = refl
as_told k out (Err r) = refl

-- what the code answered, told as it stands
pub hands_out : (s : ℕ) (v : Save) (out : List ℕ) (r : Result Handed Refusal) → handed_effect (counters v) r ≡ count_up s v
    → called (λ vs. vs) out (effect (outcome handed_told r) nothing) ≡ called handed_values out (effect (hand_out s v) nothing)
hands_out s v out r e = as_told (counters v) out r ∙ ap (counted out) e ∙ handed_out s v out

-- an answer beside the open save, and with it inside, leaves the same
beside : (r : Result PageNumber Refusal) (k : OpenSave) → handed_effect (counters_of k) (handed r k) ≡ effect (handed_outcome r) (counters_of k)
beside (Ok number) k = refl
beside (Err r) k = refl

-- what the open save answered, told as it stands
pub open_save_hands_out : (s : ℕ) (v : Save) (out : List ℕ) (r : Result PageNumber Refusal) (k : OpenSave) → effect (handed_outcome r) (counters_of k) ≡ count_up s v
    → called (λ vs. vs) out (effect (outcome handed_told (handed r k)) nothing) ≡ called handed_values out (effect (hand_out s v) nothing)
open_save_hands_out s v out r k e = as_told (counters_of k) out (handed r k) ∙ ap (counted out) (beside r k ∙ e) ∙ handed_out s v out
