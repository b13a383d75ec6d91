-- Bytes that a call writes to the start of a lent buffer.
use Rattle.std.specs.Prelude.{ℕ, List, length, Result}
use Rattle.std.proofs.lemmas.List.Edits.{sets}
use Rattle.refusal.specs.Outcome.{Outcome}
use Rattle.refusal.specs.Effect.{Effect, leaves}
use Rattle.refusal.specs.Refusals.{outcome}
use Rattle.refusal.specs.declared.Refusal.{Refusal}

-- the bytes stand at the start of the buffer, whose other places stay, and their count is told
abbrev pub stored_in : List ℕ → Outcome (List ℕ) → Effect ℕ (List ℕ)
stored_in buffer = leaves length (sets buffer 0) buffer

-- what the code answers, as an outcome
abbrev pub written_outcome : Result ℕ Refusal → Outcome ℕ
written_outcome = outcome (λ n. n)
