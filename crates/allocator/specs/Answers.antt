-- The code's saves and answers, as the definitions have them.
use Rattle.std.specs.Prelude.{ℕ, ◌+◌, cond, List, ltb, Result, Ok, Err}
use Rattle.refusal.specs.Outcome.{Outcome, answer}
use Rattle.refusal.specs.Refusals.{refusal, outcome}
use Rattle.refusal.specs.Effect.{Effect, effect}
use Rattle.refusal.specs.declared.Refusal.{Refusal}
use Rattle.page.specs.declared.number.PageNumber.{PageNumber}
use Rattle.page.specs.Growth.{grown}
use Rattle.allocator.specs.OpenSave.{Save, Counters}
use Rattle.allocator.specs.declared.save.Start.{Start}
use Rattle.allocator.specs.declared.save.OpenSave.{OpenSave}
use Rattle.allocator.specs.declared.allocate.Handed.{Handed}

-- a save: what it started from, what is counted up, and its two tables
abbrev pub save_of : Start → OpenSave → List ℕ → List ℕ → Save
save_of start v pages entries =
    record {
      page_table = pages;
      entry_table = entries;
      P = start.pages;
      L = start.entries;
      bump = start.bump;
      recorded = v.length;
      handed = v.allocations.0;
    }

-- a save, and how many bytes the pages of its store have
pub record SizedSave : Type 0 where
  pub page_size : ℕ
  pub save : Save

abbrev pub counters_of : OpenSave → Counters
counters_of v = record { handed = v.allocations.0; recorded = v.length }

abbrev pub handed_outcome : Result PageNumber Refusal → Outcome ℕ
handed_outcome = outcome (λ number. number.0)

-- the answer, and what was counted up; after a refusal that is what it was before
abbrev pub handed_effect : Counters → Result Handed Refusal → Effect ℕ Counters
handed_effect before (Ok h) = effect (answer h.number.0) (counters_of h.«open»)
handed_effect before (Err r) = effect (refusal r) before

-- this number is handed out, and this length is recorded
abbrev pub counted_up : ℕ → OpenSave → ℕ → Handed
counted_up number v length =
    record { number = record { 0 = number }; «open» = record { allocations = record { 0 = v.allocations.0 + 1 }; length = length } }

-- a recorded length that covers the page
abbrev pub recorded_for : ℕ → ℕ → ℕ
recorded_for length page = cond (ltb page length) length (grown page)
