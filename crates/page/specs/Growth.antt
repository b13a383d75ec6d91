-- How a store grows.
use Rattle.std.specs.Prelude.{ℕ, ◌+◌, ◌*◌, ◌-◌, ◌/◌, [], leb, Result}
use Rattle.refusal.specs.Outcome.{Outcome, answer, check}
use Rattle.refusal.specs.Refusals.{outcome}
use Rattle.refusal.specs.declared.Refusal.{Refusal}
use Rattle.page.specs.declared.number.PageNumber.{PageNumber}

-- the largest bump: what `grow` makes of it is still a page number
abbrev pub max_bump : ℕ
max_bump = 4294950913

-- a store grows by so many pages at a time
abbrev pub growth : ℕ
growth = 8192

-- the least multiple of m not below n
unfoldable pub rounded_up : ℕ → ℕ → ℕ
rounded_up m n = (n + (m - 1)) / m * m

-- for page g: the least multiple of 8,192 not below g + 8,191
unfoldable pub grown : ℕ → ℕ
grown g = rounded_up growth (g + (growth - 1))

-- the same, or refusal 7
unfoldable pub grow : ℕ → Outcome ℕ
grow g = check (leb g max_bump) 7 [] (answer (grown g))

-- what the code answers, as an outcome
abbrev pub grown_outcome : Result PageNumber Refusal → Outcome ℕ
grown_outcome = outcome (λ page. page.0)
