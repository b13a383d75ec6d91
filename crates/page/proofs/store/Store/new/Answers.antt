-- `new` meets its contract: the quotient, or the largest page count where it is above that.
use Rattle.std.proofs.Common.{ℕ, ◌≡◌, ◌-◌, ◌<◌, ◌^◌}
use Rattle.std.specs.Prelude.{Result, Ok, Err, min}
use Rattle.std.specs.Result.{OkIff, result_unwrap_or}
use Rattle.page.specs.Pages.{page_count}
use Rattle.page.proofs.PageSizeLaws.{page_least}
use Rattle.page.proofs.store.Store.new.Goals as goal
use mathlib.Core.Path.{◌∙◌}
use native.Mathlib.Omega.{arith}

-- a number of 32 bits, or the largest of them
capped : {E : Type 0} (q : ℕ) (r : Result ℕ E) → OkIff r (q < 2 ^ 32) q → result_unwrap_or r (2 ^ 32 - 1) ≡ min q (2 ^ 32 - 1)
capped q (Ok n) tested = omega (arith, tested.0, tested.1)
capped q (Err e) past = omega (arith, past)

pub nonzero_div-bytes : goal.nonzero_div-bytes
nonzero_div-bytes c = let h = page_least c.bytes.ensures.size in omega arith

pub invariant_of-result : goal.invariant_of-result
unfolding page_count
invariant_of-result c = rw (← c.bytes.ensures.bytes) (c.unwrap_or-count.ensures ∙ capped _ c.try_from.result c.try_from.ensures)
