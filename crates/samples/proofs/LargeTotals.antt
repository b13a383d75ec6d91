-- What is told of a large size: its new total is not looked for from 0 on, but is the old one or one less.
use Prim.Native.Nat.{ℕ, ◌-◌, ◌≤◌}
use mathlib.Core.Bool.{◌&&◌, cond}
use mathlib.Core.List.{[]}
use mathlib.Core.Path.{◌≡◌, ◌∙◌}
use lib.Dec.{leb}
use Rattle.refusal.specs.Outcome.{answer, check}
use Rattle.page.specs.PageSize.{IsPageSize}
use Rattle.overflow.specs.Totals.{max_size, holds, old_total, total_of, page_total}
use Rattle.overflow.proofs.NewTotalLaws.{one_less}
use Rattle.samples.specs.Samples.{pages}

pub large : {s : ℕ} → IsPageSize s → (size : ℕ) {total cell spare room : ℕ} → 1 ≤ size
    → cond (holds s size (old_total s size - 1)) (old_total s size - 1) (old_total s size) ≡ total
    → check (leb 1 size && leb size (max_size s)) 10 [] (answer (total_of s size total)) ≡ pages total cell spare room
    → page_total s size ≡ pages total cell spare room
unfolding page_total
large page size some e told = rw (one_less page size some ∙ e) told
