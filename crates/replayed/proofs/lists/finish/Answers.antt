-- The save takes six numbers, each array its length, and the reply nine: the status and `out`.
-- Assumes nothing.
use Rattle.std.proofs.Common.{arith, ℕ, length, ap}
use Rattle.std.proofs.lemmas.List.{length-append, length-map}
use Rattle.replayed.proofs.lists.finish.Goals as goal

pub returns : goal.returns
returns c =
    omega (
      arith,
      length-append {A = ℕ},
      c.in_ok-save.ensures,
      ap length c.in_ok-array_into.ensures.ok,
      ap length c.in_ok-array_into-2.ensures.ok,
      ap length c.in_ok-array_into-3.ensures.ok,
      ap length c.in_ok-blank_into.ensures.length,
      ap length c.in_ok-blank_into-2.ensures.length,
      ap length c.in_ok-blank_into-3.ensures.length,
      ap length c.in_ok-expect_reply.ensures.ok,
      length-map c.finish-status.new.out (λ (x : ℕ). x),
      ap length c.in_ok-expect.ensures.ok,
      ap length c.in_ok-expect-2.ensures.ok,
      ap length c.in_ok-expect-3.ensures.ok,
      ap length c.in_ok-expect-4.ensures.ok,
      ap length c.in_ok-expect-5.ensures.ok,
    )
