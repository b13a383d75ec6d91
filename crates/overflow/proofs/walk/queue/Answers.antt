-- `queue` meets its contract: the numbers read are the first ones, as many as there is room for.
use Rattle.std.proofs.Common.{◌≡◌, ◌+◌, ◌-◌, ◌<◌, ℕ, List, length, take, drop}
use Rattle.std.proofs.lemmas.List.Edits.{sets}
use Rattle.page.specs.Bytes.{numbers_at}
use Rattle.overflow.proofs.walk.queue.Goals as goal
use Prim.Native.Nat.{min}
use mathlib.Core.Path.{◌∙◌}
use native.Mathlib.Decide.{dec_lt}
use native.Mathlib.Omega.{arith}
use lib.ListN.{length-drop}
use lib.Seq.{take_all, length-take-le}
use borrow.Rule.Slice.PartMut.{put_mid}
use Rattle.std.proofs.lemmas.List.{map-id}
use Rattle.laws.proofs.SetsLaws.{part-written}
use Rattle.page.proofs.BytesLaws.{take-numbers_at, length-numbers_at}

-- so many of the numbers that stand at a place are those of the smaller count
first-numbers : (b : List ℕ) (at n room : ℕ) → take room (numbers_at 4 b at n) ≡ numbers_at 4 b at (min n room)
first-numbers b at n room =
    by_count (dec_lt room n)
  where
    by_count : Dec (room < n) → take room (numbers_at 4 b at n) ≡ numbers_at 4 b at (min n room)
    by_count (yes h) =
        let least : min n room ≡ room = omega arith in
        rw least (take-numbers_at 4 b at n room (omega arith))
    by_count (no h) =
        let least : min n room ≡ n = omega arith in
        rw least (take_all room (numbers_at 4 b at n) (omega (arith, length-numbers_at 4 b at n)))

-- they are put back where they were lent
queued : (table b : List ℕ) (at n known room : ℕ) {part : List ℕ} → known < length table → room ≡ min n (length table - known)
    → part ≡ numbers_at 4 b at (length (take (known + room - known) (drop known table)))
    → put_mid known (known + room - known) table part ≡ sets table known (take (length table - known) (numbers_at 4 b at n))
queued table b at n known room {part} h e f =
    let some : known + room - known ≡ room = omega arith in
    let long : length (take room (drop known table)) ≡ room = length-take-le room (drop known table) (omega (arith, length-drop known table)) in
    let read : part ≡ numbers_at 4 b at room = f ∙ rw (some, long) in
    rw (some, first-numbers b at n (length table - known), ← e, ← read)
    (part-written table known room part (rw read (length-numbers_at 4 b at room)) (omega arith))

pub returns : goal.returns
returns c =
    let x = c.args in
    queued x.table.now x.b.now x.at x.n x.known c.min-room.result c.if-table-known.false c.min-room.ensures (rw map-id at c.read_numbers.ensures)
