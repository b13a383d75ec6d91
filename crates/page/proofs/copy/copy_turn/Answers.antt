-- `copy_turn` meets its contract: the bytes of the words that were read are those that they were read from.
use Rattle.std.proofs.Common.{replicate}
use Rattle.std.proofs.lemmas.List.Edits.{sets}
use Rattle.page.proofs.copy.copy_turn.Goals as goal
use mathlib.Core.Path.{ap, ◌∙◌}
use native.Mathlib.Omega.{arith}
use lib.Seq.{length-take-le}
use Rattle.page.proofs.BytesLaws.{turn_copied}

pub returns : goal.returns
returns c =
    let x = c.args in
    let e = c.write_numbers.ensures in
    let long = length-take-le x.n (replicate 192 0) c.requires.0 in (
      e.count ∙ omega (arith, c.read_numbers.auto.table, long),
      e.bytes ∙ ap (sets x.b.now x.at) (turn_copied x.a.now _ x.n _ (λ k. omega (arith, c.type_inv.a k)) c.requires.1 long c.read_numbers.ensures),
    )
