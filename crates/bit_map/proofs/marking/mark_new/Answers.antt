-- `mark_new` meets its contract: its tests are those of the definition.
use Rattle.bit_map.proofs.marking.mark_new.Goals as goal
use Rattle.bit_map.proofs.marking.mark_new.Goals.{then-limit-n-via-then-limit-n, then-limit-n-via-else-limit-n+then-is_marked}
use mathlib.Core.Path.{refl, sym, ◌∙◌}
use native.Mathlib.Omega.{arith}
use lib.Dec.{ltb}
use borrow.Author.Tests.{lt-ltb, le-ltb}
use Rattle.laws.proofs.Tests.{and-false_right}
use Rattle.bit_map.specs.Marking.{mark_all}
use Rattle.bit_map.proofs.BitMapLaws.{in_map}

pub is_marked-requires : goal.is_marked-requires
is_marked-requires c = in_map c.args.limit c.args.map.now c.args.n c.requires (omega (arith, c.if-limit-n.false))

pub mark-requires : goal.mark-requires
mark-requires c = in_map c.args.limit c.args.map.now c.args.n c.requires (omega (arith, c.if-limit-n.false))

pub returns-then-limit-n : goal.returns-then-limit-n
unfolding mark_all
returns-then-limit-n c = elim c.then-limit-n.branch [
  | then-limit-n-via-then-limit-n w ↦ rw (le-ltb c.args.n c.args.limit w.if-limit-n.true) refl
  | then-limit-n-via-else-limit-n+then-is_marked w ↦ rw (sym w.is_marked.ensures ∙ w.if-is_marked.true, and-false_right (ltb c.args.n c.args.limit)) refl
]

pub returns : goal.returns
unfolding mark_all
returns c =
    rw (lt-ltb c.args.n c.args.limit (omega (arith, c.if-limit-n.false)), sym c.is_marked.ensures ∙ c.if-is_marked.false, c.mark.ensures) refl
