-- `all_differ` meets its contract: marking from a cleared map judges the numbers, and either way of clearing leaves the same.
use Rattle.std.proofs.Common.{◌≡◌, ◌++◌}
use Rattle.bit_map.proofs.marking.all_differ.Goals as goal
use mathlib.Core.Path.{ap, ◌∙◌}
use Rattle.bit_map.specs.BitMap.{cleared}
use Rattle.bit_map.specs.Marking.{Marking, mark_all}
use Rattle.bit_map.proofs.MarkingLaws.{judged, zero-append, zeroed_again, cleared_again}

pub returns-then-is_few-clause-differ : goal.returns-then-is_few-clause-differ
returns-then-is_few-clause-differ c =
    let x = c.args in
    let ns = x.a.now ++ (x.b.now ++ x.c.now) in
    ap (λ (m : Marking). m.all) c.mark_tables-differ.ensures ∙ rw c.clear.ensures (judged x.limit x.map.now ns c.requires)

pub returns-then-is_few-clause-map : goal.returns-then-is_few-clause-map
returns-then-is_few-clause-map c =
    let x = c.args in
    let ns = x.a.now ++ (x.b.now ++ x.c.now) in
    let marks : c.mark_tables-differ.new.map ≡ (mark_all x.limit (cleared x.limit x.map.now) ns).map = rw (← c.clear.ensures) (ap (λ (m : Marking). m.map) c.mark_tables-differ.ensures) in
    rw (c.zero_bytes-then-is_few-2.ensures, c.zero_bytes-then-is_few.ensures, c.zero_bytes.ensures, marks, ← zero-append x.limit _ x.b.now x.c.now, ← zero-append x.limit _ x.a.now (x.b.now ++ x.c.now))
    (zeroed_again x.limit x.map.now ns c.requires)

pub returns-else-is_few-clause-differ : goal.returns-else-is_few-clause-differ
returns-else-is_few-clause-differ c =
    let x = c.args in
    let ns = x.a.now ++ (x.b.now ++ x.c.now) in
    ap (λ (m : Marking). m.all) c.mark_tables-differ.ensures ∙ rw c.clear.ensures (judged x.limit x.map.now ns c.requires)

pub returns-else-is_few-clause-map : goal.returns-else-is_few-clause-map
returns-else-is_few-clause-map c =
    let x = c.args in
    let ns = x.a.now ++ (x.b.now ++ x.c.now) in
    let marks : c.mark_tables-differ.new.map ≡ (mark_all x.limit (cleared x.limit x.map.now) ns).map = rw (← c.clear.ensures) (ap (λ (m : Marking). m.map) c.mark_tables-differ.ensures) in
    rw (c.clear-else-is_few.ensures, marks) (cleared_again x.limit x.map.now ns c.requires)
