-- `chunk` meets its contract: one law for each refusal and one for the page.
use Rattle.std.proofs.Common.{◌≤◌, length}
use Rattle.overflow.proofs.chunk.chunk.Goals as goal
use Rattle.overflow.proofs.chunk.chunk.Goals.{then-size-eq0-via-then-size-eq0, then-size-eq0-via-else-size-eq0+then-max_overflow_value_size-size, then-numbers-total-via-then-numbers-total, then-numbers-total-via-else-numbers-total+then-total-index}
use mathlib.Core.Path.{◌∙◌}
use native.Mathlib.Omega.{arith}
use Rattle.overflow.proofs.NewTotalLaws.{rule_few, rule_total}
use Rattle.overflow.proofs.ChunkLaws.{chunk_empty, chunk_large, chunk-numbers, chunk-index, chunk-short, chunk-written}

pub returns-then-size-eq0 : goal.returns-then-size-eq0
returns-then-size-eq0 c = elim c.then-size-eq0.branch [
  | then-size-eq0-via-then-size-eq0 w ↦ chunk_empty _ _ _ _ _ _ w.if-size-eq0.true
  | then-size-eq0-via-else-size-eq0+then-max_overflow_value_size-size w ↦
      chunk_large _ _ _ _ _ _ (rw w.max_overflow_value_size.ensures at w.if-max_overflow_value_size-size.true)
]

pub returns-then-numbers-total : goal.returns-then-numbers-total
returns-then-numbers-total c =
    let some : 1 ≤ length c.args.value.now = omega (arith, c.if-size-eq0.false) in
    let few = rw c.max_overflow_value_size.ensures at c.if-max_overflow_value_size-size.false in
    elim c.then-numbers-total.branch [
      | then-numbers-total-via-then-numbers-total w ↦ chunk-numbers _ _ _ _ _ _ some few (rw (c.of-total.ensures ∙ rule_total c.args.rule c.total_needed_pages-totals.ensures.totals) at w.if-numbers-total.true)
      | then-numbers-total-via-else-numbers-total+then-total-index w ↦ chunk-index _ _ _ _ _ _ some few (rw (c.of-total.ensures ∙ rule_total c.args.rule c.total_needed_pages-totals.ensures.totals) at w.if-numbers-total.false) (rw (c.of-total.ensures ∙ rule_total c.args.rule c.total_needed_pages-totals.ensures.totals) at w.if-total-index.true)
    ]

pub returns-then-page-page_bytes : goal.returns-then-page-page_bytes
returns-then-page-page_bytes c =
    let some : 1 ≤ length c.args.value.now = omega (arith, c.if-size-eq0.false) in
    let few = rw c.max_overflow_value_size.ensures at c.if-max_overflow_value_size-size.false in
    chunk-short _ _ _ _ _ _ some few (rw (c.of-total.ensures ∙ rule_total c.args.rule c.total_needed_pages-totals.ensures.totals) at c.if-numbers-total.false) (rw (c.of-total.ensures ∙ rule_total c.args.rule c.total_needed_pages-totals.ensures.totals) at c.if-total-index.false) (rw c.bytes-page_bytes.ensures.bytes at c.if-page-page_bytes.true)

pub write_page-requires-clause-few : goal.write_page-requires-clause-few
write_page-requires-clause-few c =
    let some : 1 ≤ length c.args.value.now = omega (arith, c.if-size-eq0.false) in
    let few = rw c.max_overflow_value_size.ensures at c.if-max_overflow_value_size-size.false in
    let page = rw c.bytes-page_bytes.ensures.bytes at c.bytes-page_bytes.ensures.size in
    rw (c.if-numbers-total.false, c.of-total.ensures ∙ rule_total c.args.rule c.total_needed_pages-totals.ensures.totals) (rule_few c.args.rule page some few)

pub returns : goal.returns
returns c =
    let some : 1 ≤ length c.args.value.now = omega (arith, c.if-size-eq0.false) in
    let few = rw c.max_overflow_value_size.ensures at c.if-max_overflow_value_size-size.false in
    let whole = rw (c.of-total.ensures ∙ rule_total c.args.rule c.total_needed_pages-totals.ensures.totals) at c.if-numbers-total.false in
    let same = c.bytes-page_bytes.ensures.bytes in
    rw (c.write_page.ensures, whole, same)
    (chunk-written _ _ _ _ _ _ some few whole (rw (c.of-total.ensures ∙ rule_total c.args.rule c.total_needed_pages-totals.ensures.totals) at c.if-total-index.false) (rw same at c.bytes-page_bytes.ensures.size) (rw same at c.if-page-page_bytes.false))
