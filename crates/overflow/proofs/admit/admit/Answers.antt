-- `admit` meets its contract: one law for each test.
use Rattle.overflow.proofs.admit.admit.Goals as goal
use Rattle.overflow.proofs.admit.admit.Goals.{then-numbers-totals-via-then-numbers-totals, then-numbers-totals-via-else-numbers-totals+then-bytes-size}
use Rattle.overflow.proofs.CellsLaws.{decoding}
use Rattle.overflow.proofs.AdmitLaws.{admit_numbers, admit_bytes, admit_all}

pub returns-then-numbers-totals-clause-needs : goal.returns-then-numbers-totals-clause-needs
returns-then-numbers-totals-clause-needs c =
    let d = decoding _ _ c.in_ok-size.ensures in
    rw (← c.page_size-page_size.ensures)
    (elim c.then-numbers-totals.branch [
      | then-numbers-totals-via-then-numbers-totals w ↦ admit_numbers _ _ _ _ d c.if-size-eq0.false c.total_needed_pages-totals.ensures.totals w.if-numbers-totals.true
      | then-numbers-totals-via-else-numbers-totals+then-bytes-size w ↦ admit_bytes _ _ _ _ d c.if-size-eq0.false c.total_needed_pages-totals.ensures.totals w.if-numbers-totals.false w.if-bytes-size.true
    ])

pub returns-clause-needs : goal.returns-clause-needs
returns-clause-needs c =
    rw (← c.page_size-page_size.ensures)
    (admit_all _ _ _ _ (decoding _ _ c.in_ok-size.ensures) c.if-size-eq0.false c.total_needed_pages-totals.ensures.totals c.if-numbers-totals.false c.if-bytes-size.false)
