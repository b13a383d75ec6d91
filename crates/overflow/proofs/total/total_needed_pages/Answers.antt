-- `total_needed_pages` meets its contract: where the pages that the bytes take have room for the numbers too, they are both totals; else each is
-- these and some more.
use Rattle.overflow.proofs.total.total_needed_pages.Goals as goal
use Rattle.overflow.proofs.NewTotalLaws.{told_few, told_fits, told_more, told_same}

pub returns-then-raw-le-MAX_OVERFLOW_CELL_NODE_POINTERS-clause-totals : goal.returns-then-raw-le-MAX_OVERFLOW_CELL_NODE_POINTERS-clause-totals
returns-then-raw-le-MAX_OVERFLOW_CELL_NODE_POINTERS-clause-totals c =
    let page = rw c.bytes-body.ensures.bytes at c.bytes-body.ensures.size in
    (told_few c.needed_pages-raw.ensures page c.requires.some c.requires.few c.if-raw-le-MAX_OVERFLOW_CELL_NODE_POINTERS.true).are

pub returns-then-numbers-left-clause-totals : goal.returns-then-numbers-left-clause-totals
returns-then-numbers-left-clause-totals c =
    let page = rw c.bytes-body.ensures.bytes at c.bytes-body.ensures.size in
    (told_fits c.needed_pages-raw.ensures page c.requires.some c.requires.few c.if-raw-le-MAX_OVERFLOW_CELL_NODE_POINTERS.false (rw c.bytes-body.ensures.bytes at c.if-numbers-left.true)).are

pub returns-then-body-more-clause-totals : goal.returns-then-body-more-clause-totals
returns-then-body-more-clause-totals c =
    let same = c.bytes-body.ensures.bytes in
    rw same (told_more c.needed_pages-raw.ensures (rw same at c.bytes-body.ensures.size) c.requires.some c.requires.few c.if-raw-le-MAX_OVERFLOW_CELL_NODE_POINTERS.false (rw same at c.if-numbers-left.false) (rw same at c.if-body-more.true)).are

pub returns-then-body-more-clause-room : goal.returns-then-body-more-clause-room
returns-then-body-more-clause-room c =
    let same = c.bytes-body.ensures.bytes in
    rw same (told_more c.needed_pages-raw.ensures (rw same at c.bytes-body.ensures.size) c.requires.some c.requires.few c.if-raw-le-MAX_OVERFLOW_CELL_NODE_POINTERS.false (rw same at c.if-numbers-left.false) (rw same at c.if-body-more.true)).room

pub returns-else-body-more-clause-totals : goal.returns-else-body-more-clause-totals
returns-else-body-more-clause-totals c =
    let same = c.bytes-body.ensures.bytes in
    rw same (told_same c.needed_pages-raw.ensures (rw same at c.bytes-body.ensures.size) c.requires.some c.requires.few c.if-raw-le-MAX_OVERFLOW_CELL_NODE_POINTERS.false (rw same at c.if-numbers-left.false) (rw same at c.if-body-more.false)).are

pub returns-else-body-more-clause-room : goal.returns-else-body-more-clause-room
returns-else-body-more-clause-room c =
    let same = c.bytes-body.ensures.bytes in
    rw same (told_same c.needed_pages-raw.ensures (rw same at c.bytes-body.ensures.size) c.requires.some c.requires.few c.if-raw-le-MAX_OVERFLOW_CELL_NODE_POINTERS.false (rw same at c.if-numbers-left.false) (rw same at c.if-body-more.false)).room
