-- `write_page` meets its contract: the parts of the page lie within what is lent and fit the page, and are those of the definition.
use Rattle.std.proofs.Common.{length}
use Rattle.overflow.proofs.chunk.write_page.Goals as goal
use mathlib.Core.Path.{refl}
use native.Mathlib.Omega.{arith}
use lib.ListN.{length-take, length-drop}
use Rattle.overflow.proofs.ChunkLaws.{page_parts, page_put}

pub overflow_add-cell : goal.overflow_add-cell
overflow_add-cell c =
    let p = page_parts (length c.args.value.now) c.args.index c.bytes-page_bytes.ensures.bytes c.bytes-page_bytes.ensures.size c.requires.inside c.min-cell.ensures c.numbers_before-from.ensures c.numbers_before-to.ensures c.bytes_before-start.ensures c.bytes_before-end.ensures in
    omega (arith, c.well_formed)

pub overflow_add-cell-2 : goal.overflow_add-cell-2
overflow_add-cell-2 c =
    let p = page_parts (length c.args.value.now) c.args.index c.bytes-page_bytes.ensures.bytes c.bytes-page_bytes.ensures.size c.requires.inside c.min-cell.ensures c.numbers_before-from.ensures c.numbers_before-to.ensures c.bytes_before-start.ensures c.bytes_before-end.ensures in
    omega (arith, c.well_formed)

pub offset_bounds-numbers-cell : goal.offset_bounds-numbers-cell
offset_bounds-numbers-cell c =
    let p = page_parts (length c.args.value.now) c.args.index c.bytes-page_bytes.ensures.bytes c.bytes-page_bytes.ensures.size c.requires.inside c.min-cell.ensures c.numbers_before-from.ensures c.numbers_before-to.ensures c.bytes_before-start.ensures c.bytes_before-end.ensures in
    omega (arith, c.well_formed)

pub slice_bounds-encode_value_page-count : goal.slice_bounds-encode_value_page-count
slice_bounds-encode_value_page-count c =
    let p = page_parts (length c.args.value.now) c.args.index c.bytes-page_bytes.ensures.bytes c.bytes-page_bytes.ensures.size c.requires.inside c.min-cell.ensures c.numbers_before-from.ensures c.numbers_before-to.ensures c.bytes_before-start.ensures c.bytes_before-end.ensures in
    omega (arith, c.well_formed)

pub slice_bounds-encode_value_page-start : goal.slice_bounds-encode_value_page-start
slice_bounds-encode_value_page-start c =
    let p = page_parts (length c.args.value.now) c.args.index c.bytes-page_bytes.ensures.bytes c.bytes-page_bytes.ensures.size c.requires.inside c.min-cell.ensures c.numbers_before-from.ensures c.numbers_before-to.ensures c.bytes_before-start.ensures c.bytes_before-end.ensures in
    omega (arith, c.well_formed)

pub slice_bounds-encode_value_page-end : goal.slice_bounds-encode_value_page-end
slice_bounds-encode_value_page-end c =
    let p = page_parts (length c.args.value.now) c.args.index c.bytes-page_bytes.ensures.bytes c.bytes-page_bytes.ensures.size c.requires.inside c.min-cell.ensures c.numbers_before-from.ensures c.numbers_before-to.ensures c.bytes_before-start.ensures c.bytes_before-end.ensures in
    omega (arith, c.well_formed)

pub slice_bounds-encode_value_page-count-2 : goal.slice_bounds-encode_value_page-count-2
slice_bounds-encode_value_page-count-2 c =
    let p = page_parts (length c.args.value.now) c.args.index c.bytes-page_bytes.ensures.bytes c.bytes-page_bytes.ensures.size c.requires.inside c.min-cell.ensures c.numbers_before-from.ensures c.numbers_before-to.ensures c.bytes_before-start.ensures c.bytes_before-end.ensures in
    omega (arith, c.well_formed)

pub slice_bounds-encode_value_page-start-2 : goal.slice_bounds-encode_value_page-start-2
slice_bounds-encode_value_page-start-2 c =
    let p = page_parts (length c.args.value.now) c.args.index c.bytes-page_bytes.ensures.bytes c.bytes-page_bytes.ensures.size c.requires.inside c.min-cell.ensures c.numbers_before-from.ensures c.numbers_before-to.ensures c.bytes_before-start.ensures c.bytes_before-end.ensures in
    omega (arith, c.well_formed)

pub slice_bounds-encode_value_page-end-2 : goal.slice_bounds-encode_value_page-end-2
slice_bounds-encode_value_page-end-2 c =
    let p = page_parts (length c.args.value.now) c.args.index c.bytes-page_bytes.ensures.bytes c.bytes-page_bytes.ensures.size c.requires.inside c.min-cell.ensures c.numbers_before-from.ensures c.numbers_before-to.ensures c.bytes_before-start.ensures c.bytes_before-end.ensures in
    omega (arith, c.well_formed)

pub encode_value_page-requires-clause-fits : goal.encode_value_page-requires-clause-fits
encode_value_page-requires-clause-fits c =
    let p = page_parts (length c.args.value.now) c.args.index c.bytes-page_bytes.ensures.bytes c.bytes-page_bytes.ensures.size c.requires.inside c.min-cell.ensures c.numbers_before-from.ensures c.numbers_before-to.ensures c.bytes_before-start.ensures c.bytes_before-end.ensures in
    simp (length-take, length-drop) (omega arith)

pub returns : goal.returns
returns c =
    let p = page_parts (length c.args.value.now) c.args.index c.bytes-page_bytes.ensures.bytes c.bytes-page_bytes.ensures.size c.requires.inside c.min-cell.ensures c.numbers_before-from.ensures c.numbers_before-to.ensures c.bytes_before-start.ensures c.bytes_before-end.ensures in
    page_put c.args.index c.bytes-page_bytes.ensures.bytes c.bytes-page_bytes.ensures.size c.args.value.now c.args.numbers.now c.args.page.now p refl c.requires.room c.encode_value_page.ensures
