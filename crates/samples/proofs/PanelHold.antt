-- The panel's limits and totals: each row is an equation of two terms that compute to the same.
use Prim.Native.Nat.{◌^◌}
use mathlib.Core.Path.{refl}
use native.Mathlib.Omega.{arith}
use Rattle.page.specs.PageSize.{capacity}
use Rattle.page.specs.Bytes.{number_at, numbers_at, bytes_of, bytes_of_all}
use Rattle.page.proofs.PageSizeLaws.{panel-size}
use Rattle.page.specs.Pages.{page_count}
use Rattle.free_list.specs.Reading.{count_fits}
use Rattle.overflow.specs.Totals.{max_size, holds, first_from, new_total, raw_pages, old_total, spare_room, total_of, page_total}
use Rattle.overflow.specs.ValuePages.{number_count, byte_count}
use Rattle.overflow.specs.Cells.{cell_bytes, cell_size, cell_count, cell_of, decode_cell, encode_cell, encode_cell_into, decode_cell_into}
use Rattle.overflow.specs.Reading.{parse_page}
use Rattle.samples.specs.Panel.{PanelSamples}
use Rattle.samples.proofs.LargeTotals.{large}

pub panel_samples : PanelSamples
unfolding capacity page_count count_fits number_at numbers_at bytes_of bytes_of_all number_count byte_count max_size holds first_from new_total raw_pages old_total spare_room total_of page_total cell_bytes cell_size cell_count cell_of decode_cell encode_cell encode_cell_into decode_cell_into parse_page
panel_samples =
    record {
      body_of_a_page = refl;
      entries_on_a_page = refl;
      numbers_on_a_page = refl;
      entries_254 = refl;
      entries_255 = refl;
      entries_253_under_one = refl;
      entries_252_under_one = refl;
      entries_253_under_two = refl;
      pages_of_2047_bytes = refl;
      pages_of_2048_bytes = refl;
      numbers_255 = refl;
      numbers_256 = refl;
      bytes_1020 = refl;
      bytes_1021 = refl;
      largest = refl;
      largest_a_word_less = refl;
      largest_a_word_more = refl;
      largest_standard = refl;
      total_0 = refl;
      total_1 = refl;
      total_15300 = refl;
      total_15301 = refl;
      total_16316 = refl;
      total_16317 = refl;
      total_274378 = large panel-size 274378 (omega arith) refl refl;
      total_274379 = large panel-size 274379 (omega arith) refl refl;
      total_274380 = large panel-size 274380 (omega arith) refl refl;
      total_274381 = large panel-size 274381 (omega arith) refl refl;
      total_largest = large panel-size (2 ^ 20) (omega arith) refl refl;
      total_too_large = refl;
      cell_written = refl;
      cell_not_written = refl;
      cell_read = refl;
      cell_not_read = refl;
    }
