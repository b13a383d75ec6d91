-- The samples of columns and rows: each row is an equation of two terms that compute to the same.
use mathlib.Core.Path.{refl}
use Rattle.page.specs.Bytes.{number_at, numbers_at, bytes_of, bytes_of_all}
use Rattle.columns.specs.Columns.{column, differences, differenced, columns_of, sums, summed, woven, rows_of, rearranged, rearrange_into}
use Rattle.samples.specs.Recordings.{RecordingSamples}

pub recording_samples : RecordingSamples
unfolding number_at numbers_at bytes_of bytes_of_all column differences differenced columns_of sums summed woven rows_of rearranged rearrange_into
recording_samples =
    record {
      columns_made = refl;
      rows_made = refl;
      columns_fit = refl;
      rows_fit = refl;
      no_columns_made = refl;
      no_rows_made = refl;
      half_a_row = refl;
      half_a_row_of_columns = refl;
      row_and_a_half = refl;
      row_and_a_half_of_columns = refl;
      part_of_a_row = refl;
      part_of_columns = refl;
      columns_too_long = refl;
      rows_too_long = refl;
    }
