-- Every theorem at every page size, from the laws that prove it, and so at the two of the C interface. Assumes nothing.
use Rattle.page.proofs.PageSizeLaws.{page-size, panel-size}
use Rattle.free_list.proofs.RepeatsLaws.{read_shape, read_tables_differ}
use Rattle.finisher.proofs.FinishedLaws.{finish_shape, finish_conserves, finish_differs}
use Rattle.finisher.proofs.ReadBackLaws.{finished-reads}
use Rattle.overflow.proofs.NewTotalLaws.{least, one_less}
use Rattle.overflow.proofs.WrittenLaws.{page_for_each, none_empty, never_empty, page_taken}
use Rattle.overflow.proofs.SpareLaws.{spare_is_left, page_whole, bodies_whole}
use Rattle.overflow.proofs.ReadBackLaws.{reads_back, deletes_all, one_total}
use Rattle.overflow.proofs.DeleteLaws.{delete_knows}
use Rattle.rollback.specs.Sizes.{AtEverySize, AtBothSizes}
use Rattle.rollback.proofs.RollbackLaws.{rollback}
use Rattle.rollback.proofs.SeasonsLaws.{seasons_good, every_cut}
use Rattle.rollback.proofs.HandedOutLaws.{read_hands_out, finish_hands_out}
use Rattle.rollback.proofs.BridgeLaws.{code_runs, read_gets, read_opens, written-value, code_rollback}

pub at_every_size : AtEverySize
at_every_size s size =
    record {
      read_shape = read_shape s;
      read_differs = read_tables_differ s;
      finish_shape = finish_shape size;
      finish_conserves = finish_conserves size;
      finish_differs = finish_differs size;
      finish_reads_back = finished-reads s size;
      least = least size;
      one_less = one_less size;
      page_for_each = page_for_each size;
      none_empty = none_empty size;
      never_empty = never_empty size;
      page_taken = page_taken size;
      spare_is_left = spare_is_left size;
      page_whole = page_whole size;
      bodies_whole = bodies_whole size;
      reads_back = reads_back size;
      deletes_all = deletes_all size;
      one_total = one_total s;
      delete_knows = delete_knows s;
      rollback = rollback size;
      seasons_good = seasons_good size;
      every_cut = every_cut size;
      read_hands_out = read_hands_out size;
      finish_hands_out = finish_hands_out size;
      code_runs = code_runs size;
      read_gets = read_gets s;
      read_opens = read_opens s;
      written_reads = written-value size;
      code_rollback = code_rollback size;
    }

pub at_both_sizes : AtBothSizes
at_both_sizes = (at_every_size _ page-size, at_every_size _ panel-size)
