-- What is shown at a page size, gathered; that it is shown at each page size, and so at the two of the C interface.
use Rattle.std.specs.Prelude.{ℕ}
use Rattle.page.specs.PageSize.{IsPageSize, standard_page_size, panel_page_size}
use Rattle.free_list.specs.Theorems.{ReadShape, ReadDiffers}
use Rattle.finisher.specs.Theorems.{FinishShape, FinishConserves, FinishDiffers, FinishReadsBack}
use Rattle.overflow.specs.Theorems.{Least, OneLess, PageForEach, NoneEmpty, NeverEmpty, PageTaken, SpareIsLeft, PageWhole, BodiesWhole, ReadsBack, DeletesAll, OneTotal, DeleteKnows}
use Rattle.rollback.specs.Rollback.{Rollback}
use Rattle.rollback.specs.Seasons.{SeasonsGood, EveryCut}
use Rattle.rollback.specs.CodeCalls.{CodeRuns, ReadGets, ReadOpens, WrittenReads, CodeRollback}
use Rattle.rollback.specs.HandedOut.{ReadHandsOut, FinishHandsOut}

pub record Shown (s : ℕ) : Type 0 where
  -- lists and finishes
  pub read_shape : ReadShape s
  pub read_differs : ReadDiffers s
  pub finish_shape : FinishShape s
  pub finish_conserves : FinishConserves s
  pub finish_differs : FinishDiffers s
  pub finish_reads_back : FinishReadsBack s
  -- totals and values
  pub least : Least s
  pub one_less : OneLess s
  pub page_for_each : PageForEach s
  pub none_empty : NoneEmpty s
  pub never_empty : NeverEmpty s
  pub page_taken : PageTaken s
  pub spare_is_left : SpareIsLeft s
  pub page_whole : PageWhole s
  pub bodies_whole : BodiesWhole s
  pub reads_back : ReadsBack s
  pub deletes_all : DeletesAll s
  pub one_total : OneTotal s
  pub delete_knows : DeleteKnows s
  -- saves
  pub rollback : Rollback s
  pub seasons_good : SeasonsGood s
  pub every_cut : EveryCut s
  pub read_hands_out : ReadHandsOut s
  pub finish_hands_out : FinishHandsOut s
  -- calls of the code
  pub code_runs : CodeRuns s
  pub read_gets : ReadGets s
  pub read_opens : ReadOpens s
  pub written_reads : WrittenReads s
  pub code_rollback : CodeRollback s

-- at any multiple of 4, up to 65,536, whose list page holds two numbers or more
abbrev pub AtEverySize : Type 0
AtEverySize = (s : ℕ) → IsPageSize s → Shown s

abbrev pub AtBothSizes : Type 0
AtBothSizes = Shown standard_page_size × Shown panel_page_size
