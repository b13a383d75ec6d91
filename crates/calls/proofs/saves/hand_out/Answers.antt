-- `hand_out` meets its contract: what was handed out and counted up is told.
use Rattle.calls.proofs.saves.hand_out.Goals as goal
use Rattle.calls.proofs.SavesLaws.{open_save_hands_out}

pub returns : goal.returns
returns c =
    rw (c.report.ensures.status, c.report.ensures.values, c.handed.ensures)
    (open_save_hands_out _ _ c.args.out.now c.hand_out-answer.result c.hand_out-answer.new.self (rw c.save_of-save.ensures at c.hand_out-answer.ensures))
