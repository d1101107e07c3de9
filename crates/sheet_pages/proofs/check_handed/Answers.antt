use Rattle.refusal.specs.Laws.Refusal.{exit, then_err, then_ok}
use Rattle.sheet_pages.specs.Call.{handed_refusal}
use Rattle.sheet_pages.proofs.check_handed.Goals as goal

pub returns-in_err-check : goal.returns-in_err-check
unfolding handed_refusal
returns-in_err-check c = exit _ _ _ c.from_residual.ensures.1 (then_err _ _ _ c.in_err-check.ensures)

pub returns-in_err-check_marks : goal.returns-in_err-check_marks
unfolding handed_refusal
returns-in_err-check_marks c =
    exit _ _ _ c.from_residual-in_err-check_marks.ensures.1
    (then_ok _ _ _ c.in_ok-check.ensures (then_err _ _ _ c.in_err-check_marks.ensures))

pub returns : goal.returns
unfolding handed_refusal
returns c =
    then_ok _ _ _ c.in_ok-check.ensures (then_ok _ _ _ c.in_ok-check_marks.ensures c.check_mark_values.ensures)
