use Rattle.std.proofs.Common.{sym, ◌∙◌}
use Rattle.std.proofs.lemmas.Result.{err_from_is_err_and}
use Rattle.refusal.specs.Refusal.{outcome_of}
use Rattle.refusal.specs.Laws.Refusal.{number_some}
use Rattle.sheet_pages.specs.Laws.Left.{handed_few, handed_refused, handed_printed}
use Rattle.sheet_pages.proofs.print.Goals as goal

pub returns-in_err-check_handed : goal.returns-in_err-check_handed
returns-in_err-check_handed c =
    let a = c.args in
    let p = err_from_is_err_and c.from_residual.result c.from_residual.ensures.1 in
    rw (p.1, p.2)
    (handed_refused a.log.now a.marks.now a.out.now _ c.in_err-check_handed.ensures (number_some _))

pub marked_rows-requires : goal.marked_rows-requires
marked_rows-requires c = handed_few c.args.log.now c.args.marks.now (sym c.in_ok-check_handed.ensures)

pub returns : goal.returns
returns c =
    let a = c.args in
    handed_printed a.log.now a.marks.now a.out.now _ _ (outcome_of c.print_rows.result)
    (sym c.in_ok-check_handed.ensures) (c.as_slice.ensures.value ∙ c.marked_rows.ensures) c.print_rows.ensures
