use Rattle.std.specs.Prelude.{◌≡◌, refl, ℕ, List, eqb, count_by, take, length}
use Rattle.std.proofs.Common.{ap, arith, ◌∙◌}
use Rattle.laws.specs.Laws.Places.{count_passing}
use Rattle.run_log.specs.Log.{row_count, marked_rows}
use Rattle.run_log.specs.Laws.Marks.{marked_in_order}
use Rattle.selection.proofs.count_marked.Goals as goal

-- the count of the marks is that of the rows that they mark
counted : (marks : List ℕ) (n k : ℕ) → k ≡ count_by (λ m. eqb m 1) (take n marks) → k ≡ length (marked_rows marks n)
unfolding marked_rows
counted marks n k e = e ∙ count_passing (λ m. eqb m 1) 0 marks n refl

pub overflow_cast-result : goal.overflow_cast-result
overflow_cast-result c =
    let n = row_count c.args.log.now in
    let e = counted c.args.marks.now n c.count_ones.result (c.count_ones.ensures
    ∙ ap (λ k. count_by (λ m. eqb m 1) (take k c.args.marks.now)) c.row_count.ensures) in
    omega (arith, e, (marked_in_order c.args.marks.now n).few)

pub returns : goal.returns
returns c = counted c.args.marks.now (row_count c.args.log.now) c.count_ones.result (c.count_ones.ensures
    ∙ ap (λ k. count_by (λ m. eqb m 1) (take k c.args.marks.now)) c.row_count.ensures)
