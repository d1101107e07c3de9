use Rattle.std.proofs.Common.{◌≡◌, sym, rules, length}
use Rattle.run_log.specs.Log.{log_of, marks_refusal}
use Rattle.pareto.specs.Checked.{checked_refusal}
use Rattle.pareto.specs.Laws.Checked.{refused_first, refused_more, by_rows}
use Rattle.lattice.specs.Laws.Ends.{exit, too_many, too_short}
use Rattle.lattice.specs.Laws.Ends as ends
use Rattle.lattice.specs.Laws.Settled.{told, settled}
use Rattle.lattice.proofs.run.Goals.{In_ok-check_rows}
use Rattle.lattice.proofs.run.Goals as goal

-- the checks up to 8 have passed
checked : (c : In_ok-check_rows)
    → checked_refusal c.args.list (log_of c.args.log.now) (marks_refusal c.args.log.now (length c.args.marks.now)) ≡ 0
checked c = sym (by_rows _ _ _ 0 c.in_ok-check.ensures c.in_ok-check_marks.ensures c.in_ok-check_rows.ensures)

-- what a call leaves, clause by clause
by_clauses : {A B : Type 0} → A × B → record { leaves : A; nodes_after : B }
by_clauses e = record { leaves = e.0; nodes_after = e.1 }

pub returns-in_err-check : goal.returns-in_err-check
returns-in_err-check c =
    by_clauses
    (exit _ _ _ _ _ _ _ c.from_residual.ensures.1
    (ends.checks_refuse _ _ _ _ _ _ (refused_first _ _ _ _ c.in_err-check.ensures)))

pub returns-in_err-check_marks : goal.returns-in_err-check_marks
returns-in_err-check_marks c =
    by_clauses
    (exit _ _ _ _ _ _ _ c.from_residual-in_err-check_marks.ensures.1
    (ends.checks_refuse _ _ _ _ _ _ (refused_more _ _ _ _ c.in_ok-check.ensures c.in_err-check_marks.ensures)))

pub returns-in_err-check_rows : goal.returns-in_err-check_rows
returns-in_err-check_rows c =
    by_clauses
    (exit _ _ _ _ _ _ _ c.from_residual-in_err-check_rows.ensures.1
    (ends.checks_refuse _ _ _ _ _ _ (by_rows _ _ _ _ c.in_ok-check.ensures c.in_ok-check_marks.ensures c.in_err-check_rows.ensures)))

pub returns-in_err-weights : goal.returns-in_err-weights
returns-in_err-weights c =
    by_clauses
    (exit _ _ _ _ _ _ _ c.from_residual-in_err-weights.ensures.1
    (too_many _ _ _ _ _ (checked (goal.at.returns-in_err-weights c).In_ok-check_rows) _ c.in_err-weights.ensures.refusal))

pub returns-then-nodes-count : goal.returns-then-nodes-count
returns-then-nodes-count c =
    let w = c.in_ok-weights.ensures.weighed in
    by_clauses
    (too_short _ _ _ _ _ (checked (goal.at.returns-then-nodes-count c).In_ok-check_rows) w.1.few
    (rw w.0 at c.if-nodes-count.true))

pub returns : goal.returns
returns c =
    let w = c.in_ok-weights.ensures.weighed in
    let n = c.row_count-rows.ensures in
    let t : c.map_err.result ≡ told c.walk_rows.result = search rules in
    let e =
    settled c.args.list (log_of c.args.log.now) c.args.marks.now c.args.nodes.now c.args.budget
    (checked (goal.at.returns c).In_ok-check_rows) w.1.few (rw w.0 at c.if-nodes-count.false) _ _ _
    (rw n at c.walk_rows.ensures) in
    record { leaves = rw (t, n) e.0; nodes_after = rw w.0 e.1 }
