use Rattle.std.proofs.Common.{ℕ, List, refl, length}
use Rattle.lattice_nodes.specs.Laws.Blocks.{First}
use Rattle.lattice_walk.specs.Blocks.{Small, Rows}
use Rattle.lattice_stretch.specs.Laws.Crossing.{exit}
use Rattle.lattice_walk.proofs.Onward.{parts, weight_some, begin, finish, next_fits, row_stops, row_on}
use Rattle.lattice_walk.proofs.walk_rows.Goals as goal

parts_of : (ws nodes : List ℕ) (f : ℕ) → Small ws (length nodes) → Rows ws nodes f → First ws (length nodes)
parts_of ws nodes f g r = parts ws nodes f g r.later r.reached

pub overflow_step-row : goal.overflow_step-row
overflow_step-row c = weight_some _ _ (parts_of _ _ _ c.requires.small c.requires.rows)

pub nonzero_div-row-end : goal.nonzero_div-row-end
nonzero_div-row-end c = weight_some _ _ (parts_of _ _ _ c.requires.small c.requires.rows)

pub loop-row-init : goal.loop-row-init
loop-row-init c = begin _ _ _ (parts_of _ _ _ c.requires.small c.requires.rows) _ c.requires.rows.first

pub cross_row-requires : goal.cross_row-requires
cross_row-requires c =
    next_fits _ c.args.budget _ (parts_of _ _ _ c.requires.small c.requires.rows) _ c.loop-row-test.true c.requires.small.nodes _ c.loop-row.auto.nodes

pub returns-in_err-budget : goal.returns-in_err-budget
returns-in_err-budget c =
    exit _ _ c.from_residual.ensures.1
    (row_stops _ _ _ (parts_of _ _ _ c.requires.small c.requires.rows) _ c.loop-row-test.true _ _ c.loop-row.auto.nodes c.loop-row.invariant
    c.requires.rows.rows _ _ c.in_err-budget.ensures refl _)

pub loop-row-preserved : goal.loop-row-preserved
loop-row-preserved c =
    row_on _ _ _ (parts_of _ _ _ c.requires.small c.requires.rows) _ c.loop-row-test.true _ _ c.loop-row.auto.nodes c.loop-row.invariant
    c.requires.rows.rows _ _ c.in_ok-budget.ensures

pub returns : goal.returns
returns c =
    finish _ _ _ (parts_of _ _ _ c.requires.small c.requires.rows) _ _ _ _ c.requires.rows.reached c.loop-row.auto.row-end c.loop-row-test.false
    c.loop-row.invariant
