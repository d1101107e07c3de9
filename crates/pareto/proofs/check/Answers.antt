use Rattle.refusal.specs.Laws.Refusal.{exit, then_err, then_ok}
use Rattle.pareto.proofs.check.Goals as goal

pub returns-in_err-check : goal.returns-in_err-check
returns-in_err-check c = exit _ _ _ c.from_residual.ensures.1 (then_err _ _ _ c.in_err-check.ensures)

pub returns : goal.returns
returns c = then_ok _ _ _ c.in_ok-check.ensures c.check-2.ensures
