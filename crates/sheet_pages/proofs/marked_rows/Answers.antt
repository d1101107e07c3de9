use Rattle.std.proofs.Common.{arith}
use Rattle.std.proofs.lemmas.Grind.{common_steps}
use Rattle.sheet_pages.proofs.Rules.{listed}
use Rattle.sheet_pages.proofs.marked_rows.Goals.{then-eq, else-eq}
use Rattle.sheet_pages.proofs.marked_rows.Goals as goal

pub loop-r-preserved : goal.loop-r-preserved
loop-r-preserved c = elim c.if-eq.branch [
  | then-eq w ↦ grind (arith, common_steps, listed)
  | else-eq w ↦ grind (arith, common_steps, listed)
]
