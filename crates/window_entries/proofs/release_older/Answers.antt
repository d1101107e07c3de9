use Rattle.std.proofs.Common.{arith}
use Rattle.window_entries.proofs.Releasing.{releasing_start, releasing_more}
use Rattle.window_entries.proofs.release_older.Goals as goal

pub loop-i-init : goal.loop-i-init
loop-i-init c = releasing_start _ _ _ _

pub loop-i-preserved : goal.loop-i-preserved
loop-i-preserved c =
    releasing_more c.loop-i.invariant c.loop-i-test.true c.requires _ c.entry_at-entry.ensures
    (λ h. (grind arith, grind arith, grind arith)) (λ h. (grind arith, grind arith, grind arith))
