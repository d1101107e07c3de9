use Rattle.std.proofs.Common.{sym, ◌∙◌}
use Rattle.window_passes.proofs.Rows.{mark_read}
use Rattle.window_passes.proofs.release_all.Goals as goal

pub loop-i-preserved : goal.loop-i-preserved
loop-i-preserved c =
    rw c.put.ensures (sym (mark_read _ _ _ c.loop-i.marks c.loop-i-test.true _ c.entry_at-entry.ensures) ∙ c.loop-i.invariant)
