use Rattle.window_entries.proofs.Releasing.{unreleased}
use Rattle.window_entries.proofs.release.Goals as goal

pub returns-then-timestamp-entry_at : goal.returns-then-timestamp-entry_at
returns-then-timestamp-entry_at c = unreleased _ _ _ _ c.requires.1 _ c.entry_at.ensures c.if-timestamp-entry_at.true
