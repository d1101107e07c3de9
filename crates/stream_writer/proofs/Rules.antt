-- What several functions' proofs use.
use Rattle.std.proofs.Common.{get_or-take}
use Rattle.output.specs.Laws.Writes.{writing}

-- the first places of an array, put out one after the other
pub ruleset places = (writing, get_or-take)
