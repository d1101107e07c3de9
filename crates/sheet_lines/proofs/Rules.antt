-- What several functions' proofs use.
use Rattle.output.specs.Laws.Writes.{writing}
use Rattle.sheet_lines.specs.Laws.Turns.{part_rest, text_other, width_other}

-- a text to the right
pub ruleset right = (writing, part_rest)
