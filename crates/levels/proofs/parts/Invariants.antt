use Rattle.std.proofs.Common.{◌≡◌, ◌*◌, ◌≤◌, length}
use Rattle.laws.specs.Lists.{joined}
use Rattle.preference.specs.Parts.{max_parts}
use Rattle.levels.proofs.parts.Given as goal

abbrev pub invariant-loop-preference : goal.invariant-loop-preference
invariant-loop-preference l =
    (l.total ≤ 2 * l.preference-index) × (l.total ≡ length (joined (max_parts l.fn.list) l.preference-index))
