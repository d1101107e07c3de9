use Rattle.std.specs.Prelude.{ℕ, ◌≡◌}
use Rattle.level_table.specs.Filled.{with_part, LevelsBy}
use Rattle.level_table.proofs.fill_column.Given as goal

abbrev pub invariant-loop-r : goal.invariant-loop-r
invariant-loop-r g l =
    (f : ℕ → ℕ) → LevelsBy (goal.F-post g l.level_of) l.log l.column f → l.table ≡ with_part f l.into l.r l.initial.table
