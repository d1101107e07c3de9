-- How the engine holds the machine's state. Of the work list's entries the window's stand from entry 0 on, what waits
-- and the overflow from entry w on.
use Rattle.std.specs.Prelude.{ℕ, Bool, List}
use Rattle.pareto.specs.Table.{first_dominates, compared}
use Rattle.window_machine.specs.Machine.{State}
use Rattle.window_entries.specs.Entries.{entries}

-- row a of a level table dominates row b
unfoldable pub table_dominates : List ℕ → ℕ → ℕ → Bool
table_dominates table a b = first_dominates (compared table a b)

-- the state that the work list l and the marks m hold
unfoldable pub state_of : ℕ → List ℕ → List ℕ → ℕ → ℕ → ℕ → ℕ → State
state_of w l m occupied aside clock count =
    record { window = entries l 0 occupied; overflow = entries l w aside; marks = m; clock = clock; count = count }
