-- The rows that bytes mark.
use Rattle.std.specs.Prelude.{ℕ, Bool, List, eqb, get_or}
use Rattle.laws.specs.Laws.Passing.{Passing, passing_in_order}
use Rattle.run_log.specs.Log.{marked_rows}

abbrev pub is_marked : List ℕ → ℕ → Bool
is_marked marks r = eqb (get_or marks r 0) 1

-- every marked row once, in order, and no other row
pub marked_in_order : (marks : List ℕ) (n : ℕ) → Passing (is_marked marks) n (marked_rows marks n)
unfolding marked_rows
marked_in_order marks n = passing_in_order (is_marked marks) n
