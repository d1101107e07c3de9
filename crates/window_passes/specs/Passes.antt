-- What the passes over the rows of a level table promise, of the machine m before and m' after.
use Rattle.std.specs.Prelude.{ℕ, ◌+◌, ◌*◌, ◌≤◌, ◌<◌, ◌≡◌, List, get_or, length}
use Rattle.limits.specs.Limits.{max_runs, max_window, u32_end}
use Rattle.window_machine.specs.Order.{Ordered}
use Rattle.window_machine.specs.Machine.{pass, passes}
use Rattle.window_entries.specs.Entries.{entries}
use Rattle.window_step.specs.Reads.{clock_end, count_end, state_held, dominates_in, Same}
use Rattle.window_step.specs.declared.Machine.{Machine}

-- rows that can wait behind a window of w entries: their numbers fit 32 bits, and there is room for them
pub record Waits (w : ℕ) (rows : List ℕ) (size : ℕ) : Type 0 where
  pub narrow : w ≤ max_window
  pub few : length rows ≤ max_runs
  pub small : (i : ℕ) → i < length rows → get_or rows i 0 < u32_end
  pub room : 2 * (w + length rows) ≤ size

-- a pass over the n entries that wait may begin
pub record PassReady (n : ℕ) (m : Machine) : Type 0 where
  pub rows : n ≤ max_runs
  pub none : m.standing.overflow ≡ 0
  pub room : 2 * (m.capacity + n) ≤ length m.work.now
  pub early : m.standing.clock + n < clock_end
  pub small : m.standing.count + max_window * n < count_end

-- the n entries that waited were read
pub record Passed (n : ℕ) (m m' : Machine) : Type 0 where
  pub same : Same m m'
  pub state : state_held m' ≡ pass (dominates_in m) m.capacity (entries m.work.now m.capacity n) (state_held m)
  pub ordered : Ordered (state_held m')
  pub few : m'.standing.overflow ≤ n
  pub ticks : m'.standing.clock ≡ m.standing.clock + n
  pub small : m'.standing.count ≤ m.standing.count + max_window * n

-- the passes may begin, from a standing of zeros
pub record RunReady (n fuel : ℕ) (m : Machine) : Type 0 where
  pub zeros : m.standing ≡ record { occupied = 0; overflow = 0; clock = 0; count = 0 }
  pub rows : n ≤ max_runs
  pub turns : fuel ≤ max_runs * max_runs + 1
  pub room : 2 * (m.capacity + n) ≤ length m.work.now

-- the passes were made
pub record PassesRan (n fuel : ℕ) (m m' : Machine) : Type 0 where
  pub marks_same : m'.marks.ghost_name ≡ m.marks.ghost_name
  pub count_is : m'.standing.count
      ≡ (passes (dominates_in m) m.capacity fuel (entries m.work.now m.capacity n) (state_held m)).count
  pub marks_are : m'.marks.now
      ≡ (passes (dominates_in m) m.capacity fuel (entries m.work.now m.capacity n) (state_held m)).marks
