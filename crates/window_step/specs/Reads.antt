-- What the machine's methods promise, of the machine m before and m' after.
use Rattle.std.specs.Prelude.{ℕ, ◌+◌, ◌*◌, ◌≤◌, ◌<◌, ◌≡◌, Bool, List, length}
use Rattle.limits.specs.Limits.{max_runs, max_window}
use Rattle.window_machine.specs.Machine.{Entry, State, judge, read}
use Rattle.window_entries.specs.Entries.{entry_at}
use Rattle.window_step.specs.Work.{table_dominates, state_of}
use Rattle.window_step.specs.declared.Machine.{Machine}
use Rattle.window_step.specs.declared.Standing.{Standing}

-- the state that the work list l, the marks m and a standing hold
abbrev pub state_at : ℕ → List ℕ → List ℕ → Standing → State
state_at w l m p = state_of w l m p.occupied p.overflow p.clock p.count

-- the state that a machine holds
abbrev pub state_held : Machine → State
state_held m = state_at m.capacity m.work.now m.marks.now m.standing

-- row a of the machine's table dominates row b
abbrev pub dominates_in : Machine → ℕ → ℕ → Bool
dominates_in m = table_dominates m.table.now

-- the clock and the count stay below these, far from where their numbers end
abbrev pub clock_end : ℕ
clock_end = 2000000000

abbrev pub count_end : ℕ
count_end = 1000000000000000

-- there is room for one more entry, and no number is near its end
pub record Ready (m : Machine) : Type 0 where
  pub few : m.standing.overflow < max_runs
  pub room : 2 * (m.capacity + m.standing.overflow) + 1 < length m.work.now
  pub early : m.standing.clock < clock_end
  pub small : m.standing.count < count_end

-- it has the same table, capacity, work list and marks, whatever is in the lists; what its flags hold between reads is
-- free
pub record Same (m m' : Machine) : Type 0 where
  pub table : m'.table.now ≡ m.table.now
  pub capacity : m'.capacity ≡ m.capacity
  pub work : m'.work.ghost_name ≡ m.work.ghost_name
  pub marks : m'.marks.ghost_name ≡ m.marks.ghost_name
  pub work_long : length m'.work.now ≡ length m.work.now
  pub marks_long : length m'.marks.now ≡ length m.marks.now

-- how far it has come by one read
pub record Onward (m m' : Machine) : Type 0 where
  pub few : m'.standing.overflow ≤ m.standing.overflow + 1
  pub ticks : m'.standing.clock ≡ m.standing.clock + 1
  pub small : m'.standing.count ≤ m.standing.count + max_window
  pub rest : (j : ℕ) → m.capacity + m.standing.overflow + 1 ≤ j → entry_at m'.work.now j ≡ entry_at m.work.now j

-- row r was judged
pub record Judged (r : ℕ) (m m' : Machine) : Type 0 where
  pub same : Same m m'
  pub state : state_held m' ≡ judge (dominates_in m) m.capacity r (state_held m)
  pub onward : Onward m m'

-- x was read
pub record Read (x : Entry) (m m' : Machine) : Type 0 where
  pub same : Same m m'
  pub state : state_held m' ≡ read (dominates_in m) m.capacity x (state_held m)
  pub onward : Onward m m'
