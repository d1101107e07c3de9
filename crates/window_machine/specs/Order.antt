-- The order that the machine's window stands in: "smallest stamp first" needs no search, because each entry is entered
-- behind all others "with the clock as stamp".
use Rattle.std.specs.Prelude.{ℕ, ◌<◌, ◌≤◌}
use mathlib.Core.List.{List, [], ◌∷◌, Memᴰ}
use Rattle.window_machine.specs.Machine.{Entry, State}

abbrev pub Mem : Entry → List Entry → Type 0
Mem e es = Memᴰ e es

-- each timestamp is below those behind it
abbrev pub Rising : List Entry → Type 0
Rising [] = Unit {0}
Rising (x ∷ xs) = ((e : Entry) → Mem e xs → x.timestamp < e.timestamp) × Rising xs

-- no timestamp of the window is above the clock
abbrev pub Stamped : List Entry → ℕ → Type 0
Stamped W t = (e : Entry) → Mem e W → e.timestamp ≤ t

-- between two reads: the window's timestamps rise, and none is above the clock
pub record Ordered (st : State) : Type 0 where
  pub rises : Rising st.window
  pub given : Stamped st.window st.clock
