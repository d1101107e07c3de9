-- What compares of a row with the n entries of a window l promise.
use Rattle.std.specs.Prelude.{ℕ, ◌+◌, ◌-◌, ◌*◌, ◌≤◌, ◌<◌, ◌≡◌, Bool, true, false, List, Option, Some, None, get_or}
use Rattle.pareto.specs.Table.{compared}
use Rattle.pareto.specs.declared.table.Relation.{Relation}
use Rattle.window_machine.specs.Machine.{dominated, compares, spares}
use Rattle.window_entries.specs.Entries.{entry_at, entries, Flags}
use Rattle.window_step.specs.Work.{table_dominates}
use Rattle.window_step.specs.declared.scanning.Front.{Front}
use Rattle.window_step.specs.declared.scanning.Verdict.{Verdict}
use Rattle.window_step.specs.declared.scanning.Verdict.TheVariants.{Dropped, Spares, Removes}

-- row r was compared with the first i entries, and none of them dominates it
pub record Undropped (dom : ℕ → ℕ → Bool) (r : ℕ) (l : List ℕ) (n i : ℕ) : Type 0 where
  pub within : i ≤ n
  pub dominated_left : dominated dom r (entries l i (n - i)) ≡ dominated dom r (entries l 0 n)
  pub compares_left : i + compares dom r (entries l i (n - i)) ≡ compares dom r (entries l 0 n)

-- nor does row r dominate one of them
pub record Apart (dom : ℕ → ℕ → Bool) (r : ℕ) (l : List ℕ) (n i : ℕ) : Type 0 where
  pub undropped : Undropped dom r l n i
  pub spared : (j : ℕ) → j < i → spares dom r (entry_at l j) ≡ true

-- a front: the entries before it are apart from row r, and how the one there and the row stand is known
pub record FrontAt (t : List ℕ) (r : ℕ) (l : List ℕ) (n : ℕ) (f : Front) : Type 0 where
  pub is_entry : f.at < n
  pub apart : Apart (table_dominates t) r l n f.at
  pub relation_is : f.relation ≡ compared t (get_or l (2 * f.at) 0) r

-- a front, or all entries are apart from row r
abbrev pub Fronted : List ℕ → ℕ → List ℕ → ℕ → Option Front → Type 0
Fronted t r l n None = Apart (table_dominates t) r l n n
Fronted t r l n (Some f) = FrontAt t r l n f

-- an entry dominates row r, after so many compares
pub record DroppedAfter (dom : ℕ → ℕ → Bool) (r : ℕ) (l : List ℕ) (n k : ℕ) : Type 0 where
  pub dominated_is : dominated dom r (entries l 0 n) ≡ true
  pub count_is : k ≡ compares dom r (entries l 0 n)

-- no entry does, of n compares
pub record Undominated (dom : ℕ → ℕ → Bool) (r : ℕ) (l : List ℕ) (n : ℕ) : Type 0 where
  pub dominated_is : dominated dom r (entries l 0 n) ≡ false
  pub count_is : n ≡ compares dom r (entries l 0 n)

-- nor does row r dominate one
pub record SparesAll (dom : ℕ → ℕ → Bool) (r : ℕ) (l : List ℕ) (n : ℕ) : Type 0 where
  pub undominated : Undominated dom r l n
  pub spared : (j : ℕ) → j < n → spares dom r (entry_at l j) ≡ true

-- the flags tell those that row r dominates, which stand from place i on
pub record RemovesFrom (dom : ℕ → ℕ → Bool) (r : ℕ) (l : List ℕ) (n i : ℕ) (flags : List Relation) : Type 0 where
  pub undominated : Undominated dom r l n
  pub few : i ≤ n
  pub flags_are : Flags (spares dom r) l i n flags

-- row r was compared with the entries
abbrev pub Scanned : (ℕ → ℕ → Bool) → ℕ → List ℕ → ℕ → List Relation → Verdict → Type 0
Scanned dom r l n flags (Dropped k) = DroppedAfter dom r l n k
Scanned dom r l n flags Spares = SparesAll dom r l n
Scanned dom r l n flags (Removes i) = RemovesFrom dom r l n i flags
