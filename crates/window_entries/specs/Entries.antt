-- The entries that a work list holds, and what taking some out promises. Entry i is its row at 2 i and its timestamp at
-- 2 i + 1.
use Rattle.std.specs.Prelude.{ℕ, zero, suc, ◌+◌, ◌*◌, ◌≤◌, ◌<◌, ◌≡◌, Bool, true, not, List, [], ◌∷◌, get_or, set, length}
use Rattle.pareto.specs.Table.{second_dominates}
use Rattle.pareto.specs.declared.table.Relation.{Relation}
use Rattle.pareto.specs.declared.table.Relation.TheVariants.{Equal}
use Rattle.window_machine.specs.Machine.{Entry, keep, marked, older, younger}
use Rattle.window_entries.specs.declared.Entry as held

-- the machine's entry that an entry is
abbrev pub entry_of : held.Entry → Entry
entry_of e = record { row = e.row; timestamp = e.timestamp }

unfoldable pub entry_at : List ℕ → ℕ → Entry
entry_at l i = record { row = get_or l (2 * i) 0; timestamp = get_or l (2 * i + 1) 0 }

-- n entries from entry i on
unfoldable pub entries : List ℕ → ℕ → ℕ → List Entry
entries l i zero = []
entries l i (suc n) = entry_at l i ∷ entries l (suc i) n

-- an entry stored at place i
unfoldable pub put_entry : List ℕ → ℕ → ℕ → ℕ → List ℕ
put_entry l i r s = set (set l (2 * i) r) (2 * i + 1) s

-- a work list has room for n entries
abbrev pub Holds : List ℕ → ℕ → Type 0
Holds l n = 2 * n ≤ length l

-- a test of entries
abbrev pub Test : Type 0
Test = Entry → Bool

-- ---- what each function promises, of the work list l before and l' after it

-- the first n entries filtered by p: m of them stay, and the entries behind are as they were
pub record Filtered (p : Test) (l l' : List ℕ) (n m : ℕ) : Type 0 where
  pub few : m ≤ n
  pub long : length l' ≡ length l
  pub kept : entries l' 0 m ≡ keep p (entries l 0 n)
  pub rest : (j : ℕ) → n ≤ j → entry_at l' j ≡ entry_at l j

-- the first n entries were released by a row with timestamp s: m of them stay, the rows of the others are marked
pub record Released (s : ℕ) (l l' : List ℕ) (n m : ℕ) (marks marks' : List ℕ) : Type 0 where
  pub filtered : Filtered (younger s) l l' n m
  pub marks_are : marks' ≡ marked (keep (older s) (entries l 0 n)) marks

-- the test p takes no entry out before place i of n, and from there on the flag of one that the row dominates says that
-- it does
pub record Flags (p : Test) (l : List ℕ) (i n : ℕ) (flags : List Relation) : Type 0 where
  pub front : (j : ℕ) → j < i → p (entry_at l j) ≡ true
  pub told : (j : ℕ) → i ≤ j → j < n → second_dominates (get_or flags j Equal) ≡ not (p (entry_at l j))
