-- What a marked case asks, and the answer that the definitions give.
use Rattle.std.specs.Prelude.{ℕ, List, [], ◌∷◌, ◌≡◌, ℤ}
use Rattle.laws.specs.Outcome.{Outcome, outcome}
use Rattle.run_log.specs.Log.{Log}
use Rattle.preference.specs.Level.{told_at, level_refusal, max_at}
use Rattle.preference.specs.Parts.{levels}
use Rattle.pareto.specs.Best.{marks_of}
use Rattle.lattice_nodes.specs.Lattice.{node_count, crossings, bound}
use Rattle.lattice.specs.Walked.{lattice_tops, lattice_rows}
use Rattle.lattice.specs.Engine.{lattice_refusal}
use Rattle.window.specs.Engine.{window_refusal, machine_of}
use Rattle.preference.specs.declared.PreferenceList.{PreferenceList}
use Rattle.preference.specs.declared.Told.{Told}

pub data Question : Type 0 where
  -- the level of a value under the preference at a place, and its side
  level_asked : PreferenceList → ℕ → ℤ → Question
  -- the level parts of a value under the one preference of a list, in its column
  parts_asked : PreferenceList → List ℤ → Question
  -- M of the preference at a place
  max_asked : PreferenceList → ℕ → Question
  -- the marks of a log
  marks_asked : PreferenceList → Log → Question
  -- the marks that the window machine leaves, with a window
  machine_asked : PreferenceList → Log → ℕ → Question
  -- the nodes of a list's lattice, a log's crossings, and their bound
  lattice_asked : PreferenceList → Log → Question
  -- a call of the lattice engine, with so many mark bytes and node bytes, and a budget
  lattice_called : PreferenceList → Log → ℕ → ℕ → ℕ → Question
  -- a call of the window engine, with so many mark bytes and numbers in the work list, and a window
  window_called : PreferenceList → Log → ℕ → ℕ → ℕ → Question

pub data Answer : Type 0 where
  ends : Outcome ℕ → Answer
  tells : Outcome Told → Answer
  figure : ℕ → Answer
  figures : List ℕ → Answer

unfoldable pub answer : Question → Answer
answer (level_asked l i v) = tells (outcome (level_refusal l i v) (told_at l i v))
answer (parts_asked l row) = figures (levels l row)
answer (max_asked l i) = figure (max_at l i)
answer (marks_asked l log) = figures (marks_of l log)
answer (machine_asked l log w) = figures (machine_of l log w).marks
answer (lattice_asked l log) =
    figures (node_count (lattice_tops l) ∷ crossings (lattice_tops l) (lattice_rows l log) ∷ bound
    (lattice_tops l) ∷ [])
answer (window_called l log marks work w) = ends
    (outcome (window_refusal l log marks work w) (machine_of l log w).count)
answer (lattice_called l log marks nodes budget) =
    ends (outcome (lattice_refusal l log marks nodes budget) (crossings (lattice_tops l) (lattice_rows l log)))

pub record Case : Type 0 where
  pub asks : Question
  pub expects : Answer

-- the statement that all cases share
unfoldable pub Holds : Case → Type 0
Holds c = answer c.asks ≡ c.expects

-- it holds of every case of a table
abbrev pub Each : List Case → Type 0
Each [] = Unit {0}
Each (c ∷ cs) = Holds c × Each cs
