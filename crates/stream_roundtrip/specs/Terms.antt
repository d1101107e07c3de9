-- The terms of the theorems on reading and writing.
use Rattle.std.specs.Prelude.{◌≡◌, ℕ, ◌*◌, List, ℤ, pos, length, get_or, take}
use Rattle.std.specs.Int.{w32}
use Rattle.std.proofs.Common.{SFits}
use Rattle.constructor.specs.declared.Constructor.{Constructor}
use Rattle.constructor.specs.declared.Constructor.TheVariants.{Lowest, Highest, Around, Between, Layered}
use Rattle.constructor.specs.declared.Constructor.TheVariants.{BetweenTrivial}
use Rattle.preference.specs.List.{constructor_at, named_at}
use Rattle.preference.specs.Valid.{list_refusal}
use Rattle.preference.specs.Same.{Same}
use Rattle.preference.specs.declared.PreferenceList.{PreferenceList}
use Rattle.run_log.specs.Log.{row_count, log_refusal}
use Rattle.stream_format.specs.Read.{read_of, values_of, log_after}
use Rattle.stream_format.specs.Write.{stream_of, out_after}

-- the signed figures of a form are numbers of 32 bits
abbrev pub ConstructorFits : Constructor → Type 0
ConstructorFits (Lowest lo hi step) = SFits w32 lo × SFits w32 hi
ConstructorFits (Highest lo hi step) = SFits w32 lo × SFits w32 hi
ConstructorFits (Around lo hi step z) = SFits w32 lo × SFits w32 hi × SFits w32 z
ConstructorFits (Between lo hi step low up) = SFits w32 lo × SFits w32 hi × SFits w32 low × SFits w32 up
ConstructorFits (Layered top others) = Unit {0}
ConstructorFits (BetweenTrivial lo hi step low up) = SFits w32 lo × SFits w32 hi × SFits w32 low × SFits w32 up

abbrev pub LogFits : List ℤ → Type 0
LogFits log = (j : ℕ) → SFits w32 (get_or log j (pos 0))

-- what the types say of a list and a log: each signed figure is a number of 32 bits. No more of the types is needed
pub record Fits (l : PreferenceList) (log : List ℤ) : Type 0 where
  pub constructors : (i : ℕ) → ConstructorFits (constructor_at l i)
  pub values : (k : ℕ) → SFits w32 (named_at l k).value
  pub numbers : LogFits log

-- s, read where the log has room, is accepted as the list l and the log
pub record ReadsAs (s : List ℕ) (room : ℕ) (l : PreferenceList) (log : List ℤ) : Type 0 where
  pub refusal : (read_of s room).refusal ≡ 0
  pub place : (read_of s room).place ≡ length s
  pub rows : (read_of s room).rows ≡ row_count log
  -- "counted places compared"
  pub list : Same l (read_of s room).list
  pub values : values_of s ≡ log

-- the list l and the log are accepted, and their stream is s
pub record WritesAs (l : PreferenceList) (log : List ℤ) (s : List ℕ) : Type 0 where
  pub list_refusal_lem : list_refusal l ≡ 0
  pub log_refusal_lem : log_refusal log ≡ 0
  pub stream : stream_of l log ≡ s

-- the stream that writing leaves in the output
abbrev pub stream_in : PreferenceList → List ℤ → List ℕ → List ℕ
stream_in l log out = take (length (stream_of l log)) (out_after l log out)

-- the rows that reading leaves in the lent log
abbrev pub log_in : List ℕ → List ℤ → List ℤ
log_in s lent = take (8 * (read_of s (length lent)).rows) (log_after s lent)
