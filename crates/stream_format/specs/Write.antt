-- Document 01, "Runs and records": the stream of a list and a log, and what writing it gives.
use Rattle.std.specs.Prelude.{ℕ, List, [], ◌∷◌, ◌++◌, cond, length, ltb, eqb, ℤ}
use Rattle.std.proofs.lemmas.List.Edits.{sets}
use Rattle.word.specs.Word.{word_bytes, int_bytes}
use Rattle.laws.specs.Checks.{◌gives◌, ◌then◌}
use Rattle.laws.specs.Lists.{joined}
use Rattle.run_log.specs.Log.{row_count, row_at, log_refusal}
use Rattle.constructor.specs.declared.Constructor.{Constructor}
use Rattle.constructor.specs.declared.Constructor.TheVariants.{Lowest, Highest, Around, Between, Layered}
use Rattle.constructor.specs.declared.Constructor.TheVariants.{BetweenTrivial}
use Rattle.preference.specs.List.{preference_at, named_at}
use Rattle.preference.specs.Valid.{list_refusal}
use Rattle.preference.specs.declared.Preference.{Preference}
use Rattle.preference.specs.declared.Named.{Named}
use Rattle.preference.specs.declared.PreferenceList.{PreferenceList}

-- ---- the bytes of a record

abbrev pub kind_for : Constructor → ℕ
kind_for (Lowest lo hi step) = 1
kind_for (Highest lo hi step) = 2
kind_for (Around lo hi step z) = 3
kind_for (Between lo hi step low up) = 4
kind_for (Layered top others) = 5
kind_for (BetweenTrivial lo hi step low up) = 8

-- the figures of BETWEEN; document 02, order 2: "Kind 08, refused by 2 until now, has BETWEEN's body."
abbrev pub between_bytes : ℤ → ℤ → ℕ → ℤ → ℤ → List ℕ
between_bytes lo hi step low up = int_bytes lo ++ int_bytes hi ++ word_bytes step ++ int_bytes low ++ int_bytes up

abbrev pub constructor_bytes : Constructor → List ℕ
constructor_bytes (Lowest lo hi step) = int_bytes lo ++ int_bytes hi ++ word_bytes step
constructor_bytes (Highest lo hi step) = int_bytes lo ++ int_bytes hi ++ word_bytes step
constructor_bytes (Around lo hi step z) = int_bytes lo ++ int_bytes hi ++ word_bytes step ++ int_bytes z
constructor_bytes (Between lo hi step low up) = between_bytes lo hi step low up
constructor_bytes (Layered top others) = top ∷ others ∷ []
constructor_bytes (BetweenTrivial lo hi step low up) = between_bytes lo hi step low up

unfoldable pub preference_bytes : Preference → List ℕ
preference_bytes p = kind_for p.constructor ∷ p.column ∷ constructor_bytes p.constructor

unfoldable pub named_bytes : Named → List ℕ
named_bytes e = 6 ∷ int_bytes e.value ++ e.layer ∷ []

unfoldable pub ints_bytes : List ℤ → List ℕ
ints_bytes [] = []
ints_bytes (v ∷ vs) = int_bytes v ++ ints_bytes vs

unfoldable pub run_bytes : List ℤ → List ℕ
run_bytes vs = 7 ∷ ints_bytes vs

-- ---- the stream

-- named value k where it belongs to the preference at place i
abbrev pub named_bytes_of : PreferenceList → ℕ → ℕ → List ℕ
named_bytes_of l i k = cond (eqb (named_at l k).preference i) (named_bytes (named_at l k)) []

-- the preference at place i, and its named values
unfoldable pub preference_records : PreferenceList → ℕ → List ℕ
preference_records l i = preference_bytes (preference_at l i) ++ joined (named_bytes_of l i) l.namedcount

-- row r of a log
abbrev pub row_bytes : List ℤ → ℕ → List ℕ
row_bytes log r = run_bytes (row_at log r)

-- each wish and its named values; "Runs come after all wishes."
unfoldable pub stream_of : PreferenceList → List ℤ → List ℕ
stream_of l log = joined (preference_records l) l.count ++ joined (row_bytes log) (row_count log)

-- ---- what writing gives

-- "Writing makes the checks below up to 10, its output's length included"
unfoldable pub write_refusal : PreferenceList → List ℤ → ℕ → ℕ
write_refusal l log room = list_refusal l then log_refusal log then ltb room (length (stream_of l log)) gives 10

-- "Output past the stream is unchanged." "Nothing lent changes on a refusal"
unfoldable pub out_after : PreferenceList → List ℤ → List ℕ → List ℕ
out_after l log out = cond (eqb (write_refusal l log (length out)) 0) (sets out 0 (stream_of l log)) out
