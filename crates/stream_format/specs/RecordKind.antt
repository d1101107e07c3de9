-- Document 01, "Runs and records": the kinds that records have, by the first column of its table of kinds.
use Rattle.std.specs.Prelude.{◌≡◌, ℕ, Result, MatchResult}
use Rattle.refusal.specs.declared.Refusal.{Refusal}
use Rattle.refusal.specs.declared.Refusal.TheVariants.{UnknownKind}
use Rattle.stream_format.specs.Kinds.{Kind, Unknown, kind_of}
use Rattle.stream_format.specs.declared.RecordKind.{RecordKind}
use Rattle.stream_format.specs.declared.RecordKind.TheVariants.{Lowest, Highest, Around, Between, Layered, Named, Run}
use Rattle.stream_format.specs.declared.RecordKind.TheVariants.{BetweenTrivial}

-- "01 LOWEST", and so on to "07 RUN"; document 02, order 2, adds "Kind 08"
abbrev pub kind_number : RecordKind → ℕ
kind_number Lowest = 1
kind_number Highest = 2
kind_number Around = 3
kind_number Between = 4
kind_number Layered = 5
kind_number Named = 6
kind_number Run = 7
kind_number BetweenTrivial = 8

-- its row of the table
abbrev pub row_of : RecordKind → Kind
row_of kind = kind_of (kind_number kind)

-- what a byte is read as: the kind whose byte it is, or 2, "unknown kind", where the table knows none
abbrev pub read_as : ℕ → Result RecordKind Refusal → Type 0
read_as byte read =
    MatchResult read (λ kind. kind_number kind ≡ byte) (λ why. (why ≡ UnknownKind) × ((kind_of byte).class ≡ Unknown))
