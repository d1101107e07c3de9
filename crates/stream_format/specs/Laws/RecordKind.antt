-- What the table of kinds has for each kind of a record.
use Rattle.std.specs.Prelude.{◌≡◌, refl, false}
use Rattle.stream_format.specs.Kinds.{kinds, kind_of}
use Rattle.stream_format.specs.Read.{is_unknown}
use Rattle.stream_format.specs.RecordKind.{row_of}
use Rattle.stream_format.specs.declared.RecordKind.{RecordKind}
use Rattle.stream_format.specs.declared.RecordKind.TheVariants.{Lowest, Highest, Around, Between, Layered, Named, Run}
use Rattle.stream_format.specs.declared.RecordKind.TheVariants.{BetweenTrivial}

-- the table knows each of them
pub known : (k : RecordKind) → is_unknown (row_of k).class ≡ false
unfolding kind_of kinds
known Lowest = refl
known Highest = refl
known Around = refl
known Between = refl
known Layered = refl
known Named = refl
known Run = refl
known BetweenTrivial = refl
