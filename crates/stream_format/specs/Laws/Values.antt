-- The values of a stream's runs, record by record.
use Rattle.std.specs.Prelude.{◌≡◌, refl, ℕ, zero, suc, ◌*◌, ◌≤◌, List, [], length, drop}
use Rattle.std.proofs.Common.{arith, drop_of_length-le}
use Rattle.stream_format.specs.Kinds.{kinds, kind_of, kind_byte, class_of, body_of}
use Rattle.stream_format.specs.Read.{ints_at, values_under, values_from}
use Rattle.stream_format.specs.Laws.Kinds.{values_in, body_holds}
use Rattle.stream_format.specs.Kinds.{Class}
use Rattle.stream_format.specs.Kinds.{Unknown, PreferenceRecord, NamedRecord, RunRecord}

values_in_lem : (class : Class) (bs : List ℕ) → length (values_under class bs) ≡ values_in class
unfolding ints_at
values_in_lem Unknown bs = refl
values_in_lem PreferenceRecord bs = refl
values_in_lem NamedRecord bs = refl
values_in_lem RunRecord bs = refl

pub values_counted : (bs : List ℕ) → 4 * length (values_under (class_of bs) bs) ≤ body_of bs
values_counted bs = omega (arith, values_in_lem (class_of bs) bs, body_holds (kind_byte bs))

none : (n : ℕ) → values_from n [] ≡ []
unfolding values_from kind_of kinds
none zero = refl
none (suc n) = none n

-- nothing follows the end
pub values_end : (n at : ℕ) (s : List ℕ) → length s ≤ at → values_from n (drop at s) ≡ []
values_end n at s h = rw (drop_of_length-le s h) (none n)
