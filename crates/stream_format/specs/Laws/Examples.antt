-- The examples of document 01's table of numbers that reading gives, 1 to 6, each with the place that comes back; and
-- kind 08 of document 02, order 2.
use Rattle.std.specs.Prelude.{ℕ, ◌≡◌, refl, List, [], ◌∷◌, ◌++◌, pos, length}
use Rattle.word.specs.Word.{word_at, int_at, word_bytes}
use Rattle.arith.specs.Gap.{gap}
use Rattle.arith.specs.Ceil.{ceil_div}
use Rattle.laws.specs.Checks.{◌gives◌, ◌then◌}
use Rattle.laws.specs.First.{first_at, any_below}
use Rattle.constructor.specs.Level.{distance, max_level}
use Rattle.constructor.specs.Valid.{constructor_refusal, sound}
use Rattle.constructor.specs.declared.Constructor.TheVariants.{BetweenTrivial}
use Rattle.preference.specs.Valid.{preference_refusal, column_refusal}
use Rattle.preference.specs.declared.Preference.{Preference}
use Rattle.stream_format.specs.Kinds.{kinds, kind_of}
use Rattle.stream_format.specs.Read.{refused_at, constructor_of, ends_layered, out_of_place, figures_refusal}
use Rattle.stream_format.specs.Read.{record_refusal, with_record, take_record, step, steps, records, end_refusal}
use Rattle.stream_format.specs.Read.{finish, read_of, zero_list, add_preference}

abbrev pub Refuses : List ℕ → ℕ → ℕ → Type 0
Refuses s refusal place = read_of s 0 ≡ refused_at refusal place

-- accepted as a list of one preference, and no runs
abbrev pub ReadsOne : List ℕ → Preference → Type 0
ReadsOne s p = read_of s 0 ≡ record { refusal = 0; place = length s; rows = 0; list = add_preference zero_list p }

-- density 1,200 to 1,300, of 1,000 to 1,600 by 50, too thin and too thick apart; and its record
abbrev pub density : Preference
density = record { column = 2; constructor = BetweenTrivial (pos 1000) (pos 1600) 50 (pos 1200) (pos 1300) }

abbrev pub density_record : List ℕ
density_record = 8 ∷ 2 ∷ word_bytes 1000 ++ word_bytes 1600 ++ word_bytes 50 ++ word_bytes 1200 ++ word_bytes 1300

pub examples :
    Refuses [] 1 0
    × Refuses (9 ∷ []) 2 0
    × Refuses (6 ∷ 0 ∷ 0 ∷ 0 ∷ 0 ∷ 0 ∷ []) 3 0
    × Refuses (5 ∷ 0 ∷ []) 4 0
    × Refuses (5 ∷ 8 ∷ 1 ∷ 0 ∷ []) 5 0
    × Refuses (5 ∷ 0 ∷ 1 ∷ 2 ∷ []) 6 0
    × Refuses (5 ∷ 0 ∷ 1 ∷ 1 ∷ 5 ∷ 0 ∷ 1 ∷ 1 ∷ []) 5 4
    -- "Kind 08, refused by 2 until now, has BETWEEN's body." "NAMED follows directly on LAYERED or NAMED"
    × ReadsOne density_record density
    × Refuses (density_record ++ 6 ∷ 0 ∷ 0 ∷ 0 ∷ 0 ∷ 0 ∷ []) 3 22
unfolding read_of finish end_refusal records steps step take_record with_record record_refusal max_level kind_of kinds
    ends_layered out_of_place figures_refusal preference_refusal column_refusal constructor_of constructor_refusal sound
    first_at
    any_below ◌gives◌ ◌then◌ distance gap ceil_div word_at int_at word_bytes
examples = (refl, refl, refl, refl, refl, refl, refl, refl, refl)
