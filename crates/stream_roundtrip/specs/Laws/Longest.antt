-- The bound of 34,334 bytes on accepted streams is reached: the stream of seven BETWEEN preferences, a LAYERED one, 64
-- named values and 1,024 runs.
use Rattle.std.specs.Prelude.{◌≡◌, refl, ℕ, zero, suc, ◌*◌, ◌≤◌, List, [], ◌∷◌, ℤ, pos, length, get_or, replicate}
use Rattle.std.proofs.Common.{◌∙◌, arith, length-append, SFits}
use Rattle.std.proofs.lemmas.List.{length-replicate}
use Rattle.std.specs.Int.{w32}
use Rattle.laws.specs.Checks.{◌gives◌, ◌then◌}
use Rattle.laws.specs.First.{first_at, any_below, first_refusal}
use Rattle.laws.specs.Lists.{joined}
use Rattle.arith.specs.Gap.{gap}
use Rattle.arith.specs.Ceil.{ceil_div}
use Rattle.constructor.specs.Level.{distance, max_level}
use Rattle.constructor.specs.Valid.{sound, constructor_refusal, layer_refusal}
use Rattle.constructor.specs.declared.Constructor.TheVariants.{Between, Layered}
use Rattle.preference.specs.List.{constructor_at}
use Rattle.preference.specs.Valid.{column_refusal, preference_refusal, named_refusal, list_refusal}
use Rattle.preference.specs.declared.Preference.{Preference}
use Rattle.preference.specs.declared.Named.{Named}
use Rattle.preference.specs.declared.PreferenceList.{PreferenceList}
use Rattle.run_log.specs.Log.{row_count, row_at, log_refusal}
use Rattle.run_log.specs.Laws.Log.{accepted_rows, row_long}
use Rattle.word.specs.Word.{word_bytes, int_bytes}
use Rattle.stream_format.specs.Read.{read_of}
use Rattle.stream_format.specs.Write.{preference_bytes, named_bytes, preference_records, row_bytes, stream_of}
use Rattle.stream_format.specs.Laws.Lengths.{run_long}
use Rattle.stream_roundtrip.specs.Terms.{ConstructorFits, Fits}
use Rattle.stream_roundtrip.specs.Laws.ReadBack.{read_back}

between : ℕ → Preference
between column = record { column = column; constructor = Between (pos 0) (pos 0) 1 (pos 0) (pos 0) }

name : Named
name = record { preference = 7; value = pos 0; layer = 0 }

full : PreferenceList
full =
    record {
      count = 8;
      preferences =
          between 0 ∷ between 1 ∷ between 2 ∷ between 3 ∷ between 4 ∷ between 5 ∷ between 6
          ∷ record { column = 7; constructor = Layered 1 0 } ∷ [];
      namedcount = 64;
      named = replicate 64 name;
    }

zeros : List ℤ
zeros = replicate 8192 (pos 0)

full_accepted : list_refusal full ≡ 0
unfolding full between name list_refusal ◌gives◌ ◌then◌ first_refusal any_below first_at column_refusal
    preference_refusal
    named_refusal constructor_refusal layer_refusal sound max_level distance gap ceil_div
full_accepted = refl

zeros_long : length zeros ≡ 8192
unfolding zeros
zeros_long = length-replicate 8192 (pos 0)

zeros_accepted : log_refusal zeros ≡ 0
zeros_accepted = accepted_rows zeros 1024 zeros_long (omega arith)

wishes_long : length (joined (preference_records full) 8) ≡ 542
unfolding full between name joined preference_records preference_bytes named_bytes int_bytes word_bytes
wishes_long = refl

rows_long : (n : ℕ) → n ≤ 1024 → length (joined (row_bytes zeros) n) ≡ 33 * n
unfolding joined
rows_long zero h = refl
rows_long (suc n) h =
    let r = row_long zeros n (omega (arith, zeros_long)) in
    length-append (joined (row_bytes zeros) n) (row_bytes zeros n)
    ∙ omega (arith, rows_long n (omega arith), run_long (row_at zeros n), r)

-- ---- what the types say

same_value : (n k : ℕ) (e d : Named) → (get_or (replicate n e) k d).value ≡ get_or (replicate n e.value) k d.value
same_value zero k e d = refl
same_value (suc n) zero e d = refl
same_value (suc n) (suc k) e d = same_value n k e d

always : (n k : ℕ) (z : ℤ) → get_or (replicate n z) k z ≡ z
always zero k z = refl
always (suc n) zero z = refl
always (suc n) (suc k) z = always n k z

zero_fits : SFits w32 (pos 0)
zero_fits = record { sfits = omega arith }

constructors_fit : (i : ℕ) → ConstructorFits (constructor_at full i)
unfolding full between
constructors_fit zero = (zero_fits, zero_fits, zero_fits, zero_fits)
constructors_fit (suc zero) = (zero_fits, zero_fits, zero_fits, zero_fits)
constructors_fit (suc (suc zero)) = (zero_fits, zero_fits, zero_fits, zero_fits)
constructors_fit (suc (suc (suc zero))) = (zero_fits, zero_fits, zero_fits, zero_fits)
constructors_fit (suc (suc (suc (suc zero)))) = (zero_fits, zero_fits, zero_fits, zero_fits)
constructors_fit (suc (suc (suc (suc (suc zero))))) = (zero_fits, zero_fits, zero_fits, zero_fits)
constructors_fit (suc (suc (suc (suc (suc (suc zero)))))) = (zero_fits, zero_fits, zero_fits, zero_fits)
constructors_fit (suc (suc (suc (suc (suc (suc (suc zero))))))) = tt
constructors_fit (suc (suc (suc (suc (suc (suc (suc (suc i)))))))) = (zero_fits, zero_fits)

fits : Fits full zeros
unfolding full name zeros
fits =
    record {
      constructors = constructors_fit;
      values =
          λ k. rw (
            same_value 64 k name (record { preference = 0; value = pos 0; layer = 0 }),
            always 64 k (pos 0),
          ) zero_fits;
      numbers = λ j. rw (always 8192 j (pos 0)) zero_fits;
    }

-- ---- the longest stream

pub longest : List ℕ
longest = stream_of full zeros

pub longest_long : length longest ≡ 34334
unfolding longest stream_of full
longest_long =
    length-append (joined (preference_records full) 8) (joined (row_bytes zeros) (row_count zeros))
    ∙ omega (arith, wishes_long, rows_long (row_count zeros) (omega (arith, zeros_long)), zeros_long)

pub longest_accepted : (read_of longest 8192).refusal ≡ 0
unfolding longest
longest_accepted = (read_back full zeros 8192 fits full_accepted zeros_accepted (omega (arith, zeros_long))).refusal
