-- The level table of a log, which engines look levels up in: eight numbers to a row, its level vector and zeros after
-- it, and for level vectors of more than eight parts a second plane with the others. Its levels are those of `levels`:
-- what document 01's level function says of a value, here of a whole log.
use Rattle.std.specs.Prelude.{ℕ, ◌+◌, ◌*◌, ◌/◌, ◌%◌, Bool, cond, List, [], ◌∷◌, ltb, ℤ, get_or, length, replicate}
use Rattle.std.proofs.lemmas.List.Edits.{sets}
use Rattle.limits.specs.Limits.{columns, max_values, level_count}
use Rattle.laws.specs.Lists.{joined}
use Rattle.run_log.specs.Log.{row_count, row_at}
use Rattle.preference.specs.Parts.{levels, max_levels}
use Rattle.preference.specs.declared.PreferenceList.{PreferenceList}

-- part k of the level vector of row r, in 16 bits; levels of an accepted list fit (Laws/Table.antt)
abbrev pub part_at : PreferenceList → List ℤ → ℕ → ℕ → ℕ
part_at l log k r = get_or (levels l (row_at log r)) k 0 % level_count

-- place i of a plane is part first + i % 8 of row i / 8
unfoldable pub plane_of : PreferenceList → List ℤ → ℕ → List ℕ
plane_of l log first =
    joined (λ i. part_at l log (first + i % columns) (i / columns) ∷ []) (columns * row_count log)

-- level vectors have more than eight parts
unfoldable pub is_wide : PreferenceList → Bool
is_wide l = ltb columns (length (max_levels l))

-- how many numbers the table has; a second plane begins behind the longest first one
unfoldable pub table_length : PreferenceList → List ℤ → ℕ
table_length l log = cond (is_wide l) (max_values + columns * row_count log) (columns * row_count log)

-- a table with the planes in it
abbrev pub with_planes : Bool → PreferenceList → List ℤ → List ℕ → List ℕ
with_planes wide l log table =
    cond wide (sets (sets table 0 (plane_of l log 0)) max_values (plane_of l log columns))
    (sets table 0 (plane_of l log 0))

-- a lent table with them in it; one that is too short is left as it is
unfoldable pub with_table : PreferenceList → List ℤ → List ℕ → List ℕ
with_table l log table = cond (ltb (length table) (table_length l log)) table (with_planes (is_wide l) l log table)

-- the table, made of zeros
unfoldable pub table_of : PreferenceList → List ℤ → List ℕ
table_of l log = with_planes (is_wide l) l log (replicate (table_length l log) 0)
