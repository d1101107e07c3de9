-- Document 01, "When a number comes back": for each call, the numbers that it can give. 0 is none of them: it says that
-- a call is accepted.
use Rattle.std.specs.Prelude.{ℕ, List, [], ◌∷◌}
use Rattle.pareto.specs.Refusals.{list_refusals, checked_refusals}

-- "The level of a value .. has 10 for a place past the count and then 8 for that value."
abbrev pub level_refusals : List ℕ
level_refusals = 8 ∷ 10 ∷ list_refusals

-- "Reading checks record by record: 2, 3, 4, 5, 6, 7; then 1; then 10"
abbrev pub read_refusals : List ℕ
read_refusals = 1 ∷ 2 ∷ 3 ∷ 4 ∷ 5 ∷ 6 ∷ 7 ∷ 10 ∷ []

-- "Writing makes the checks below up to 10 .. and leaves 8 to the engines."
abbrev pub write_refusals : List ℕ
write_refusals = 10 ∷ list_refusals

-- "then for the lattice engine 9, node bytes 10, 11"
abbrev pub lattice_refusals : List ℕ
lattice_refusals = 9 ∷ 11 ∷ checked_refusals

-- the window engine has no number of its own
abbrev pub window_refusals : List ℕ
window_refusals = checked_refusals

-- "and for the beaten-by question 12, 13"
abbrev pub dominator_refusals : List ℕ
dominator_refusals = 12 ∷ 13 ∷ checked_refusals

-- "A flat call reads its stream first."
abbrev pub flat_lattice_refusals : List ℕ
flat_lattice_refusals = 1 ∷ 2 ∷ 3 ∷ 4 ∷ 5 ∷ 6 ∷ 7 ∷ 8 ∷ 9 ∷ 10 ∷ 11 ∷ []

abbrev pub flat_window_refusals : List ℕ
flat_window_refusals = 1 ∷ 2 ∷ 3 ∷ 4 ∷ 5 ∷ 6 ∷ 7 ∷ 8 ∷ 10 ∷ []

-- document 02, order 1: the sheet has "14, .. after 10; 15, .. after 14", and no wish list
abbrev pub sheet_refusals : List ℕ
sheet_refusals = 10 ∷ 14 ∷ 15 ∷ []

-- a program's `refused N`: its buffers, its budget and its window are enough, and the window engine runs where 9 would
-- come
abbrev pub program_refusals : List ℕ
program_refusals = 1 ∷ 2 ∷ 3 ∷ 4 ∷ 5 ∷ 6 ∷ 7 ∷ 8 ∷ []

-- the sheet of a stream: a program's numbers, then 15
abbrev pub stream_sheet_refusals : List ℕ
stream_sheet_refusals = 15 ∷ program_refusals
