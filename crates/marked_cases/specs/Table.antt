-- Document 01, "Harbour log and marked cases": the table, with the sides and the pairs of document 02, order 2.
use Rattle.std.specs.Prelude.{ℕ, ◌+◌, ◌-◌, ◌*◌, List, [], ◌∷◌, ◌++◌, ℤ, pos, negsuc, length, replicate}
use Rattle.laws.specs.Outcome.{accepted, refused}
use Rattle.run_log.specs.Log.{Log, log_of}
use Rattle.constructor.specs.declared.Constructor.{Constructor}
use Rattle.constructor.specs.declared.Constructor.TheVariants.{Lowest, Highest, Around, Between, Layered}
use Rattle.constructor.specs.declared.Constructor.TheVariants.{BetweenTrivial}
use Rattle.constructor.specs.declared.Side.{Side}
use Rattle.constructor.specs.declared.Side.TheVariants.{Below, Inside, Above}
use Rattle.preference.specs.List.{zero_preference, zero_named}
use Rattle.preference.specs.declared.Named.{Named}
use Rattle.preference.specs.declared.Preference.{Preference}
use Rattle.preference.specs.declared.PreferenceList.{PreferenceList}
use Rattle.marked_cases.specs.Question.{level_asked, parts_asked, max_asked, marks_asked, machine_asked, lattice_asked}
use Rattle.marked_cases.specs.Question.{lattice_called, window_called, ends, tells, figure, figures, Case}

-- a list with these preferences and named values, and zeros at the rest of its eight and 64 places
abbrev pub list_of : List Preference → List Named → PreferenceList
list_of ps ns =
    record {
      count = length ps;
      preferences = ps ++ replicate (8 - length ps) zero_preference;
      namedcount = length ns;
      named = ns ++ replicate (64 - length ns) zero_named;
    }

-- a list of one preference
abbrev pub single : Constructor → List Named → PreferenceList
single c ns = list_of (record { column = 1; constructor = c } ∷ []) ns

-- the level of a value and its side, the number that it is refused by, and M, under the one preference of a list
abbrev pub level : PreferenceList → ℤ → ℕ → Side → Case
level l v n s = record { asks = level_asked l 0 v; expects = tells (accepted (record { level = n; side = s })) }

abbrev pub refusal : PreferenceList → ℤ → ℕ → Case
refusal l v k = record { asks = level_asked l 0 v; expects = tells (refused k) }

-- the pair of levels of a value
abbrev pub pair : PreferenceList → ℤ → ℕ → ℕ → Case
pair l v m n = record { asks = parts_asked l (pos 1 ∷ v ∷ []); expects = figures (m ∷ n ∷ []) }

abbrev pub greatest : PreferenceList → ℕ → Case
greatest l m = record { asks = max_asked l 0; expects = figure m }

-- the lists of P1 and P2, P3, P4 and P5 (every i32, by a step), P6
abbrev pub around : PreferenceList
around = single (Around (pos 45) (pos 75) 5 (pos 50)) []

abbrev pub between : PreferenceList
between = single (Between (pos 50) (pos 95) 5 (pos 60) (pos 80)) []

-- 003, Table 4: around 50, by kind 08
abbrev pub sided : PreferenceList
sided = single (BetweenTrivial (pos 45) (pos 75) 5 (pos 50) (pos 50)) []

abbrev pub lowest : ℕ → PreferenceList
lowest step = single (Lowest (negsuc 2147483647) (pos 2147483647) step) []

abbrev pub layered : PreferenceList
layered =
    single (Layered 2 1)
    (record { preference = 0; value = pos 7; layer = 0 } ∷ record { preference = 0; value = pos 3; layer = 2 } ∷ [])

-- the Harbour log: most cubic metres, density near 1,250; hours, cubic metres and density of each run, the rest 0
abbrev pub harbour : PreferenceList
harbour =
    list_of
    (record { column = 1; constructor = Highest (pos 0) (pos 1000) 100 }
    ∷ record { column = 2; constructor = Around (pos 1000) (pos 1600) 50 (pos 1250) } ∷ [])
    []

-- the same with density by kind 08
abbrev pub harbour_sided : PreferenceList
harbour_sided =
    list_of
    (record { column = 1; constructor = Highest (pos 0) (pos 1000) 100 }
    ∷ record { column = 2; constructor = BetweenTrivial (pos 1000) (pos 1600) 50 (pos 1250) (pos 1250) } ∷ [])
    []

abbrev pub run : ℕ → ℕ → ℕ → List ℤ
run hours metres density = pos hours ∷ pos metres ∷ pos density ∷ pos 0 ∷ pos 0 ∷ pos 0 ∷ pos 0 ∷ pos 0 ∷ []

abbrev pub harbour_log : Log
harbour_log = log_of (run 800 900 1300 ++ run 650 1000 1400 ++ run 700 850 1250 ++ run 720 880 1210 ++ run 810 900 1270)

-- two LOWEST wishes by 1, with so many levels above 0
abbrev pub two_lowest : ℕ → ℕ → PreferenceList
two_lowest m n =
    list_of (record { column = 1; constructor = Lowest (pos 0) (pos m) 1 } ∷ record
    { column = 2; constructor = Lowest (pos 0) (pos n) 1 } ∷ []) []

abbrev pub marks : PreferenceList → Log → List ℕ → Case
marks l log m = record { asks = marks_asked l log; expects = figures m }

abbrev pub lattice : PreferenceList → Log → List ℕ → Case
lattice l log n = record { asks = lattice_asked l log; expects = figures n }

-- the lattice engine with a budget, marks and node bytes enough
abbrev pub crossed : PreferenceList → Log → ℕ → ℕ → ℕ → ℕ → Case
crossed l log rows nodes budget n =
    record { asks = lattice_called l log rows nodes budget; expects = ends (accepted n) }

abbrev pub not_crossed : PreferenceList → Log → ℕ → ℕ → ℕ → ℕ → Case
not_crossed l log rows nodes budget k =
    record { asks = lattice_called l log rows nodes budget; expects = ends (refused k) }

-- the window engine with window w, marks and a work list enough
abbrev pub compared : PreferenceList → Log → ℕ → ℕ → ℕ → Case
compared l log rows w n = record { asks = window_called l log rows (2 * (rows + w)) w; expects = ends (accepted n) }

-- the marks that the window machine itself leaves
abbrev pub machine_marks : PreferenceList → Log → ℕ → List ℕ → Case
machine_marks l log w m = record { asks = machine_asked l log w; expects = figures m }

-- too thin with more, and too thick with less: one level of density, on two sides
abbrev pub thin_and_thick : Log
thin_and_thick = log_of (run 1 900 1200 ++ run 1 800 1300)

-- P10's log: level vectors (2,1) (1,2) (0,5) (1,1)
abbrev pub four_runs : Log
four_runs = log_of (run 1 2 1 ++ run 1 1 2 ++ run 1 0 5 ++ run 1 1 1)

-- the log without a run
abbrev pub no_runs : Log
no_runs = log_of []

abbrev pub cases : List Case
cases =
    -- P1
    level around (pos 45) 1 Below ∷
    level around (pos 50) 0 Inside ∷
    level around (pos 55) 1 Above ∷
    level around (pos 70) 4 Above ∷
    level around (pos 75) 5 Above ∷
    greatest around 5 ∷
    -- P2
    level around (pos 51) 1 Above ∷
    level around (pos 56) 2 Above ∷
    -- P3
    level between (pos 59) 1 Below ∷
    level between (pos 60) 0 Inside ∷
    level between (pos 80) 0 Inside ∷
    level between (pos 81) 1 Above ∷
    level between (pos 95) 3 Above ∷
    -- P4
    greatest (lowest 65537) 65535 ∷
    level (lowest 65537) (pos 0) 32768 Above ∷
    -- P5
    refusal (lowest 65536) (pos 0) 7 ∷
    -- P6
    level layered (pos 7) 0 Inside ∷
    level layered (pos 3) 2 Inside ∷
    level layered (pos 9) 1 Inside ∷
    -- P7
    marks harbour harbour_log (1 ∷ 1 ∷ 1 ∷ 0 ∷ 1 ∷ []) ∷
    -- P8
    lattice harbour harbour_log (88 ∷ 149 ∷ 157 ∷ []) ∷
    crossed harbour harbour_log 5 88 149 149 ∷
    not_crossed harbour harbour_log 5 88 148 11 ∷
    -- P9
    compared harbour harbour_log 5 1 7 ∷
    compared harbour harbour_log 5 4 7 ∷
    -- P10
    marks (two_lowest 5 5) four_runs (0 ∷ 0 ∷ 1 ∷ 1 ∷ []) ∷
    machine_marks (two_lowest 5 5) four_runs 2 (0 ∷ 0 ∷ 1 ∷ 1 ∷ []) ∷
    compared (two_lowest 5 5) four_runs 4 2 6 ∷
    -- P11
    marks harbour no_runs [] ∷
    crossed harbour no_runs 0 88 0 0 ∷
    compared harbour no_runs 0 64 0 ∷
    -- P12
    crossed (two_lowest 127 255) no_runs 0 32768 0 0 ∷
    not_crossed (two_lowest 128 255) no_runs 0 40000 0 9 ∷
    -- 003, Table 4
    pair sided (pos 45) 0 1 ∷
    pair sided (pos 50) 0 0 ∷
    pair sided (pos 55) 1 0 ∷
    pair sided (pos 70) 4 3 ∷
    pair sided (pos 75) 5 4 ∷
    level sided (pos 45) 1 Below ∷
    level sided (pos 75) 5 Above ∷
    -- the Harbour log with density by kind 08
    marks harbour_sided harbour_log (1 ∷ 1 ∷ 1 ∷ 0 ∷ 1 ∷ []) ∷
    lattice harbour_sided harbour_log (704 ∷ 1752 ∷ 1872 ∷ []) ∷
    compared harbour_sided harbour_log 5 1 9 ∷
    compared harbour_sided harbour_log 5 4 9 ∷
    -- AROUND keeps one of two runs that kind 08 keeps both
    marks harbour thin_and_thick (1 ∷ 0 ∷ []) ∷
    marks harbour_sided thin_and_thick (1 ∷ 1 ∷ []) ∷
    []
