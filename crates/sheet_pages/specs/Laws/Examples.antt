-- Sheets computed from the definitions, as they look.
use Rattle.std.specs.Prelude.{◌≡◌, refl, ℕ, List, [], ◌∷◌, ◌++◌, ℤ, pos, length}
use Rattle.laws.specs.Lists.{joined}
use Rattle.arith.specs.Ceil.{ceil_div}
use Rattle.run_log.specs.Log.{marked_rows}
use Rattle.text.specs.Letters.{letters}
use Rattle.text.specs.Text.{decimal_by, decimal, sign, signed, hundredths}
use Rattle.sheet_lines.specs.Line.{padded, field_width, fields_of, heading_line, field_text, row_line, foot_text, foot_line}
use Rattle.sheet_pages.specs.Pages.{lines_of, page_count, page_rows, page_of, pages_of, sheet_of}

-- an empty shortlist: one page, 204 bytes
abbrev empty_sheet : List ℕ
empty_sheet =
    letters " ROW        HOURS     CUBIC M     DENSITY        FUEL     SUCTION   DISCHARGE       DEPTH        SOIL\n"
    ++ letters "                                                                                          PAGE 1 OF 1\n"

pub empty_sheet_lem : (sheet_of [] [] ≡ empty_sheet) × (length empty_sheet ≡ 204)
unfolding sheet_of pages_of page_of page_rows page_count lines_of foot_line foot_text row_line field_text heading_line
    fields_of
    field_width padded marked_rows joined ceil_div hundredths signed sign decimal decimal_by
empty_sheet_lem = (refl, refl)

-- a run of hours, cubic metres and density, the rest 0
abbrev run : ℕ → ℕ → ℕ → List ℤ
run hours metres density = pos hours ∷ pos metres ∷ pos density ∷ pos 0 ∷ pos 0 ∷ pos 0 ∷ pos 0 ∷ pos 0 ∷ []

-- document 01's Harbour log
abbrev harbour : List ℤ
harbour = run 800 900 1300 ++ run 650 1000 1400 ++ run 700 850 1250 ++ run 720 880 1210 ++ run 810 900 1270

abbrev harbour_sheet : List ℕ
harbour_sheet =
    letters " ROW        HOURS     CUBIC M     DENSITY        FUEL     SUCTION   DISCHARGE       DEPTH        SOIL\n"
    ++ letters "   0         8.00         900        1300           0           0           0           0           0\n"
    ++ letters "   1         6.50        1000        1400           0           0           0           0           0\n"
    ++ letters "   2         7.00         850        1250           0           0           0           0           0\n"
    ++ letters "   4         8.10         900        1270           0           0           0           0           0\n"
    ++ letters "                                                                                          PAGE 1 OF 1\n"

-- with its marks: 612 bytes
pub harbour_sheet_lem : (sheet_of harbour (1 ∷ 1 ∷ 1 ∷ 0 ∷ 1 ∷ []) ≡ harbour_sheet) × (length harbour_sheet ≡ 612)
unfolding sheet_of pages_of page_of page_rows page_count lines_of foot_line foot_text row_line field_text heading_line
    fields_of
    field_width padded marked_rows joined ceil_div hundredths signed sign decimal decimal_by
harbour_sheet_lem = (refl, refl)

pub page_counts : (page_count 0 ≡ 1) × (page_count 1 ≡ 1) × (page_count 50 ≡ 1) × (page_count 51 ≡ 2)
    × (page_count 100 ≡ 2) × (page_count 101 ≡ 3) × (page_count 1024 ≡ 21)
unfolding page_count ceil_div
page_counts = (refl, refl, refl, refl, refl, refl, refl)
