-- Document 02, order 1, "Shortlist on the shift sheet": the three kinds of line, "each of 101 characters and a line
-- feed".
use Rattle.std.specs.Prelude.{ℕ, zero, suc, ◌-◌, List, [], ◌∷◌, ◌++◌, ℤ, pos, length, get_or, drop, replicate}
use Prim.Native.Char.{code}
use Prim.Native.String.{String}
use Rattle.laws.specs.Lists.{joined}
use Rattle.text.specs.Letters.{letters}
use Rattle.text.specs.Text.{decimal, signed, hundredths}

-- how many characters a line has
abbrev pub line_width : ℕ
line_width = 101

-- no text that is put to the right is longer: a foot has two words of nine letters, and two numbers of at most 20
-- figures
abbrev pub text_bytes : ℕ
text_bytes = 64

-- "all to the right": spaces before a text, so that it ends with the last of w places. Of a longer text the last w
-- characters would be left; no text of a sheet is longer than its places (Laws/Fields.antt: `field_whole`,
-- `foot_whole`).
unfoldable pub padded : ℕ → List ℕ → List ℕ
padded w t = replicate (w - length t) (code " ") ++ drop (length t - w) t

-- how many fields a row's line has: its number and its eight columns
abbrev pub field_count : ℕ
field_count = 9

-- "Row number takes 4 places, hours 13 .., the other seven columns 12 each"
unfoldable pub field_width : ℕ → ℕ
field_width zero = 4
field_width (suc zero) = 13
field_width (suc (suc j)) = 12

-- the fields of a line, each to the right in its places
unfoldable pub fields_of : (ℕ → List ℕ) → List ℕ
fields_of texts = joined (λ j. padded (field_width j) (texts j)) field_count

-- "Headings are ROW, HOURS, CUBIC M, DENSITY, FUEL, SUCTION, DISCHARGE, DEPTH, SOIL"
abbrev pub headings : List String
headings =
    "ROW" ∷ "HOURS" ∷ "CUBIC M" ∷ "DENSITY" ∷ "FUEL" ∷ "SUCTION" ∷ "DISCHARGE" ∷ "DEPTH" ∷ "SOIL" ∷ []

-- "set likewise"
unfoldable pub heading_line : List ℕ
heading_line = fields_of (λ j. letters (get_or headings j "")) ++ letters "\n"

-- what stands in field j of row r: its number, its hours "with two decimals", or another of its columns
unfoldable pub field_text : ℕ → List ℤ → ℕ → List ℕ
field_text r row zero = decimal r
field_text r row (suc zero) = hundredths (get_or row 0 (pos 0))
field_text r row (suc (suc j)) = signed (get_or row (suc j) (pos 0))

unfoldable pub row_line : ℕ → List ℤ → List ℕ
row_line r row = fields_of (field_text r row) ++ letters "\n"

-- "The foot is `PAGE 1 OF 1`, .. with the true figures."
unfoldable pub foot_text : ℕ → ℕ → List ℕ
foot_text page pages = letters "PAGE " ++ decimal page ++ letters " OF " ++ decimal pages

-- "to the right"
unfoldable pub foot_line : ℕ → ℕ → List ℕ
foot_line page pages = padded line_width (foot_text page pages) ++ letters "\n"
