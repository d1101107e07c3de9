-- Document 01, "The other calls": the program "prints lines, one space between fields: `refused N`, or one of rows and
-- shortlisted rows, then per shortlisted row its number, hours and cubic metres."
use Rattle.std.specs.Prelude.{ℕ, cond, List, [], ◌++◌, eqb, ℤ, pos, get_or}
use Rattle.run_log.specs.Log.{row_at}
use Rattle.text.specs.Letters.{letters}
use Rattle.text.specs.Text.{decimal, signed}

-- "refused N"
unfoldable pub refused_text : ℕ → List ℕ
refused_text k = letters "refused " ++ decimal k ++ letters "\n"

-- "runs N best N"
unfoldable pub head_text : ℕ → ℕ → List ℕ
head_text rows best = letters "runs " ++ decimal rows ++ letters " best " ++ decimal best ++ letters "\n"

-- a row's number, hours (column 0) and cubic metres (column 1)
unfoldable pub fields_text : ℕ → List ℤ → List ℕ
fields_text r row =
    decimal r ++ letters " " ++ signed (get_or row 0 (pos 0)) ++ letters " " ++ signed (get_or row 1 (pos 0))
    ++ letters "\n"

unfoldable pub line_text : List ℤ → ℕ → List ℕ
line_text log r = fields_text r (row_at log r)

-- what a row adds where a byte of 1 marks it
unfoldable pub marked_text : List ℕ → List ℤ → ℕ → List ℕ
marked_text marks log r = cond (eqb (get_or marks r 0) 1) (line_text log r) []
