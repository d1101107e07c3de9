-- Document 02, order 1: the shift sheet of a stream, and what the program `sheet` prints of it.
use Rattle.std.specs.Prelude.{ℕ, cond, List, eqb, length, take, ◌≡◌}
use Rattle.laws.specs.Checks.{◌then◌}
use Rattle.pareto.specs.Best.{best_matches}
use Rattle.selection.specs.Stream.{list_in, log_in, program_call}
use Rattle.output.specs.Puts.{Puts}
use Rattle.report_lines.specs.Lines.{refused_text}
use Rattle.sheet_pages.specs.Pages.{pages_of}
use Rattle.sheet_pages.specs.Call.{room_refusal}

-- the pages of the shortlist of what a stream says
unfoldable pub stream_sheet : List ℕ → List ℕ
stream_sheet s = pages_of (log_in s).values (best_matches (list_in s) (log_in s))

-- the numbers that the program `shortlist` gives; then "15, output too short for all pages"
unfoldable pub stream_refusal : List ℕ → ℕ → ℕ
stream_refusal s room = (program_call s).refusal then room_refusal (stream_sheet s) room

-- the sheet, or as document 01 has it for `shortlist`, "`refused N`"
unfoldable pub text_of : ℕ → List ℕ → List ℕ
text_of refusal sheet = cond (eqb refusal 0) sheet (refused_text refusal)

-- what the program prints of a stream: its output has room for every sheet
unfoldable pub sheet_report : List ℕ → List ℕ
sheet_report s = text_of (program_call s).refusal (stream_sheet s)

-- that much of every stream of which these are the n bytes read: all, or as many as the buffer holds
abbrev pub SheetFront : List ℕ → ℕ → List ℕ → List ℕ → ℕ → Type 0
SheetFront buffer n out last end =
    (s : List ℕ) → take n buffer ≡ take (length buffer) s → Puts out last 0 end (sheet_report s)
