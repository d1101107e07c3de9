-- Document 01, "The other calls": what the program `shortlist` prints of a stream.
use Rattle.std.specs.Prelude.{◌≡◌, ℕ, ◌≤◌, cond, List, [], ◌++◌, eqb, length, take}
use Rattle.std.proofs.lemmas.List.Edits.{sets}
use Rattle.laws.specs.Lists.{joined}
use Rattle.run_log.specs.Log.{Log, row_count}
use Rattle.preference.specs.declared.PreferenceList.{PreferenceList}
use Rattle.pareto.specs.Best.{is_best}
use Rattle.pareto.specs.Call.{Call}
use Rattle.selection.specs.Stream.{program_call}
use Rattle.report_lines.specs.Lines.{refused_text, head_text, line_text}

-- a line for each shortlisted row, in order
unfoldable pub lines_text : PreferenceList → Log → List ℕ
lines_text l log = joined (λ r. cond (is_best l log r) (line_text log.values r) []) (row_count log.values)

-- "`refused N`, or one of rows and shortlisted rows, then per shortlisted row its number, hours and cubic metres"
unfoldable pub text_of : Call → List ℕ
text_of c =
    cond (eqb c.refusal 0) (head_text (row_count c.log.values) c.value ++ lines_text c.list c.log)
    (refused_text c.refusal)

unfoldable pub report_of : List ℕ → List ℕ
report_of s = text_of (program_call s)

-- how many bytes the program keeps for its report
abbrev pub report_end : ℕ
report_end = 32768

-- a text stands at the front of the lent bytes, and is short enough for the program's
pub record Reported (out last : List ℕ) (end : ℕ) (x : List ℕ) : Type 0 where
  pub end_is : end ≡ length x
  pub last_is : last ≡ sets out 0 x
  pub short : end ≤ report_end

-- the report on every stream of which these are the n bytes read: all, or as many as the buffer holds
abbrev pub ReportsFront : List ℕ → ℕ → List ℕ → List ℕ → ℕ → Type 0
ReportsFront buffer n out last end =
    (s : List ℕ) → take n buffer ≡ take (length buffer) s → Reported out last end (report_of s)
