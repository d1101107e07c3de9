-- The program's buffer is long enough: the report on the front of a stream is that on the whole stream.
use Rattle.std.specs.Prelude.{◌≡◌, ℕ, ◌≤◌, List, take}
use Rattle.std.proofs.Common.{ne_eqb}
use Rattle.laws.specs.Laws.Checks.{then_first}
use Rattle.stream_format.specs.Read.{read_of}
use Rattle.report_lines.specs.Lines.{refused_text}
use Rattle.selection.specs.Laws.Cut.{text_cut}
use Rattle.report.specs.Report.{text_of, report_of}

-- a stream that cannot be read is reported by its number
refused_report : (s : List ℕ) → ((read_of s 8192).refusal ≡ 0 → ⊥) → report_of s ≡ refused_text (read_of s 8192).refusal
unfolding report_of text_of
refused_report s h = rw (then_first (read_of s 8192).refusal _ h, ne_eqb (read_of s 8192).refusal 0 h)

pub report_cut : (n : ℕ) (s : List ℕ) → 34367 ≤ n → report_of (take n s) ≡ report_of s
report_cut n s late = text_cut report_of refused_text refused_report n s late
