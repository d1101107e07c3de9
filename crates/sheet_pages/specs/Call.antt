-- Document 02, order 1: the call's checks, what it answers and what it leaves.
use Rattle.std.specs.Prelude.{ℕ, ◌≡◌, cond, List, ◌++◌, ltb, eqb, ℤ, length, drop}
use Rattle.laws.specs.Checks.{◌gives◌, ◌then◌}
use Rattle.laws.specs.Outcome.{Outcome, outcome}
use Rattle.run_log.specs.Log.{log_refusal, marks_refusal, mark_values_refusal}
use Rattle.sheet_pages.specs.Pages.{sheet_of}

-- "The log and mark lengths are checked by 10."; "14, a row's mark not 0 or 1, after 10"
unfoldable pub handed_refusal : List ℤ → List ℕ → ℕ
handed_refusal log marks = log_refusal log then marks_refusal log (length marks) then mark_values_refusal log marks

-- "15, output too short for all pages"
unfoldable pub room_refusal : List ℕ → ℕ → ℕ
room_refusal sheet room = ltb room (length sheet) gives 15

-- "after 14"
unfoldable pub sheet_refusal : List ℤ → List ℕ → ℕ → ℕ
sheet_refusal log marks room = handed_refusal log marks then room_refusal (sheet_of log marks) room

-- the output after a call whose checks give a number, 0 where it is accepted: "bytes past it are unchanged"; document
-- 01: "Nothing lent changes on a refusal"
unfoldable pub out_after : ℕ → List ℕ → List ℕ → List ℕ
out_after refusal sheet out = cond (eqb refusal 0) (sheet ++ drop (length sheet) out) out

-- what such a call answers, and its output before and after: "The length comes back"
pub record SheetLeft (refusal : ℕ) (sheet out : List ℕ) (answer : Outcome ℕ) (out' : List ℕ) : Type 0 where
  pub answer_is : answer ≡ outcome refusal (length sheet)
  pub out_is : out' ≡ out_after refusal sheet out
