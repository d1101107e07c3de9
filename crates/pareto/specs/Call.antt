-- Document 01, "When a number comes back": a call of an engine on a list and a log, and what it leaves. Both engines'
-- calls, the flat calls and the program's are of this shape.
use Rattle.std.specs.Prelude.{◌≡◌, ℕ, cond, List, eqb, length}
use Rattle.laws.specs.Outcome.{Outcome, outcome}
use Rattle.run_log.specs.Log.{Log}
use Rattle.preference.specs.declared.PreferenceList.{PreferenceList}
use Rattle.pareto.specs.Best.{best_matches, marks_after}

-- the number that its checks give, 0 where it is accepted ("A call is accepted exactly when none of its checks gives a
-- number."), and the value that is due then
pub record Call : Type 0 where
  pub list : PreferenceList
  pub log : Log
  pub refusal : ℕ
  pub value : ℕ

-- the same call where "the result is the number of shortlisted rows"
abbrev pub counting : Call → Call
counting c =
    record { list = c.list; log = c.log; refusal = c.refusal; value = length (best_matches c.list c.log) }

-- the lent mark bytes after it: "Nothing lent changes on a refusal"
unfoldable pub marks_left : Call → List ℕ → List ℕ
marks_left c marks = cond (eqb c.refusal 0) (marks_after c.list c.log marks) marks

-- what a call answers, and its mark bytes before and after
pub record Leaves (call : Call) (marks : List ℕ) (answer : Outcome ℕ) (marks' : List ℕ) : Type 0 where
  pub answer_is : answer ≡ outcome call.refusal call.value
  pub marks_are : marks' ≡ marks_left call marks
