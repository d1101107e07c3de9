-- How a call ends: with its value, or with the number that it is refused by (demand 1). A call's answer is an enum of
-- its own; its crate gives each case of the enum its outcome, and the call's contract says that this is the outcome
-- due.
use Rattle.std.specs.Prelude.{ℕ, zero, suc}

pub data Outcome (A : Type 0) : Type 0 where
  accepted : A → Outcome A
  refused : ℕ → Outcome A

-- refused by the first number that the checks give; accepted exactly where they give none, so that no call is refused
-- by 0
unfoldable pub outcome : {A : Type 0} → ℕ → A → Outcome A
outcome zero value = accepted value
outcome (suc k) value = refused (suc k)
