-- A refusal's number is none of an accepted call, and what an answer says of the checks that gave it.
use Rattle.std.specs.Prelude.{◌≡◌, ℕ, ◌<◌, Bool, true, false, Result}
use Rattle.std.specs.Result.{IsErrAnd}
use Rattle.std.proofs.Common.{sym, ap, ◌∙◌, arith}
use Rattle.std.proofs.lemmas.Result.{err_from_is_err_and}
use Rattle.laws.specs.Checks.{◌gives◌, ◌then◌}
use Rattle.laws.specs.Laws.Checks.{gives_yes, gives_no, then_first, then_next}
use Rattle.laws.specs.Outcome.{accepted, refused, outcome}
use Rattle.laws.specs.Laws.Outcome.{outcome_accepted, outcome_refused}
use Rattle.refusal.specs.Refusal.{number, refusal_of, outcome_of}
use Rattle.refusal.specs.declared.Refusal.{Refusal}
use Rattle.refusal.specs.declared.Refusal.TheVariants.{WishCount, UnknownKind, OutOfPlace, CutShort, Column, Figures}
use Rattle.refusal.specs.declared.Refusal.TheVariants.{TooMuch, OutsideBounds, TooManyNodes, NoRoom, OverBudget}
use Rattle.refusal.specs.declared.Refusal.TheVariants.{NoSuchRow, Shortlisted, NoMark, NoSheetRoom}

pub number_some : (r : Refusal) → number r ≡ 0 → ⊥
number_some WishCount e = omega (arith, e)
number_some UnknownKind e = omega (arith, e)
number_some OutOfPlace e = omega (arith, e)
number_some CutShort e = omega (arith, e)
number_some Column e = omega (arith, e)
number_some Figures e = omega (arith, e)
number_some TooMuch e = omega (arith, e)
number_some OutsideBounds e = omega (arith, e)
number_some TooManyNodes e = omega (arith, e)
number_some NoRoom e = omega (arith, e)
number_some OverBudget e = omega (arith, e)
number_some NoSuchRow e = omega (arith, e)
number_some Shortlisted e = omega (arith, e)
number_some NoMark e = omega (arith, e)
number_some NoSheetRoom e = omega (arith, e)

-- and it fits a byte
pub number_small : (r : Refusal) → number r < 256
number_small WishCount = omega arith
number_small UnknownKind = omega arith
number_small OutOfPlace = omega arith
number_small CutShort = omega arith
number_small Column = omega arith
number_small Figures = omega arith
number_small TooMuch = omega arith
number_small OutsideBounds = omega arith
number_small TooManyNodes = omega arith
number_small NoRoom = omega arith
number_small OverBudget = omega arith
number_small NoSuchRow = omega arith
number_small Shortlisted = omega arith
number_small NoMark = omega arith
number_small NoSheetRoom = omega arith

-- a check that refuses decides, whatever is checked after it
pub then_err : (r : Refusal) (a b : ℕ) → number r ≡ a → number r ≡ a then b
then_err r a b e = e ∙ sym (then_first a b (λ z. number_some r (e ∙ z)))

-- a check that accepts leaves it to the next
pub then_ok : (n a b : ℕ) → 0 ≡ a → n ≡ b → n ≡ a then b
then_ok n a b e f = f ∙ sym (then_next a b (sym e))

-- a test that does not hold leaves it to what is checked next
pub passes : (n : ℕ) (b : Bool) (k rest : ℕ) → b ≡ false → n ≡ rest → n ≡ b gives k then rest
passes n b k rest e f = then_ok n (b gives k) rest (sym (gives_no b k e)) f

-- a test that holds decides
pub stops : (r : Refusal) (b : Bool) (rest : ℕ) → b ≡ true → number r ≡ b gives (number r) then rest
stops r b rest e = then_err r (b gives (number r)) rest (sym (gives_yes b (number r) e))

-- a call that a check refuses ends with that number
pub refused_by : {A : Type 0} (r : Refusal) (k : ℕ) (v : A) → number r ≡ k → refused (number r) ≡ outcome k v
refused_by r k v e = ap refused e ∙ sym (outcome_refused k v (λ z. number_some r (e ∙ z)))

-- a call that every check accepts ends with its value
pub accepted_by : {A : Type 0} (n : A) (k : ℕ) (v : A) → k ≡ 0 → n ≡ v → accepted n ≡ outcome k v
accepted_by n k v e f = ap accepted f ∙ sym (outcome_accepted k v e)

-- the exit of a `?` behind a check that refuses
pub exit : {A : Type 0} (r : Result A Refusal) (e : Refusal) (k : ℕ) → IsErrAnd r (λ y. y ≡ e) → number e ≡ k
    → refusal_of r ≡ k
exit r e k x q = let p = err_from_is_err_and r x in rw (p.1, p.2) q

-- the same of a call that answers with a value
pub call_exit : {A : Type 0} (r : Result A Refusal) (e : Refusal) (k : ℕ) (v : A) → IsErrAnd r (λ y. y ≡ e)
    → number e ≡ k → outcome_of r ≡ outcome k v
call_exit r e k v x q = let p = err_from_is_err_and r x in rw (p.1, p.2) (refused_by e k v q)

-- what a check in order says, for functions whose goals need no more
pub ruleset checks = (gives_yes, gives_no, then_first, then_next)
