-- How a `?` leaves a call: with the number of the refusal that it met.
use Rattle.std.specs.Prelude.{◌≡◌, Result}
use Rattle.std.specs.Result.{IsErrAnd}
use Rattle.std.proofs.lemmas.Result.{err_from_is_err_and}
use Rattle.laws.specs.Outcome.{refused}
use Rattle.refusal.specs.Refusal.{number, outcome_of}
use Rattle.refusal.specs.declared.Refusal.{Refusal}

pub exit : {A : Type 0} (answer : Result A Refusal) (why : Refusal) → IsErrAnd answer (λ y. y ≡ why)
    → outcome_of answer ≡ refused (number why)
exit answer why x = let p = err_from_is_err_and answer x in rw (p.1, p.2)
