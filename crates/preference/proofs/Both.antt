-- Two checks in order: the first that refuses decides.
use Rattle.std.specs.Prelude.{◌≡◌, ℕ, Result, Ok, Err}
use Rattle.std.specs.Result.{result_and}
use Rattle.laws.specs.Checks.{◌then◌}
use Rattle.refusal.specs.Refusal.{refusal_of}
use Rattle.refusal.specs.declared.Refusal.{Refusal}
use Rattle.refusal.specs.Laws.Refusal.{then_err, then_ok}

pub both : {A B : Type 0} (q : Result B Refusal) (r : Result A Refusal) (s : Result B Refusal) (a b : ℕ)
    → q ≡ result_and r s → refusal_of r ≡ a → refusal_of s ≡ b → refusal_of q ≡ a then b
both q (Ok x) s a b d e f = rw d (then_ok _ a b e f)
both q (Err x) s a b d e f = rw d (then_err x a b e)
