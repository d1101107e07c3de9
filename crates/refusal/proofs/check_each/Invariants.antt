use Rattle.std.proofs.Common.{◌≡◌, ℕ, ◌<◌}
use Rattle.laws.specs.First.{first_at, is_refusal}
use Rattle.refusal.specs.Refusal.{refusal_of}
use Rattle.refusal.proofs.check_each.Given as goal

abbrev pub invariant-loop-i : goal.invariant-loop-i
invariant-loop-i g l = (f : ℕ → ℕ) → ((i : ℕ) (r : _) → i < l.n → goal.F-post g l.check i r → refusal_of r ≡ f i) → first_at (is_refusal f) l.i ≡ l.i
