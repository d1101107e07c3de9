-- What `first_place` promises, said by the search that counts up.
use Rattle.std.specs.Prelude.{◌≡◌, refl, ℕ, ◌<◌, ◌≤◌, Bool, true, false}
use Rattle.std.proofs.Common.{le_antisymm, ⊎_elim, zero-add}
use Rattle.std.proofs.lemmas.Bool.{cases_lt}
use Rattle.laws.specs.First.{first_at}
use Rattle.laws.specs.Laws.First.{search_past, search_hit}

-- a place with no hit before it, and one there unless it is the end
pub first_found : (p : ℕ → Bool) (n k : ℕ) → k ≤ n → ((i : ℕ) → i < k → p i ≡ false) → (k < n → p k ≡ true)
    → first_at p n ≡ k
unfolding first_at
first_found p n k h before there =
    ⊎_elim (λ l. search_hit p k n none (there l) l)
    (λ (l : n ≤ k). rw (← le_antisymm h l) none)
    (cases_lt k n)
  where
    none : first_at p k ≡ k
    none = rw zero-add at (search_past p 0 k refl (λ i l. rw zero-add (before i l)))
