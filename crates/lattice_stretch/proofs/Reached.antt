-- The first reached node.
use Rattle.std.proofs.Common.{◌≡◌, ℕ, ◌<◌, ◌≤◌, length, get_or, List, arith, le_antisymm, ⊎_elim}
use Rattle.std.proofs.lemmas.Bool.{cases_lt}
use Rattle.lattice_nodes.specs.Steps.{first_reached}
use Rattle.lattice_nodes.specs.Laws.FirstReached.{first_low, first_zero, first_found}

-- no node before it is reached, and it is, unless it is the end
pub first_is : (nodes : List ℕ) (f : ℕ) → f ≤ length nodes → ((k : ℕ) → k < f → get_or nodes k 0 ≡ 0)
    → (f < length nodes → get_or nodes f 0 ≡ 0 → ⊥) → f ≡ first_reached nodes
first_is nodes f low before there =
    ⊎_elim
    (λ (l : f < first_reached nodes). absurd (there (omega (arith, first_low nodes)) (first_zero nodes f l)))
    (λ (h : first_reached nodes ≤ f).
    ⊎_elim
    (λ (l : first_reached nodes < f). absurd (first_found nodes (omega arith) (before (first_reached nodes) l)))
    (λ (k : f ≤ first_reached nodes). le_antisymm k h)
    (cases_lt (first_reached nodes) f))
    (cases_lt f (first_reached nodes))
