-- What the engine on weights and node numbers promises.
use Rattle.std.specs.Prelude.{ℕ, cond, List, Result, is_ok, IfOk, ◌≡◌, leb, length, replicate}
use Rattle.lattice_nodes.specs.Steps.{updated, opened, entered_byte, trail, marked_by}
use Rattle.lattice_stretch.specs.declared.OverBudget.{OverBudget}

-- the engine on weights and node numbers, for n nodes
abbrev pub crossed : List ℕ → List ℕ → ℕ → List ℕ
crossed weights ids n = trail weights (opened n ids) n

pub record Settles (weights ids : List ℕ) (n budget : ℕ) (marks : List ℕ) (r : Result ℕ OverBudget)
    (marks' nodes' : List ℕ) : Type 0 where
  pub enough : is_ok r ≡ leb (length (crossed weights ids n)) budget
  pub counted : IfOk r (λ count. count ≡ length (crossed weights ids n))
  pub nodes_are : nodes' ≡ cond (is_ok r) (updated entered_byte (crossed weights ids n) (opened n ids)) (replicate n 0)
  pub marks_are : marks' ≡ cond (is_ok r) (marked_by nodes' ids) marks
