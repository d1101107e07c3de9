-- What functions that cross edges ask for and promise: the budget may run out.
use Rattle.std.specs.Prelude.{ℕ, zero, ◌+◌, ◌*◌, ◌<◌, ◌≤◌, true, List, Result, is_ok, IfOk, ◌≡◌, leb, length}
use Rattle.lattice_nodes.specs.Steps.{updated, entered_byte}
use Rattle.lattice_stretch.specs.declared.Budget.{Budget}
use Rattle.lattice_stretch.specs.declared.OverBudget.{OverBudget}

-- crossing the edges that lead to `targets`: whether the budget is enough, and if so what is left of it and the bytes
pub record Crosses (targets : List ℕ) (budget : Budget) (before after : List ℕ) (r : Result Budget OverBudget)
    : Type 0 where
  pub enough : is_ok r ≡ leb (length targets) budget.left
  pub counted : IfOk r (λ rest. rest.left + length targets ≡ budget.left)
  pub entered : is_ok r ≡ true → after ≡ updated entered_byte targets before

-- n nodes are whole blocks of `span` nodes, made of blocks of w nodes
pub record Split (n span w : ℕ) : Type 0 where
  pub blocks : ℕ
  pub all : n ≡ blocks * span
  pub some : zero < span
  pub low : w ≤ span
