-- The blocks of nodes that the walk's functions ask for.
use Rattle.std.specs.Prelude.{ℕ, zero, ◌<◌, ◌≤◌, List, ◌≡◌, length, get_or}
use Rattle.limits.specs.Limits.{max_nodes}
use Rattle.lattice_nodes.specs.Steps.{Weights, first_reached}

-- a lattice that the engine takes: the weights of its parts, and its nodes
pub record Small (weights : List ℕ) (n : ℕ) : Type 0 where
  pub lattice : Weights weights n
  pub nodes : n ≤ max_nodes

-- nodes of which the one at f, which is not the first, is the first that is reached; the blocks of the parts after the
-- first are rows
pub record Rows (weights nodes : List ℕ) (f : ℕ) : Type 0 where
  pub rows : get_or weights 1 0 ≡ 1
  pub first : f ≡ first_reached nodes
  pub later : zero < f
  pub reached : f < length nodes
