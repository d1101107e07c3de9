use Rattle.std.proofs.Common.{◌≡◌, ℕ, ◌*◌, List, ◌++◌, Ok, length, drop}
use Rattle.lattice_nodes.specs.Lattice.{node_count}
use Rattle.lattice_nodes.specs.Steps.{Weights}
use Rattle.lattice_nodes.specs.Laws.Whole.{all_parts}
use Rattle.lattice_stretch.specs.declared.Budget.{Budget}
use Rattle.lattice_stretch.specs.Crossed.{Crosses}
use Rattle.lattice_walk.proofs.cross_whole.Given as goal

-- the parts from i on are left: the nodes are `blocks` blocks over them
pub record Far (ws : List ℕ) (budget budget' : Budget) (nodes₀ nodes : List ℕ) (span i : ℕ) : Type 0 where
  pub lattice : Weights ws (length nodes₀)
  pub here : span ≡ node_count (drop i lattice.tops)
  pub blocks : ℕ
  pub all : length nodes₀ ≡ blocks * span
  pub done : List ℕ
  pub crossed : Crosses done budget nodes₀ nodes (Ok budget')
  pub left : done ++ all_parts blocks (drop i lattice.tops) ≡ all_parts 1 lattice.tops

abbrev pub invariant-loop-weight : goal.invariant-loop-weight
invariant-loop-weight l = Far l.weights l.initial.budget l.budget l.initial.nodes l.nodes l.span l.weight-index
