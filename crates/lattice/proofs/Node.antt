-- The number of the node of a row of a table, by its levels in one plane or in two.
use Rattle.std.specs.Prelude.{◌≡◌, ℕ, ◌+◌, ◌*◌, ◌<◌, ◌≤◌, List, length, take, drop}
use Rattle.std.proofs.Common.{arith, length-take-le, lt-ltb, le-ltb}
use Rattle.lattice.specs.Ids.{node_at, node_by, Placed}

module _ (ws table : List ℕ) (r : ℕ) where
  pub one_is : length ws ≤ 8 → node_by ws table r ≡ node_at ws table (8 * r)
  unfolding node_by
  one_is few = rw (le-ltb 8 (length ws) few)

  pub two_are : 8 < length ws
      → node_by ws table r ≡ node_at (take 8 ws) table (8 * r) + node_at (drop 8 ws) table (8192 + 8 * r)
  unfolding node_by
  two_are many = rw (lt-ltb 8 (length ws) many)

  pub near_fits : Placed ws table r → 8 < length ws → 8 * r + length (take 8 ws) ≤ length table
  near_fits p many = omega (arith, p.near, length-take-le 8 ws (omega arith))

pub ruleset nodes = (one_is, two_are, near_fits)
