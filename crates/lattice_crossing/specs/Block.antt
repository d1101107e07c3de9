-- Where a block stands that edges are crossed from.
use Rattle.std.specs.Prelude.{ℕ, ◌+◌, ◌<◌, ◌≤◌}
use Rattle.limits.specs.Limits.{max_nodes}

-- the block of w nodes at a, among n nodes: if it is not the last, another of w nodes stands after it
pub record BlockAt (n a w : ℕ) : Type 0 where
  pub few : n ≤ max_nodes
  pub ends : a + w ≤ n
  pub next : a + w < n → a + w + w ≤ n
