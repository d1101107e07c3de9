-- Weights told from the last part on.
use Rattle.std.specs.Prelude.{◌≡◌, ℕ, suc, ◌+◌, ◌-◌, ◌*◌, ◌<◌, ◌≤◌, List, [], ◌∷◌, ◌++◌, get_or, length, drop, reverse}
use Rattle.std.proofs.Common.{◌∙◌, refl, arith, drop-cons, length-drop, mul_comm, lt-ltb, le-ltb}
use Rattle.std.proofs.Math.Nat.{mul-le-mul}
use Rattle.std.proofs.Math.Seq.{drop-length}
use Rattle.std.proofs.lemmas.List.{reverse-append, reverse-reverse, length-reverse}
use Rattle.laws.specs.Laws.Checks.{gives_yes, gives_no}
use Rattle.preference.specs.Valid.{list_refusal}
use Rattle.preference.specs.Parts.{max_levels}
use Rattle.preference.specs.Laws.Parts.{max_levels_small, at_most_at}
use Rattle.preference.specs.declared.PreferenceList.{PreferenceList}
use Rattle.lattice_nodes.specs.Lattice.{node_count}
use Rattle.lattice_nodes.specs.Steps.{weights_of}
use Rattle.lattice_nodes.specs.Laws.Steps.{weights_length, drop_nodes}
use Rattle.lattice.specs.Laws.Walked.{tops_are, tops_few}

module _ (ms : List ℕ) where
  -- past the last part
  pub nodes_end : node_count (drop (length ms) ms) ≡ 1
  nodes_end = rw (drop-length ms) (unfold node_count in refl)

  pub weights_end : reverse (weights_of (drop (length ms) ms)) ≡ []
  weights_end = rw (drop-length ms) (unfold weights_of in refl)

  pub weights_long : (i : ℕ) → length (reverse (weights_of (drop i ms))) ≡ length ms - i
  weights_long i = rw (length-reverse (weights_of (drop i ms)), weights_length (drop i ms), length-drop i ms)

  -- one part more
  module _ (i : ℕ) (some : 0 < i) (within : i ≤ length ms) where
    split : drop (i - 1) ms ≡ get_or ms (i - 1) 0 ∷ drop i ms
    split = let above : suc (i - 1) ≡ i = omega arith in drop-cons ms (i - 1) 0 (omega arith) ∙ rw above

    pub nodes_more : node_count (drop i ms) * (get_or ms (i - 1) 0 + 1) ≡ node_count (drop (i - 1) ms)
    unfolding node_count
    nodes_more = rw split (mul_comm (node_count (drop i ms)) (get_or ms (i - 1) 0 + 1))

    pub weights_more : reverse (weights_of (drop (i - 1) ms)) ≡ reverse (weights_of (drop i ms)) ++ (node_count (drop i ms) ∷ [])
    unfolding weights_of
    weights_more = rw split (reverse-append (node_count (drop i ms) ∷ []) (weights_of (drop i ms)))

  -- turned round, they are in order
  pub weights_turned : reverse (reverse (weights_of (drop 0 ms))) ≡ weights_of ms
  weights_turned = reverse-reverse (weights_of ms)

-- greatest levels are small, and so is a product of them
pub top_small : (l : PreferenceList) (k : ℕ) → list_refusal l ≡ 0 → get_or (max_levels l) k 0 ≤ 65535
top_small l k a = at_most_at 65535 (max_levels l) (max_levels_small l a) k

pub product_small : (n top : ℕ) → n ≤ 32768 → top ≤ 65535 → n * (top + 1) ≤ 2147483648
product_small n top h k = let b : top + 1 ≤ 65536 = omega arith in mul-le-mul h b

pub ruleset weighing = (
  nodes_end,
  weights_end,
  weights_long,
  nodes_more,
  weights_more,
  weights_turned,
  top_small,
  product_small,
  drop_nodes,
  tops_are,
  tops_few,
  gives_yes,
  gives_no,
  lt-ltb,
  le-ltb,
)
