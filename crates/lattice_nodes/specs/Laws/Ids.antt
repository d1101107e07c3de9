-- Node numbers and level vectors are one to one (000, Theorem 15).
use Rattle.std.specs.Prelude.{◌≡◌, refl, List, [], ◌∷◌, ℕ, zero, ◌+◌, ◌/◌, ◌%◌, ◌<◌, ◌≤◌}
use Rattle.std.proofs.Common.{mul-pos, div-lt_iff_lt-mul, div-add-mod', mod-lt, arith, lit<}
use Rattle.std.proofs.Math.Arith.{digits_lt, digits_div, digits_mod}
use Rattle.preference.specs.Laws.Parts.{Within}
use Rattle.lattice_nodes.specs.Lattice.{node_count, node_id, levels_of}

pub nodes_some : (ms : List ℕ) → zero < node_count ms
unfolding node_count
nodes_some [] = lit< tt
nodes_some (m ∷ ms) = mul-pos (omega arith) (nodes_some ms)

pub id_small : (ms v : List ℕ) → Within ms v → node_id ms v < node_count ms
unfolding node_count node_id
id_small [] [] h = lit< tt
id_small [] (a ∷ v) h = absurd h
id_small (m ∷ ms) [] h = absurd h
id_small (m ∷ ms) (a ∷ v) h = digits_lt (let k : a ≤ m = h.0 in omega arith) (id_small ms v h.1)

-- the vector of a vector's number is the vector
pub levels_id : (ms v : List ℕ) → Within ms v → levels_of ms (node_id ms v) ≡ v
unfolding levels_of node_id
levels_id [] [] h = refl
levels_id [] (a ∷ v) h = absurd h
levels_id (m ∷ ms) [] h = absurd h
levels_id (m ∷ ms) (a ∷ v) h =
    rw (digits_div a (id_small ms v h.1), digits_mod a (id_small ms v h.1), levels_id ms v h.1)

pub levels_of_within : (ms : List ℕ) (x : ℕ) → x < node_count ms → Within ms (levels_of ms x)
unfolding levels_of node_count
levels_of_within [] x h = tt
levels_of_within (m ∷ ms) x h = (
  (let q : x / node_count ms < m + 1 = (div-lt_iff_lt-mul (nodes_some ms)).1 h in omega arith),
  levels_of_within ms (x % node_count ms) (mod-lt x (nodes_some ms)),
)

-- the number of a number's vector is the number
pub id_levels : (ms : List ℕ) (x : ℕ) → x < node_count ms → node_id ms (levels_of ms x) ≡ x
unfolding levels_of node_count node_id
id_levels [] x h = omega arith
id_levels (m ∷ ms) x h = rw (id_levels ms (x % node_count ms) (mod-lt x (nodes_some ms)))
    (div-add-mod' x (node_count ms))
