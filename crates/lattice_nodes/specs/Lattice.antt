-- Document 01, "Lattice engine" (000: the better-than graph of a Pareto preference). A lattice is given by `tops`, the
-- greatest level of each part of a level vector; `rows` are the level vectors of the competing rows.
use Rattle.std.specs.Prelude.{ℕ, ◌+◌, ◌*◌, ◌/◌, ◌%◌, Bool, true, false, cond, ◌||◌, List, [], ◌∷◌, ◌++◌, ltb, eqb, length}
use Rattle.laws.specs.Lists.{joined, any_of}
use Rattle.pareto.specs.Dominance.{dominates}

-- "Nodes are all combinations of levels, their number the product of the M + 1" (000, Theorem 10)
unfoldable pub node_count : List ℕ → ℕ
node_count [] = 1
node_count (m ∷ ms) = (m + 1) * node_count ms

-- "A node's number has the first wish as highest digit, in bases M + 1." (000, Def. 23: node ID)
unfoldable pub node_id : List ℕ → List ℕ → ℕ
node_id [] v = 0
node_id (m ∷ ms) [] = 0
node_id (m ∷ ms) (a ∷ v) = a * node_count ms + node_id ms v

-- the level vector of the node with a number (000, Lemma 9)
unfoldable pub levels_of : List ℕ → ℕ → List ℕ
levels_of [] x = []
levels_of (m ∷ ms) x = x / node_count ms ∷ levels_of ms (x % node_count ms)

-- "A competing row holds the node of its levels"
unfoldable pub held : List ℕ → List (List ℕ) → ℕ → Bool
held tops rows x = any_of (λ v. eqb (node_id tops v) x) rows

-- "nodes better each other as rows do": the node of a row dominates node x
unfoldable pub dominated_node : List ℕ → List (List ℕ) → ℕ → Bool
dominated_node tops rows x = any_of (λ v. dominates v (levels_of tops x)) rows

-- "A node is reached if a row holds it or a held node betters it."
unfoldable pub reached : List ℕ → List (List ℕ) → ℕ → Bool
reached tops rows x = held tops rows x || dominated_node tops rows x

-- the edges of node x for the last parts of a vector, where r is what is left of x for them
unfoldable pub edges_from : List ℕ → ℕ → ℕ → List ℕ
edges_from [] x r = []
edges_from (m ∷ ms) x r =
    cond (ltb (r / node_count ms) m) ((x + node_count ms) ∷ []) [] ++ edges_from ms x (r % node_count ms)

-- "From each node leaves one edge for each wish whose level there is below M.": the numbers of the nodes that they lead
-- to
unfoldable pub edges : List ℕ → ℕ → List ℕ
edges tops x = edges_from tops x x

-- "The engine crosses each edge that leaves a reached node, once": those of node x
unfoldable pub crossed_at : List ℕ → List (List ℕ) → ℕ → List ℕ
crossed_at tops rows x = cond (reached tops rows x) (edges tops x) []

-- "the number of these edges is the log's crossings"
unfoldable pub crossings : List ℕ → List (List ℕ) → ℕ
crossings tops rows = length (joined (crossed_at tops rows) (node_count tops))

unfoldable pub bound_from : ℕ → List ℕ → ℕ
bound_from n [] = 0
bound_from n (m ∷ ms) = n / (m + 1) * m + bound_from n ms

-- the number of edges of the whole lattice (000, Theorem 11)
unfoldable pub bound : List ℕ → ℕ
bound tops = bound_from (node_count tops) tops

-- "0 unreached, 1 held and not bettered, 2 bettered and not held, 3 both", by whether a node is held and whether it is
-- dominated
abbrev pub byte_of : Bool → Bool → ℕ
byte_of false false = 0
byte_of true false = 1
byte_of false true = 2
byte_of true true = 3

unfoldable pub node_byte : List ℕ → List (List ℕ) → ℕ → ℕ
node_byte tops rows x = byte_of (held tops rows x) (dominated_node tops rows x)

unfoldable pub node_bytes : List ℕ → List (List ℕ) → List ℕ
node_bytes tops rows = joined (λ x. node_byte tops rows x ∷ []) (node_count tops)
