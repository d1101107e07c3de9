-- What the engine's own functions do, step by step, over weights, node numbers and bytes. Laws/Walk says what it comes
-- to.
use Rattle.std.specs.Prelude.{ℕ, zero, suc, ◌+◌, ◌-◌, ◌*◌, ◌%◌, cond, List, [], ◌∷◌, ◌++◌, map, ◌≡◌, ltb, eqb, length, get_or, set, take, drop, replicate}
use Rattle.std.specs.Int.Bits.{bit_or}
use Rattle.laws.specs.Lists.{joined}
use Rattle.lattice_nodes.specs.Lattice.{node_count}

-- the weight of each part: the number of nodes over the parts after it (000, Def. 23)
unfoldable pub weights_of : List ℕ → List ℕ
weights_of [] = []
weights_of (m ∷ ms) = node_count ms ∷ weights_of ms

-- weights and a number of nodes that belong to one lattice
pub record Weights (weights : List ℕ) (count : ℕ) : Type 0 where
  pub tops : List ℕ
  pub weights_are : weights ≡ weights_of tops
  pub count_is : count ≡ node_count tops

-- the edges of node x for the parts with weights ws, over which there are n nodes, where r is what is left of x for
-- them
unfoldable pub edges_by : ℕ → List ℕ → ℕ → ℕ → List ℕ
edges_by n [] x r = []
edges_by n (w ∷ ws) x r = cond (ltb (r + w) n) ((x + w) ∷ []) [] ++ edges_by w ws x (r % w)

-- ---- blocks of nodes: those that differ in the levels of the last parts alone stand side by side

-- d numbers from a on
unfoldable pub stretch : ℕ → ℕ → List ℕ
stretch a zero = []
stretch a (suc d) = a ∷ stretch (suc a) d

-- the edges for one part between all nodes of c blocks of `span` nodes each, where w is the part's weight
unfoldable pub part_edges : ℕ → ℕ → ℕ → List ℕ
part_edges span w c = joined (λ q. stretch (q * span + w) (span - w)) c

-- the place of the first byte that is not 0; the number of bytes where there is none
unfoldable pub first_reached : List ℕ → ℕ
first_reached [] = 0
first_reached (b ∷ bs) = cond (eqb b 0) (suc (first_reached bs)) 0

-- the edges from the reached ones among the first d nodes to the nodes w further on
unfoldable pub stage_edges : ℕ → List ℕ → ℕ → List ℕ
stage_edges w b d = joined (λ j. cond (eqb (get_or b j 0) 0) [] ((w + j) ∷ [])) d

-- the edges of a block that begins at a
abbrev pub shifted : ℕ → List ℕ → List ℕ
shifted a ts = map (λ t. a + t) ts

-- the edges from the reached nodes of the block of w nodes at a to the block after it, if there is one
unfoldable pub onward_edges : ℕ → List ℕ → ℕ → List ℕ
onward_edges w b a = cond (ltb (a + w) (length b)) (shifted a (stage_edges w (drop a b) w)) []

-- the edges that leave the row of w nodes at a once it is walked, which is from its first reached node on: along it,
-- and to the row after it, if there is one
unfoldable pub row_edges : ℕ → List ℕ → ℕ → List ℕ
row_edges w b a =
    let f = first_reached (take w (drop a b)) in
    stretch (a + f + 1) (w - f - 1) ++ cond (ltb (a + w) (length b)) (stretch (a + f + w) (w - f)) []

-- ---- bytes

-- f put to use at each of the places ts; places past the end change nothing
unfoldable pub updated : (ℕ → ℕ) → List ℕ → List ℕ → List ℕ
updated f [] b = b
updated f (t ∷ ts) b = updated f ts (set b t (f (get_or b t 0)))

-- a node's byte once a row holds it, before the walk
abbrev pub held_byte : ℕ → ℕ
held_byte b = 1

-- the bytes of n nodes before the walk, where rows hold those with the numbers given
abbrev pub opened : ℕ → List ℕ → List ℕ
opened n ids = updated held_byte ids (replicate n 0)

-- a node's byte once an edge to it is crossed: 2 is its bit for "bettered"
unfoldable pub entered_byte : ℕ → ℕ
entered_byte b = bit_or b 2

-- the edges crossed at the nodes below x by a walk upward that begins with the bytes b: those of each node whose byte
-- is not 0 by then
unfoldable pub trail : List ℕ → List ℕ → ℕ → List ℕ
trail ws b zero = []
trail ws b (suc x) =
    trail ws b x ++ cond (eqb (get_or (updated entered_byte (trail ws b x) b) x 0) 0) [] (edges_by (length b) ws x x)

-- the mark of a row by its node's byte
unfoldable pub byte_mark : ℕ → ℕ
byte_mark b = cond (eqb b 1) 1 0

-- the marks by the bytes of the rows' nodes
unfoldable pub marked_by : List ℕ → List ℕ → List ℕ
marked_by b ids = joined (λ r. byte_mark (get_or b (get_or ids r 0) 0) ∷ []) (length ids)
