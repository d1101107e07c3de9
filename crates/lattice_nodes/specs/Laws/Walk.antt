-- The walk upward from the held nodes crosses exactly the edges that leave reached nodes, and leaves each node its
-- byte; a row is best exactly where its node's byte is 1.
use Rattle.std.specs.Prelude.{◌≡◌, Bool, true, false, ◌||◌, eqb, get_or, replicate}
use Rattle.std.proofs.Math.Path.{refl, sym}
use Rattle.std.proofs.Common.{ap, ◌∙◌, le_refl, le_of_lt}
use Rattle.std.proofs.Math.Bool.{cond}
use mathlib.Core.List.{List, [], ◌∷◌, ◌++◌}
use Prim.Native.Nat.{ℕ, zero, suc, ◌<◌, ◌≤◌}
use native.Mathlib.Omega.{arith}
use Rattle.std.proofs.Math.ListN.{length}
use Rattle.std.proofs.lemmas.List.{length-replicate, get_or-replicate}
use Rattle.std.proofs.Math.Seq.{ext_get_or}
use Rattle.laws.specs.Lists.{joined, any_of}
use Rattle.laws.specs.Laws.Joined.{singles_length, singles_at}
use Rattle.preference.specs.Laws.Parts.{Within}
use Rattle.pareto.specs.Dominance.{dominates}
use Rattle.lattice_nodes.specs.Lattice.{node_count, node_id, held, dominated_node, reached, edges_from, edges}
use Rattle.lattice_nodes.specs.Lattice.{crossed_at, byte_of, node_byte, node_bytes}
use Rattle.lattice_nodes.specs.Steps.{weights_of, updated, held_byte, opened, entered_byte, trail, byte_mark}
use Rattle.lattice_nodes.specs.Laws.Some.{All, among}
use Rattle.lattice_nodes.specs.Laws.Ids.{levels_id}
use Rattle.lattice_nodes.specs.Laws.Edges.{dominated_crossed}
use Rattle.lattice_nodes.specs.Laws.Steps.{edges_by_lem, length_updated, get_or_updated, opened_length, entered_once}

held_first : (h : Bool) → ◌≡◌ {A = ℕ} (cond h 1 0) (byte_of h false)
held_first true = refl
held_first false = refl

entered_byte_lem : (a h : Bool) → cond a (entered_byte (byte_of h false)) (byte_of h false) ≡ byte_of h a
unfolding entered_byte
entered_byte_lem true true = refl
entered_byte_lem true false = refl
entered_byte_lem false h = refl

-- what is crossed at a node, by whether its byte is 0
by_byte : (h p : Bool) (es : List ℕ) → cond (eqb (byte_of h p) 0) [] es ≡ cond (h || p) es []
by_byte true true es = refl
by_byte true false es = refl
by_byte false true es = refl
by_byte false false es = refl

-- numbers are those of the held nodes
module _ (tops : List ℕ) (rows : List (List ℕ)) (valid : All (Within tops) rows) (ids : List ℕ)
    (holds : (y : ℕ) → y < node_count tops → among y ids ≡ held tops rows y) where
  -- the bytes before the walk, and once the edges that leave reached nodes below x are crossed
  abbrev first : List ℕ
  first = opened (node_count tops) ids

  abbrev later : ℕ → List ℕ
  later x = updated entered_byte (joined (crossed_at tops rows) x) first

  first_size : length first ≡ node_count tops
  first_size = opened_length (node_count tops) ids

  first_byte : (y : ℕ) → y < node_count tops → get_or first y 0 ≡ byte_of (held tops rows y) false
  first_byte y h =
      get_or_updated held_byte (λ b. refl) ids (replicate (node_count tops) 0) y
      (rw (length-replicate {A = ℕ} (node_count tops) 0) h)
      ∙ rw (holds y h, get_or-replicate {A = ℕ} (node_count tops) y 0 0 h) (held_first (held tops rows y))

  -- a node's byte is final once the walk has passed the nodes below it
  final_byte : (x y : ℕ) → y < node_count tops → y ≤ x → get_or (later x) y 0 ≡ node_byte tops rows y
  unfolding node_byte
  final_byte x y h k =
      get_or_updated entered_byte entered_once (joined (crossed_at tops rows) x) first y (rw first_size h)
      ∙ rw (first_byte y h, dominated_crossed tops rows valid x y h k)
      (entered_byte_lem (dominated_node tops rows y) (held tops rows y))

  -- the walk crosses the edges that leave reached nodes, each once, and no others
  pub trail_crossed : (x : ℕ) → x ≤ node_count tops → trail (weights_of tops) first x ≡ joined (crossed_at tops rows) x
  unfolding trail joined
  trail_crossed zero h = refl
  trail_crossed (suc x) h =
      rw (trail_crossed x (le_of_lt h), final_byte x x h (le_refl x), first_size, edges_by_lem tops x x)
      (ap (λ (l : List ℕ). joined (crossed_at tops rows) x ++ l) here)
    where
      here : cond (eqb (node_byte tops rows x) 0) [] (edges_from tops x x) ≡ crossed_at tops rows x
      here =
          unfold node_byte crossed_at reached edges in
          by_byte (held tops rows x) (dominated_node tops rows x) (edges_from tops x x)

  -- and leaves each node its byte
  pub bytes_final : later (node_count tops) ≡ node_bytes tops rows
  unfolding node_bytes
  bytes_final =
      let size : length (later (node_count tops)) ≡ node_count tops =
      length_updated entered_byte (joined (crossed_at tops rows) (node_count tops)) first ∙ first_size in
      ext_get_or 0 (later (node_count tops)) (joined (λ x. node_byte tops rows x ∷ []) (node_count tops))
      (size ∙ sym (singles_length (node_byte tops rows) (node_count tops)))
      (λ y k.
      let h : y < node_count tops = omega arith in
      final_byte (node_count tops) y h (le_of_lt h) ∙ sym (singles_at (node_byte tops rows) (node_count tops) y h))

-- a row's mark is 1 exactly where the byte of its node is 1
pub mark_byte : (tops : List ℕ) (rows : List (List ℕ)) (v : List ℕ) → Within tops v
    → held tops rows (node_id tops v) ≡ true
    → byte_mark (node_byte tops rows (node_id tops v)) ≡ cond (any_of (λ s. dominates s v) rows) 0 1
unfolding byte_mark node_byte dominated_node
mark_byte tops rows v k t = rw (t, levels_id tops v k) (go (any_of (λ s. dominates s v) rows))
  where
    go : (b : Bool) → ◌≡◌ {A = ℕ} (cond (eqb (byte_of true b) 1) 1 0) (cond b 0 1)
    go true = refl
    go false = refl
