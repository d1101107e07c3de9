-- The number of a row's node is the sum of its levels in the level table, each times its weight.
use Rattle.std.specs.Prelude.{◌≡◌, refl, ℕ, zero, suc, ◌+◌, ◌-◌, ◌*◌, ◌<◌, ◌≤◌, Bool, true, List, [], ◌∷◌, get_or, take, drop}
use Rattle.std.proofs.Math.Path.{sym}
use Rattle.std.proofs.Common.{ap, ap₂, ◌∙◌, zero-add, add-zero, add-one, le_refl, eq-or-lt_of_le, le_of_suc-le-suc, lt_of_lt_of_le, ⊎_elim, drop_of_length-le, get_or-drop, lt-ltb, le-ltb}
use native.Mathlib.Omega.{arith}
use Rattle.std.proofs.Math.Bool.{false}
use Rattle.std.proofs.Math.Arith.{le-zero}
use Rattle.std.proofs.Math.ListN.{length, length-drop}
use Rattle.std.proofs.Math.Seq.{get_or-take, length-take-le}
use Rattle.laws.specs.Lists.{joined}
use Rattle.laws.specs.Laws.Joined.{joined_cong}
use Rattle.run_log.specs.Log.{Log, row_count}
use Rattle.preference.specs.Laws.Parts.{Within}
use Rattle.preference.specs.declared.PreferenceList.{PreferenceList}
use Rattle.pareto.specs.Best.{vector_at}
use Rattle.pareto.specs.Checked.{rows_refusal}
use Rattle.level_table.specs.Table.{is_wide, table_of}
use Rattle.level_table.specs.Laws.Table.{table_long, table_narrow, table_wide}
use Rattle.pareto.specs.Laws.Table.{table_at, table_behind}
use Rattle.lattice_nodes.specs.Lattice.{node_id}
use Rattle.lattice_nodes.specs.Steps.{weights_of}
use Rattle.lattice_nodes.specs.Laws.Ids.{id_small}
use Rattle.lattice_nodes.specs.Laws.Steps.{weights_length, id_more}
use Rattle.lattice.specs.Walked.{lattice_tops, lattice_row}
use Rattle.lattice.specs.Ids.{Weighed, levels_node, row_node, row_nodes, weighed, node_by, id_by, Placed, Tabled}
use Rattle.lattice.specs.Laws.Walked.{tops_few, narrow_tops, wide_tops, row_is}
use Rattle.lattice.specs.Laws.Rows.{row_within}

pub weighed_none : (weights table : List ℕ) (at : ℕ) → weighed weights table at 0 ≡ 0
unfolding weighed
weighed_none weights table at = refl

-- one level more
pub weighed_more : (weights table : List ℕ) (at k : ℕ)
    → weighed weights table at (k + 1) ≡ weighed weights table at k + get_or table (at + k) 0 * get_or weights k 0
unfolding weighed
weighed_more weights table at k = rw (add-one k)

-- a sum does not fall by going on
pub weighed_grows : (weights table : List ℕ) (at k n : ℕ) → k ≤ n
    → weighed weights table at k ≤ weighed weights table at n
unfolding weighed
weighed_grows weights table at k zero h = rw (le-zero h) (le_refl _)
weighed_grows weights table at k (suc n) h =
    ⊎_elim (λ e. rw e (le_refl _))
    (λ (l : k < suc n). omega (arith, weighed_grows weights table at k n (le_of_suc-le-suc l))) (eq-or-lt_of_le h)

-- a level more keeps a sum within the whole
pub weighed_within : (weights table : List ℕ) (at k : ℕ) → k < length weights
    → weighed weights table at k + get_or table (at + k) 0 * get_or weights k 0
    ≤ weighed weights table at (length weights)
weighed_within weights table at k h =
    let g = weighed_grows weights table at (k + 1) (length weights) (omega arith) in
    omega (arith, weighed_more weights table at k)

pub ruleset summing = (weighed_none, weighed_more, weighed_within)

-- the sum so far and the number of the levels from n on are the vector's number
total : (tops v table : List ℕ) (at : ℕ) → Within tops v
    → ((k : ℕ) → k < length tops → get_or table (at + k) 0 ≡ get_or v k 0) → (n : ℕ) → n ≤ length tops
    → weighed (weights_of tops) table at n + node_id (drop n tops) (drop n v) ≡ node_id tops v
unfolding weighed
total tops v table at w same zero h = zero-add (node_id tops v)
total tops v table at w same (suc n) h =
    rw (same n h) (omega (arith, total tops v table at w same n (omega arith), id_more tops v n w h))

weighed_id : (tops v table : List ℕ) (at : ℕ) → Within tops v
    → ((k : ℕ) → k < length tops → get_or table (at + k) 0 ≡ get_or v k 0)
    → weighed (weights_of tops) table at (length tops) ≡ node_id tops v
unfolding node_id
weighed_id tops v table at w same =
    sym (add-zero _)
    ∙ (rw (drop_of_length-le tops {i = length tops} (le_refl _)) at
    (total tops v table at w same (length tops) (le_refl _)))

-- only the levels and the weights matter
weighed_cong : (ws us t u : List ℕ) (p q n : ℕ) → ((k : ℕ) → k < n → get_or t (p + k) 0 ≡ get_or u (q + k) 0)
    → ((k : ℕ) → k < n → get_or ws k 0 ≡ get_or us k 0) → weighed ws t p n ≡ weighed us u q n
unfolding weighed
weighed_cong ws us t u p q zero h g = refl
weighed_cong ws us t u p q (suc n) h g =
    let e = weighed_cong ws us t u p q n (λ k l. h k (omega arith)) (λ k l. g k (omega arith)) in
    rw (h n (omega arith), g n (omega arith), e)

-- the first m of them, and those behind
weighed_append : (ws t : List ℕ) (p m n : ℕ)
    → weighed ws t p (m + n) ≡ weighed ws t p m + weighed (drop m ws) t (p + m) n
unfolding weighed
weighed_append ws t p m zero = rw (add-zero m) (sym (add-zero (weighed ws t p m)))
weighed_append ws t p m (suc n) =
    let e : m + suc n ≡ suc (m + n) = omega arith in
    let q : p + (m + n) ≡ p + m + n = omega arith in
    rw (e, q, get_or-drop m ws n 0) (omega (arith, weighed_append ws t p m n))

-- levels in one plane, or in two
module _ (tops v table : List ℕ) (r : ℕ) (w : Within tops v) where
  node_near : length tops ≤ 8 → ((k : ℕ) → k < length tops → get_or table (8 * r + k) 0 ≡ get_or v k 0)
      → node_by (weights_of tops) table r ≡ node_id tops v
  unfolding node_by
  node_near few same =
      rw (le-ltb 8 (length (weights_of tops)) (omega (arith, weights_length tops)), weights_length tops)
      (weighed_id tops v table (8 * r) w same)

  node_far : 8 < length tops → ((k : ℕ) → k < 8 → get_or table (8 * r + k) 0 ≡ get_or v k 0)
      → ((k : ℕ) → 8 + k < length tops → get_or table (8192 + 8 * r + k) 0 ≡ get_or v (8 + k) 0)
      → node_by (weights_of tops) table r ≡ node_id tops v
  unfolding node_by
  node_far many near far =
      let ws = weights_of tops in
      let long = weights_length tops in
      let n = length tops - 8 in
      let first = length-take-le 8 ws (omega arith) in
      let rest : length (drop 8 ws) ≡ n = omega (arith, length-drop 8 ws) in
      let sum : 8 + n ≡ length tops = omega arith in
      rw (lt-ltb 8 (length ws) (omega arith), first, rest)
      (ap₂ (λ (a b : ℕ). a + b)
      (weighed_cong (take 8 ws) ws table v (8 * r) 0 8 (λ k h. near k h ∙ rw (zero-add k))
      (λ k h. get_or-take 8 ws k 0 h))
      (weighed_cong (drop 8 ws) (drop 8 ws) table v (8192 + 8 * r) (0 + 8) n (λ k h. far k (omega arith)) (λ k h. refl))
      ∙ sym (weighed_append ws v 0 8 n)
      ∙ rw sum (weighed_id tops v v 0 w (λ k h. rw (zero-add k))))

module _ (l : PreferenceList) (log : Log) (weights : List ℕ) (w : Weighed l weights)
    (z : rows_refusal l log.values ≡ 0) (few : row_count log.values ≤ 1024) where
  node_by_lem : (r : ℕ) → r < row_count log.values → node_by weights (table_of l log.values) r ≡ levels_node l log r
  node_by_lem r h = rw w.weights_are (go (is_wide l) refl)
    where
      within : Within (lattice_tops l) (lattice_row l log r)
      within = row_within l log w.list_accepted z r h

      near : (k : ℕ) → k < 8 → get_or (table_of l log.values) (8 * r + k) 0 ≡ get_or (lattice_row l log r) k 0
      near k q = rw (row_is l log r) (unfold vector_at in table_at l log.values w.list_accepted z few r k h q)

      go : (t : Bool) → is_wide l ≡ t
          → node_by (weights_of (lattice_tops l)) (table_of l log.values) r ≡ levels_node l log r
      go true e =
          node_far (lattice_tops l) (lattice_row l log r) (table_of l log.values) r within (wide_tops l e) near
          (λ k q. let j : k < 8 = omega (arith, tops_few l) in
          rw (row_is l log r) (unfold vector_at in table_behind l log.values w.list_accepted z few e r k h j))
      go false e =
          node_near (lattice_tops l) (lattice_row l log r) (table_of l log.values) r within (narrow_tops l e)
          (λ k q. near k (lt_of_lt_of_le q (narrow_tops l e)))

  placed : (r : ℕ) → r < row_count log.values → Placed weights (table_of l log.values) r
  placed r h = go (is_wide l) refl
    where
      count : length weights ≡ length (lattice_tops l)
      count = ap length w.weights_are ∙ weights_length (lattice_tops l)

      go : (t : Bool) → is_wide l ≡ t → Placed weights (table_of l log.values) r
      go true e =
          let n = table_long l log.values ∙ table_wide l log.values e in
          record {
            near = omega arith;
            far = λ q. omega (arith, length-drop 8 weights, count, tops_few l);
          }
      go false e =
          let n = table_long l log.values ∙ table_narrow l log.values e in
          record { near = omega arith; far = λ q. absurd (omega (arith, count, narrow_tops l e)) }

  pub rows_tabled : Tabled weights (table_of l log.values) (row_count log.values)
  rows_tabled =
      record {
        few = few;
        inside = placed;
        small =
            λ r h. rw (node_by_lem r h)
            (lt_of_lt_of_le (id_small (lattice_tops l) (lattice_row l log r) (row_within l log w.list_accepted z r h))
            w.few);
      }

  pub rows_numbered : joined (λ r. id_by weights (table_of l log.values) log r ∷ []) (row_count log.values)
      ≡ row_nodes l log
  unfolding row_nodes row_node id_by
  rows_numbered = joined_cong _ (λ r. row_node l log r ∷ []) (row_count log.values) (λ r h. rw (node_by_lem r h))
