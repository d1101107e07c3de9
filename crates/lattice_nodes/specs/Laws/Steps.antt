-- The steps of the engine's functions: edges by weights, and what stands at each place after updates.
use Rattle.std.specs.Prelude.{◌≡◌, Bool, true, false, cond, ◌||◌, ltb, eqb, length, get_or, drop, replicate}
use Rattle.std.proofs.Math.Path.{refl}
use Rattle.std.proofs.Common.{sym, ap, ◌∙◌, div-lt_iff_lt-mul, add-mul, one-mul, le_of_suc-le-suc, not-suc-le-zero, le_refl, le_trans, le-add_left, mod-lt, arith, lit<, get_or-set_same, get_or-set_other, lt-ltb, ltb-true, eq-eqb, ne_eqb}
use mathlib.Core.List.{List, [], ◌∷◌, ◌++◌}
use Prim.Native.Nat.{ℕ, zero, suc, ◌+◌, ◌*◌, ◌/◌, ◌%◌, ◌<◌, ◌≤◌}
use Rattle.std.proofs.Math.Decide.{ℕ_discrete}
use Rattle.std.specs.Int.Bits.{or_step, or_zero_r}
use Rattle.std.proofs.Math.ListN.{set, length-set}
use Rattle.std.proofs.lemmas.List.{length-replicate}
use Rattle.laws.specs.Lists.{any_of}
use Rattle.laws.specs.Laws.Bools.{both_ways}
use Rattle.preference.specs.Laws.Parts.{Within}
use Rattle.lattice_nodes.specs.Lattice.{node_count, node_id, edges_from}
use Rattle.lattice_nodes.specs.Steps.{weights_of, Weights, edges_by, updated, held_byte, opened, entered_byte}
use Rattle.lattice_nodes.specs.Laws.Some.{All, among, all_among}
use Rattle.lattice_nodes.specs.Laws.Ids.{nodes_some}
use Rattle.lattice_nodes.specs.Laws.Edges.{edge_raises}

-- ---- weights

pub weights_length : (ms : List ℕ) → length (weights_of ms) ≡ length ms
unfolding weights_of
weights_length [] = refl
weights_length (m ∷ ms) = ap suc (weights_length ms)

-- a part's level is below its greatest where the step by its weight stays in its block
pub open_test : (m w r : ℕ) → zero < w → ltb (r + w) ((m + 1) * w) ≡ ltb (r / w) m
open_test m w r p =
    both_ways (ltb (r + w) ((m + 1) * w)) (ltb (r / w) m)
    (λ t.
    let l : r + w < m * w + 1 * w = rw (add-mul m 1 w) at (ltb-true (r + w) ((m + 1) * w) t) in
    lt-ltb (r / w) m ((div-lt_iff_lt-mul p).1 (omega (arith, l, one-mul w))))
    (λ t. let l : r < m * w = (div-lt_iff_lt-mul p).0 (ltb-true (r / w) m t) in
    lt-ltb (r + w) ((m + 1) * w) (rw (add-mul m 1 w, one-mul w) (omega arith)))

pub edges_by_lem : (ms : List ℕ) (x r : ℕ) → edges_by (node_count ms) (weights_of ms) x r ≡ edges_from ms x r
unfolding edges_by weights_of edges_from node_count
edges_by_lem [] x r = refl
edges_by_lem (m ∷ ms) x r = rw (open_test m (node_count ms) r (nodes_some ms), edges_by_lem ms x (r % node_count ms))

pub nodes_grow : (m : ℕ) (ms : List ℕ) → node_count ms ≤ node_count (m ∷ ms)
unfolding node_count
nodes_grow m ms =
    rw (add-mul m 1 (node_count ms), one-mul (node_count ms)) (le-add_left (node_count ms) (m * node_count ms))

pub drop_nodes : (ms : List ℕ) (i : ℕ) → node_count (drop i ms) ≤ node_count ms
drop_nodes ms zero = le_refl (node_count ms)
drop_nodes [] (suc i) = le_refl (node_count [])
drop_nodes (m ∷ ms) (suc i) = le_trans (drop_nodes ms i) (nodes_grow m ms)

pub weight_at : (ms : List ℕ) (i : ℕ) → i < length ms → get_or (weights_of ms) i 0 ≡ node_count (drop (suc i) ms)
unfolding weights_of
weight_at [] i h = absurd (not-suc-le-zero h)
weight_at (m ∷ ms) zero h = refl
weight_at (m ∷ ms) (suc i) h = weight_at ms i (le_of_suc-le-suc h)

-- the number of a vector's node, a level more
pub id_more : (ms v : List ℕ) (k : ℕ) → Within ms v → k < length ms
    → node_id (drop k ms) (drop k v)
    ≡ get_or v k 0 * get_or (weights_of ms) k 0 + node_id (drop (suc k) ms) (drop (suc k) v)
unfolding node_id weights_of
id_more [] v k h i = absurd (not-suc-le-zero i)
id_more (m ∷ ms) [] k h i = absurd h
id_more (m ∷ ms) (a ∷ v) zero h i = refl
id_more (m ∷ ms) (a ∷ v) (suc k) h i = id_more ms v k h.1 (le_of_suc-le-suc i)

-- an edge leads to a node
edges_inside : (tops : List ℕ) (x : ℕ) → x < node_count tops → All (λ y. y < node_count tops) (edges_from tops x x)
edges_inside tops x h =
    all_among (λ y. y < node_count tops) (edges_from tops x x)
    (λ y t. let e = edge_raises tops x x y h t in let at : e.off ≡ y = omega (arith, e.place) in
    omega (arith, e.inside))

pub targets_inside : (weights : List ℕ) (count : ℕ) (l : Weights weights count) (x : ℕ) → x < count
    → All (λ y. y < count) (edges_by count weights x x)
targets_inside weights count l x h =
    rw (l.weights_are, l.count_is, edges_by_lem l.tops x x) (edges_inside l.tops x (rw l.count_is at h))

-- ---- updates

module _ (f : ℕ → ℕ) where
  pub length_updated : (ts b : List ℕ) → length (updated f ts b) ≡ length b
  unfolding updated
  length_updated [] b = refl
  length_updated (t ∷ ts) b = length_updated ts (set b t (f (get_or b t 0))) ∙ length-set b t (f (get_or b t 0))

  pub updated_append : (ss ts b : List ℕ) → updated f (ss ++ ts) b ≡ updated f ts (updated f ss b)
  unfolding updated
  updated_append [] ts b = refl
  updated_append (s ∷ ss) ts b = updated_append ss ts (set b s (f (get_or b s 0)))

  module _ (once : (b : ℕ) → f (f b) ≡ f b) where
    kept : (c : Bool) (b : ℕ) → cond c (f (f b)) (f b) ≡ f b
    kept true b = once b
    kept false b = refl

    -- f is put to use once at a place of ts, and elsewhere nothing changes
    pub get_or_updated : (ts b : List ℕ) (y : ℕ) → y < length b
        → get_or (updated f ts b) y 0 ≡ cond (among y ts) (f (get_or b y 0)) (get_or b y 0)
    unfolding updated among any_of
    get_or_updated [] b y h = refl
    get_or_updated (t ∷ ts) b y h =
        step (ℕ_discrete t y)
        (get_or_updated ts (set b t (f (get_or b t 0))) y (rw (length-set b t (f (get_or b t 0))) h))
      where
        b' : List ℕ
        b' = set b t (f (get_or b t 0))

        step : Dec (t ≡ y) → get_or (updated f ts b') y 0 ≡ cond (among y ts) (f (get_or b' y 0)) (get_or b' y 0)
            → get_or (updated f ts b') y 0 ≡ cond (eqb t y || among y ts) (f (get_or b y 0)) (get_or b y 0)
        step (yes e) ih =
            let cell : get_or b' y 0
            ≡ f (get_or b y 0) = rw (← e) (get_or-set_same b t (f (get_or b t 0)) 0 (rw (← e) at h)) in
            rw (eq-eqb t y e) (ih ∙ rw cell (kept (among y ts) (get_or b y 0)))
        step (no n) ih = rw (ne_eqb t y n) (ih ∙ rw (get_or-set_other b t y (f (get_or b t 0)) 0 (λ e. n (sym e))))

pub opened_length : (n : ℕ) (ids : List ℕ) → length (opened n ids) ≡ n
opened_length n ids = length_updated held_byte ids (replicate n 0) ∙ length-replicate n 0

-- the bit is set, and the others stay
entered_is : (b : ℕ) → entered_byte b ≡ (b / 2 / 2 * 2 + 1) * 2 + b % 2
unfolding entered_byte
entered_is b =
    or_step b 2 ∙ rw (or_step (b / 2) 1, or_zero_r (b / 2 / 2)) (omega (arith, mod-lt (b / 2) {m = 2} (lit< tt)))

pub entered_once : (b : ℕ) → entered_byte (entered_byte b) ≡ entered_byte b
entered_once b = rw (entered_is b, entered_is ((b / 2 / 2 * 2 + 1) * 2 + b % 2)) (omega arith)

pub entered_some : (b : ℕ) → entered_byte b ≡ 0 → ⊥
entered_some b e = omega (arith, entered_is b)

-- a node that an edge leads to is reached
pub entered_there : (ts b : List ℕ) (y : ℕ) → y < length b → among y ts ≡ true
    → get_or (updated entered_byte ts b) y 0 ≡ 0
    → ⊥
entered_there ts b y h t e =
    entered_some (get_or b y 0) (sym (get_or_updated entered_byte entered_once ts b y h ∙ rw t) ∙ e)
