-- A look at two rows of the level table of an accepted list and log tells which of them dominates the other.
use Rattle.std.specs.Prelude.{◌≡◌, refl, ℕ, ◌+◌, ◌-◌, ◌*◌, ◌/◌, ◌<◌, ◌≤◌, Bool, true, false, not, ◌&&◌, ◌||◌, List, [], ◌∷◌, leb, ltb, ℤ, length, get_or}
use Rattle.std.proofs.Common.{sym, ◌∙◌, arith, ltb-true, lt-ltb, le-ltb, leb-true, leb-false}
use Rattle.std.proofs.Math.Decide.{dec_lt}
use Rattle.std.proofs.Math.ListN.{get_or-eq_default}
use Rattle.laws.specs.First.{any_below}
use Rattle.laws.specs.Laws.Bools.{both_ways}
use Rattle.laws.specs.Laws.First.{any_found, any_at, any_cong, any_append, refusal_zero}
use Rattle.run_log.specs.Log.{Log, row_count, row_at}
use Rattle.preference.specs.Valid.{list_refusal}
use Rattle.preference.specs.Parts.{levels, max_levels, row_refusal}
use Rattle.preference.specs.Laws.Parts.{levels_length, parts_few}
use Rattle.preference.specs.declared.PreferenceList.{PreferenceList}
use Rattle.level_table.specs.Table.{is_wide, table_of}
use Rattle.level_table.specs.Laws.Table.{narrow_few, table_narrow, table_wide, table_long, table_levels, table_more}
use Rattle.pareto.specs.Dominance.{none_above, some_below, dominates}
use Rattle.pareto.specs.Best.{vector_at, row_dominates}
use Rattle.pareto.specs.Checked.{rows_refusal}
use Rattle.pareto.specs.Table.{lower, lower_in, lower_behind, has_lower, first_dominates, relation, compared}
use Rattle.pareto.specs.Laws.Dominance.{below_at, below_of}
use Rattle.pareto.specs.Laws.Planes.{lower_plane, lower_double, plane_is, double_is}

-- ---- level vectors

-- no level above is no level of the other below
none_not : (v w : List ℕ) → length v ≡ length w → none_above v w ≡ not (some_below w v)
unfolding none_above some_below
none_not [] [] l = refl
none_not [] (y ∷ w) l = let z : ⊥ = omega arith in absurd z
none_not (x ∷ v) [] l = let z : ⊥ = omega arith in absurd z
none_not (x ∷ v) (y ∷ w) l = head (none_not v w (omega arith)) (leb x y) refl
  where
    head : none_above v w ≡ not (some_below w v) → (t : Bool) → leb x y ≡ t
        → leb x y && none_above v w ≡ not (ltb y x || some_below w v)
    head h true e = rw (e, le-ltb y x (leb-true x y e)) h
    head h false e = rw (e, lt-ltb y x (leb-false x y e))

-- a lower level stands among the first n, and there are no more
some_of : (n : ℕ) (v w : List ℕ) → length v ≡ length w → length w ≤ n
    → any_below (λ k. ltb (get_or v k 0) (get_or w k 0)) n ≡ some_below v w
some_of n v w l h =
    both_ways (any_below (λ k. ltb (get_or v k 0) (get_or w k 0)) n) (some_below v w)
    (λ e. let f = any_found (λ k. ltb (get_or v k 0) (get_or w k 0)) n e in
    below_of v w l f.0 (ltb-true (get_or v f.0 0) (get_or w f.0 0) f.2))
    (λ e.
    let f = below_at v w e in
    any_at (λ k. ltb (get_or v k 0) (get_or w k 0)) n f.0 (inside f.0 f.1 (dec_lt f.0 n))
    (lt-ltb (get_or v f.0 0) (get_or w f.0 0) f.1))
  where
    inside : (k : ℕ) → get_or v k 0 < get_or w k 0 → Dec (k < n) → k < n
    inside k s (yes q) = q
    inside k s (no q) =
        let e : length w ≤ k = omega arith in let z : ⊥ = omega (arith, get_or-eq_default w 0 e) in absurd z

-- ---- the table

module _ (l : PreferenceList) (log : List ℤ) (e : list_refusal l ≡ 0) (f : rows_refusal l log ≡ 0)
    (few : row_count log ≤ 1024) where
  row_accepted : (a : ℕ) → a < row_count log → row_refusal l (row_at log a) ≡ 0
  unfolding rows_refusal
  row_accepted a h = refusal_zero (λ r. row_refusal l (row_at log r)) (row_count log) f a h

  -- level k of row a, and level 8 + k where there are more than eight
  pub table_at : (a k : ℕ) → a < row_count log → k < 8
      → get_or (table_of l log) (8 * a + k) 0 ≡ get_or (levels l (row_at log a)) k 0
  table_at a k h j = table_levels l log e a (row_accepted a h) k h j few

  pub table_behind : is_wide l ≡ true → (a k : ℕ) → a < row_count log → k < 8
      → get_or (table_of l log) (8192 + 8 * a + k) 0 ≡ get_or (levels l (row_at log a)) (8 + k) 0
  table_behind w a k h j = table_more l log e a (row_accepted a h) k h j w

  module _ (a b : ℕ) (h : a < row_count log) (j : b < row_count log) where
    abbrev below : ℕ → Bool
    below k = ltb (get_or (levels l (row_at log a)) k 0) (get_or (levels l (row_at log b)) k 0)

    in_some : lower_in (table_of l log) a b ≡ any_below below 8
    in_some =
        any_cong (lower (table_of l log) (8 * a) (8 * b)) below 8 (λ k q. rw (table_at a k h q, table_at b k j q))

    behind_some : is_wide l ≡ true → lower_behind (table_of l log) a b ≡ any_below (λ k. below (8 + k)) 8
    behind_some w =
        any_cong (lower (table_of l log) (8192 + 8 * a) (8192 + 8 * b)) (λ k. below (8 + k)) 8
        (λ k q. rw (table_behind w a k h q, table_behind w b k j q))

    below_some : (n : ℕ) → length (max_levels l) ≤ n
        → any_below below n ≡ some_below (levels l (row_at log a)) (levels l (row_at log b))
    below_some n q =
        some_of n (levels l (row_at log a)) (levels l (row_at log b))
        (levels_length l (row_at log a) ∙ sym (levels_length l (row_at log b)))
        (omega (arith, levels_length l (row_at log b)))

    -- the table of an accepted log has its rows, and tells which of them has a lower level
    pub lower_some : has_lower (table_of l log) a b ≡ some_below (levels l (row_at log a)) (levels l (row_at log b))
    lower_some = go (is_wide l) refl
      where
        go : (t : Bool) → is_wide l ≡ t
            → has_lower (table_of l log) a b ≡ some_below (levels l (row_at log a)) (levels l (row_at log b))
        go true w =
            let t = table_of l log in
            let long : length t ≡ 8192 + 8 * row_count log = table_long l log ∙ table_wide l log w in
            let r : (length t - 8192) / 8 ≡ row_count log = omega arith in
            lower_double t (lt-ltb 8192 (length t) (omega arith)) a b ∙ double_is t a b
            ∙ rw (r, lt-ltb a (row_count log) h, lt-ltb b (row_count log) j, in_some, behind_some w)
            (sym (any_append below 8 8) ∙ below_some 16 (parts_few l))
        go false w =
            let t = table_of l log in
            let long : length t ≡ 8 * row_count log = table_long l log ∙ table_narrow l log w in
            let r : length t / 8 ≡ row_count log = omega arith in
            lower_plane t (le-ltb 8192 (length t) (omega arith)) a b ∙ plane_is t a b
            ∙ rw (r, lt-ltb a (row_count log) h, lt-ltb b (row_count log) j, in_some) (below_some 8 (narrow_few l w))

-- the first dominates exactly where row a dominates row b
pub compared_dominates : (l : PreferenceList) (log : Log) → list_refusal l ≡ 0 → rows_refusal l log.values ≡ 0
    → row_count log.values ≤ 1024
    → (a b : ℕ) → a < row_count log.values → b < row_count log.values
    → first_dominates (compared (table_of l log.values) a b) ≡ row_dominates l log a b
unfolding compared row_dominates dominates vector_at
compared_dominates l log e f few a b h j =
    let xs = log.values in
    let va = vector_at l log a in
    let vb = vector_at l log b in
    let n = levels_length l (row_at xs a) ∙ sym (levels_length l (row_at xs b)) in
    rw (lower_some l xs e f few a b h j, lower_some l xs e f few b a j h, none_not va vb n)
    (cases (some_below va vb) (some_below vb va))
  where
    cases : (s t : Bool) → first_dominates (relation s t) ≡ (not t && s)
    cases true true = refl
    cases true false = refl
    cases false true = refl
    cases false false = refl
