-- The search over the competing rows in a log's level table finds the first row of the shortlist that dominates the
-- asked one.
use Rattle.std.specs.List.{find}
use Rattle.std.specs.Option.{unwrap_or}
use Rattle.std.specs.Prelude.{◌≡◌, Some, Bool, not, ◌&&◌, List, [], ◌∷◌, ◌++◌, ltb, length, get_or, drop}
use Rattle.std.proofs.Math.Path.{refl, ap}
use Rattle.std.proofs.Common.{sym, ◌∙◌, add-one, arith, drop_of_length-le, lt-ltb, le-ltb, ltb-true, ltb-false}
use Prim.Native.Nat.{ℕ, zero, suc, ◌+◌, ◌<◌, ◌≤◌}
use Rattle.std.proofs.Math.Bool.{true, false, cond}
use Rattle.std.proofs.Math.Seq.{drop-cons}
use Rattle.laws.specs.First.{first_at}
use Rattle.laws.specs.Lists.{joined, passing, any_of}
use Rattle.laws.specs.Laws.AnyOf.{passing_found, passing_any}
use Rattle.laws.specs.Laws.Bools.{both_ways}
use Rattle.laws.specs.Laws.First.{first_is, first_cong}
use Rattle.run_log.specs.Log.{Log, row_count}
use Rattle.preference.specs.declared.PreferenceList.{PreferenceList}
use Rattle.pareto.specs.Best.{competes, competing, row_dominates, is_best}
use Rattle.level_table.specs.Table.{table_of}
use Rattle.pareto.specs.Laws.Table.{compared_dominates}
use Rattle.dominator.specs.First.{best_dominates, first_dominator, dominator_or, RowAsked, beats, best_beats, first_of}

-- ---- turns of a loop over a list

module _ (p : ℕ → Bool) (xs : List ℕ) (i : ℕ) where
  pub any_on : i < length xs → p (get_or xs i 0) ≡ false → any_of p (drop (i + 1) xs) ≡ any_of p (drop i xs)
  unfolding any_of
  any_on h e = rw (add-one i, drop-cons xs i 0 h, e)

  pub any_here : i < length xs → p (get_or xs i 0) ≡ true → any_of p (drop i xs) ≡ true
  unfolding any_of
  any_here h e = rw (drop-cons xs i 0 h, e)

  pub any_end : length xs ≤ i → any_of p (drop i xs) ≡ false
  unfolding any_of
  any_end h = rw (drop_of_length-le xs {i = i} h)

  pub first_on : (none : ℕ) → i < length xs → p (get_or xs i 0) ≡ false
      → first_of p (drop (i + 1) xs) none ≡ first_of p (drop i xs) none
  unfolding first_of
  first_on none h e = rw (add-one i, drop-cons xs i 0 h, e)

  pub first_here : (none : ℕ) → i < length xs → p (get_or xs i 0) ≡ true → first_of p (drop i xs) none ≡ get_or xs i 0
  unfolding first_of
  first_here none h e = rw (drop-cons xs i 0 h, e)

  pub first_end : (none : ℕ) → length xs ≤ i → first_of p (drop i xs) none ≡ none
  unfolding first_of
  first_end none h = rw (drop_of_length-le xs {i = i} h)

-- what the library's search finds, or none
pub first_found : (p : ℕ → Bool) (xs : List ℕ) (none : ℕ) → unwrap_or (find p xs) none ≡ first_of p xs none
unfolding first_of
first_found p [] none = refl
first_found p (x ∷ xs) none = go (p x) (first_found p xs none)
  where
    go : (b : Bool) → unwrap_or (find p xs) none ≡ first_of p xs none
        → unwrap_or (cond b (Some x) (find p xs)) none ≡ cond b x (first_of p xs none)
    go true e = refl
    go false e = e

-- ---- a search in the list of the numbers that pass is a search that counts up

first_append : (p : ℕ → Bool) (xs ys : List ℕ) (none : ℕ)
    → first_of p (xs ++ ys) none ≡ first_of p xs (first_of p ys none)
unfolding first_of
first_append p [] ys none = refl
first_append p (x ∷ xs) ys none = ap (cond (p x) x) (first_append p xs ys none)

module _ (p c : ℕ → Bool) where
  first_last : (n none : ℕ) → first_of p (cond (c n) (n ∷ []) []) none ≡ cond (c n && p n) n none
  unfolding first_of
  first_last n none = go (c n)
    where
      go : (b : Bool) → first_of p (cond b (n ∷ []) []) none ≡ cond (b && p n) n none
      go true = refl
      go false = refl

  turned : (n k none : ℕ) (t u : Bool) → ltb k n ≡ t
      → cond t k (cond u n none) ≡ cond (ltb (cond t k (cond u n (suc n))) (suc n)) (cond t k (cond u n (suc n))) none
  turned n k none true u e = rw (lt-ltb k (suc n) (let q = ltb-true k n e in omega arith))
  turned n k none false true e = rw (lt-ltb n (suc n) (omega arith))
  turned n k none false false e = rw (le-ltb (suc n) (suc n) (omega arith))

  first_passing : (n none : ℕ)
      → first_of p (passing c n) none ≡ cond (ltb (first_at (λ s. c s && p s) n) n) (first_at (λ s. c s && p s) n) none
  unfolding joined first_at
  first_passing zero none = unfold first_of in refl
  first_passing (suc n) none =
      first_append p (passing c n) (cond (c n) (n ∷ []) []) none
      ∙ ap (first_of p (passing c n)) (first_last n none)
      ∙ first_passing n (cond (c n && p n) n none)
      ∙ turned n (first_at (λ s. c s && p s) n) none (ltb (first_at (λ s. c s && p s) n) n) (c n && p n) refl

  within : (n k : ℕ) → k ≤ n → (t : Bool) → ltb k n ≡ t → cond t k n ≡ k
  within n k h true e = refl
  within n k h false e = let q = ltb-false k n e in omega arith

  -- where none is found, the count's end is given
  first_counted : (n : ℕ) → first_of p (passing c n) n ≡ first_at (λ s. c s && p s) n
  first_counted n =
      let k = first_at (λ s. c s && p s) n in
      first_passing n n ∙ within n k (first_is (λ s. c s && p s) n).within (ltb k n) refl

  any_agree : (q : ℕ → Bool) (n : ℕ) → ((s : ℕ) → s < n → p s ≡ q s) → any_of p (passing c n) ≡ any_of q (passing c n)
  any_agree q n h =
      both_ways (any_of p (passing c n)) (any_of q (passing c n))
      (λ e. let f = passing_found p c n e in
      passing_any q c n f.at f.below f.passes (sym (h f.at f.below) ∙ f.holds))
      (λ e. let f = passing_found q c n e in
      passing_any p c n f.at f.below f.passes (h f.at f.below ∙ f.holds))

module _ (l : PreferenceList) (log : Log) (row : ℕ) (a : RowAsked l log row) where
  table_beats : (s r : ℕ) → s < row_count log.values → r < row_count log.values
      → beats (table_of l log.values) s r ≡ row_dominates l log s r
  table_beats = compared_dominates l log a.list a.values a.few

  regroup : (c b d : Bool) → (c && (b && d)) ≡ ((c && d) && b)
  regroup true true d = go d
    where
      go : (d : Bool) → d ≡ (d && true)
      go true = refl
      go false = refl
  regroup true false true = refl
  regroup true false false = refl
  regroup false b d = refl

  best_beats_lem : (s : ℕ) → s < row_count log.values
      → (competes log s && best_beats (table_of l log.values) (competing log) row s) ≡ best_dominates l log row s
  unfolding best_beats is_best competing
  best_beats_lem s h =
      rw (
        table_beats s row h a.is_row,
        any_agree (λ q. beats (table_of l log.values) q s) (competes log) (λ q. row_dominates l log q s)
            (row_count log.values) (λ q b. table_beats q s b h),
      )
      (regroup (competes log s) (row_dominates l log s row)
      (not (any_of (λ q. row_dominates l log q s) (competing log))))

  pub first_in_table : first_of (best_beats (table_of l log.values) (competing log) row) (competing log)
      (row_count log.values) ≡ first_dominator l log row
  unfolding first_dominator competing
  first_in_table =
      first_counted (best_beats (table_of l log.values) (competing log) row) (competes log) (row_count log.values)
      ∙ first_cong _ (best_dominates l log row) (row_count log.values) best_beats_lem

  pub found_in_table : (none : ℕ)
      → first_of (best_beats (table_of l log.values) (competing log) row) (competing log) none
      ≡ dominator_or l log row none
  unfolding first_dominator competing
  found_in_table none =
      first_passing (best_beats (table_of l log.values) (competing log) row) (competes log) (row_count log.values) none
      ∙ ap (λ k. cond (ltb k (row_count log.values)) k none)
      (first_cong _ (best_dominates l log row) (row_count log.values) best_beats_lem)

-- ---- what is found, whatever stands for none

some_by : (k best : ℕ) (t : Bool) → best ≡ cond t k 0 → best ≡ cond t k 1 → (t ≡ true) × (best ≡ k)
some_by k best true e f = (refl, e)
some_by k best false e f = let z : ◌≡◌ {A = ℕ} 0 1 = sym e ∙ f in absurd (omega arith)

pub some_found : (n k best : ℕ) → ((none : ℕ) → best ≡ cond (ltb k n) k none) → (k < n) × (best ≡ k)
some_found n k best h =
    let s = some_by k best (ltb k n) (h 0) (h 1) in
    (ltb-true k n s.0, s.1)

none_by : (n k : ℕ) (t : Bool) → ltb k n ≡ t → n ≡ cond t k n → n ≤ k
none_by n k true e f = let q = ltb-true k n e in omega arith
none_by n k false e f = ltb-false k n e

pub none_found : (n k : ℕ) → ((none : ℕ) → none ≡ cond (ltb k n) k none) → n ≤ k
none_found n k h = none_by n k (ltb k n) refl (h n)
