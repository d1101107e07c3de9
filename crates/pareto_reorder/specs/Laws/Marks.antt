-- Rows keep their vectors, whether they compete and what dominates them wherever they stand, and so their marks.
use Rattle.std.specs.Prelude.{◌≡◌, ℕ, ◌<◌, Bool, true, ◌&&◌, cond, List, get_or}
use Rattle.std.proofs.Math.Path.{sym, ap, ap₂}
use Rattle.std.proofs.Common.{◌∙◌, arith}
use Rattle.std.proofs.Math.Bool.{not}
use Rattle.laws.specs.Lists.{any_of}
use Rattle.laws.specs.Laws.AnyOf.{Found, passing_found, passing_any}
use Rattle.laws.specs.Laws.Bools.{both_ways}
use Rattle.laws.specs.Laws.Joined.{singles_at}
use Rattle.run_log.specs.Log.{Log, row_count}
use Rattle.preference.specs.Parts.{levels}
use Rattle.preference.specs.declared.PreferenceList.{PreferenceList}
use Rattle.pareto.specs.Dominance.{dominates}
use Rattle.pareto.specs.Best.{competes, competing, vector_at, row_dominates, is_best, mark_at, marks_of, marks_after}
use Rattle.pareto.specs.Laws.Competing.{competes_same}
use Rattle.pareto.specs.Laws.Marks.{mark_there}
use Rattle.pareto_reorder.specs.Reordered.{Reordered}

module _ (l : PreferenceList) (log log' : Log) (place origin : ℕ → ℕ) (h : Reordered log log' place origin) where
  vector_same : (r : ℕ) → r < row_count log.values → vector_at l log' (place r) ≡ vector_at l log r
  unfolding vector_at
  vector_same r b = ap (levels l) (h.same_row r b)

  dominates_same : (s r : ℕ) → s < row_count log.values → r < row_count log.values
      → row_dominates l log' (place s) (place r) ≡ row_dominates l log s r
  unfolding row_dominates
  dominates_same s r a b = ap₂ dominates (vector_same s a) (vector_same r b)

  -- what dominates a row of the second log stands in the first
  found_before : (r : ℕ) → r < row_count log.values
      → Found (λ s. row_dominates l log' s (place r)) (competes log') (row_count log'.values)
      → any_of (λ s. row_dominates l log s r) (competing log) ≡ true
  unfolding competing
  found_before r b f =
      let p : f.at < row_count log.values = omega (arith, f.below, h.same_count) in
      let o = h.origin_below f.at p in
      let e = h.place_origin f.at p in
      passing_any (λ s. row_dominates l log s r) (competes log) (row_count log.values) (origin f.at) o
      (sym (competes_same log log' (origin f.at) (place (origin f.at)) (h.same_row (origin f.at) o))
      ∙ ap (competes log') e ∙ f.passes)
      (sym (dominates_same (origin f.at) r o b) ∙ ap (λ (s : ℕ). row_dominates l log' s (place r)) e ∙ f.holds)

  -- and what dominates a row of the first stands in the second
  found_after : (r : ℕ) → r < row_count log.values
      → Found (λ s. row_dominates l log s r) (competes log) (row_count log.values)
      → any_of (λ s. row_dominates l log' s (place r)) (competing log') ≡ true
  unfolding competing
  found_after r b f =
      passing_any (λ s. row_dominates l log' s (place r)) (competes log') (row_count log'.values) (place f.at)
      (omega (arith, h.place_below f.at f.below, h.same_count))
      (competes_same log log' f.at (place f.at) (h.same_row f.at f.below) ∙ f.passes)
      (dominates_same f.at r f.below b ∙ f.holds)

  any_same : (r : ℕ) → r < row_count log.values
      → any_of (λ s. row_dominates l log' s (place r)) (competing log')
      ≡ any_of (λ s. row_dominates l log s r) (competing log)
  any_same r b =
      both_ways (any_of (λ s. row_dominates l log' s (place r)) (competing log'))
      (any_of (λ s. row_dominates l log s r) (competing log))
      (λ e. found_before r b
      (unfold competing in
      passing_found (λ s. row_dominates l log' s (place r)) (competes log') (row_count log'.values) e))
      (λ e. found_after r b
      (unfold competing in passing_found (λ s. row_dominates l log s r) (competes log) (row_count log.values) e))

  best_same : (r : ℕ) → r < row_count log.values → is_best l log' (place r) ≡ is_best l log r
  unfolding is_best
  best_same r b = ap₂ (λ (c d : Bool). c && not d) (competes_same log log' r (place r) (h.same_row r b)) (any_same r b)

  pub mark_same : (r : ℕ) → r < row_count log.values → mark_at l log' (place r) ≡ mark_at l log r
  mark_same r b = ap (λ (t : Bool). cond {A = ℕ} t 1 0) (best_same r b)

  placed : (r : ℕ) → r < row_count log.values → place r < row_count log'.values
  placed r b = omega (arith, h.place_below r b, h.same_count)

  pub marks_same : (r : ℕ) → r < row_count log.values
      → get_or (marks_of l log') (place r) 0 ≡ get_or (marks_of l log) r 0
  unfolding marks_of
  marks_same r b =
      singles_at (mark_at l log') (row_count log'.values) (place r) (placed r b) ∙ mark_same r b
      ∙ sym (singles_at (mark_at l log) (row_count log.values) r b)

  pub marks_after_same : (bytes bytes' : List ℕ) (r : ℕ) → r < row_count log.values
      → get_or (marks_after l log' bytes') (place r) 0 ≡ get_or (marks_after l log bytes) r 0
  marks_after_same bytes bytes' r b =
      mark_there l log' bytes' (place r) (placed r b) ∙ mark_same r b ∙ sym (mark_there l log bytes r b)
