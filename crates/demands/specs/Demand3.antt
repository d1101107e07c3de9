-- Demand 3, sentence by sentence. An accepted call is what specs/Calls.antt says; that such calls come about is
-- `lattice_accepts` and `window_accepts`.
use Rattle.std.specs.Prelude.{◌≡◌, ℕ, ◌+◌, ◌-◌, ◌*◌, ◌/◌, ◌≤◌, ◌<◌, List, length, get_or}
use Rattle.std.proofs.Common.{sym, ◌∙◌, arith}
use Rattle.std.proofs.Math.Path.{ap}
use borrow.Author.Tests.{le-ltb}
use Rattle.laws.specs.Checks.{◌gives◌, ◌then◌}
use Rattle.laws.specs.Outcome.{accepted}
use Rattle.run_log.specs.Log.{Log, row_count, marks_refusal}
use Rattle.preference.specs.declared.PreferenceList.{PreferenceList}
use Rattle.pareto.specs.Best.{competing, best_matches, is_best, BestMatch}
use Rattle.pareto.specs.Call.{Leaves}
use Rattle.pareto.specs.Checked.{checked_refusal}
use Rattle.pareto.specs.Laws.Best.{best_match, match_best}
use Rattle.pareto.specs.Laws.Call.{accepted_leaves}
use Rattle.lattice_nodes.specs.Lattice.{node_count, crossings, bound}
use Rattle.lattice_nodes.specs.Laws.Bound.{crossings_bound}
use Rattle.lattice.specs.Walked.{lattice_tops, lattice_rows}
use Rattle.lattice.specs.Engine.{lattice_refusal, lattice_call}
use Rattle.window.specs.Engine.{window_refusal, machine_of, window_call}
use Rattle.window.specs.Laws.Accepted as window
use Rattle.pareto_reorder.specs.Reordered.{Reordered}
use Rattle.pareto_reorder.specs.Theorems.{reordered_mark}
use Rattle.selection.specs.Stream.{list_in, log_in}
use Rattle.console.specs.Flat.{flat_lattice_call, flat_window_call}
use Rattle.demands.specs.Calls.{AcceptedCall}
use Rattle.demands.specs.Laws.After.{call_mark}
use Rattle.demands.specs.Laws.Counts.{window_bound, sizes_refusal_lem, one_best}

module _ (l : PreferenceList) (log : Log) where
  -- "the accepted calls of the lattice engine and the window engine write the same marks", the flat calls too
  pub same_marks : (a b : List ℕ) → AcceptedCall l log a → AcceptedCall l log b → (r : ℕ) → r < row_count log.values
      → get_or a r 0 ≡ get_or b r 0
  same_marks a b p q r h = call_mark l log a p r h ∙ sym (call_mark l log b q r h)

  -- "A row's mark is 1 exactly when it is on 01's shortlist, the competing rows that no competing row betters, and else
  -- 0."
  pub mark_shortlist : (a : List ℕ) → AcceptedCall l log a → (r : ℕ) → r < row_count log.values
      → (get_or a r 0 ≡ 1 → BestMatch l log r) × (BestMatch l log r → get_or a r 0 ≡ 1) × (get_or a r 0 ≤ 1)
  mark_shortlist a p r h =
      let m = call_mark l log a p r h in
      let o = one_best (is_best l log r) in
      (λ e. best_match l log r (o.0 (sym m ∙ e)), λ b. m ∙ o.1 (match_best l log r b), omega (arith, m, o.2))

  -- "A reordered row takes its mark along.", whichever two calls were made
  pub reordered_row : (log' : Log) (place origin : ℕ → ℕ) → Reordered log log' place origin → (a b : List ℕ)
      → AcceptedCall l log a → AcceptedCall l log' b
      → (r : ℕ) → r < row_count log.values → get_or b (place r) 0 ≡ get_or a r 0
  reordered_row log' place origin o a b p q r h =
      call_mark l log' b q (place r) (omega (arith, o.place_below r h, o.same_count))
      ∙ reordered_mark l log log' place origin o r h ∙ sym (call_mark l log a p r h)

  -- "Each accepted call of the window engine returns the number of comparisons that it made: it equals the count of the
  -- machine in 01, at most n(n−1)/2 for n competing rows."
  pub window_count : (marks marks' : List ℕ) (work w count : ℕ)
      → Leaves (window_call l log (length marks) work w) marks (accepted count) marks'
      → (count ≡ (machine_of l log w).count) × (count ≤ length (competing log) * (length (competing log) - 1) / 2)
  window_count marks marks' work w count a =
      let p = accepted_leaves (window_call l log (length marks) work w) marks count marks' a in
      (p.1, rw p.1 (window_bound l log w (window.accepted l log (length marks) work w p.0).some))

  -- "Each accepted call of the lattice engine returns the number of crossings that it made: it equals the number of
  -- edges that leave reached nodes, at most the sum over the wishes of nodes × M/(M+1), M being the wish's greatest
  -- level." Document 02, order 2: "Best-match choice, engine agreement and both count limits are over all level parts";
  -- `lattice_tops` has the M of each part.
  pub lattice_count : (marks marks' : List ℕ) (nodes budget count : ℕ)
      → Leaves (lattice_call l log (length marks) nodes budget) marks (accepted count) marks'
      → (count ≡ crossings (lattice_tops l) (lattice_rows l log)) × (count ≤ bound (lattice_tops l))
  lattice_count marks marks' nodes budget count a =
      let e = (accepted_leaves (lattice_call l log (length marks) nodes budget) marks count marks' a).1 in
      (e, rw e (crossings_bound (lattice_tops l) (lattice_rows l log)))

-- "An accepted flat call writes the same marks for the runs and wishes of its stream" (same_marks, by_flat_lattice and
-- by_flat_window), "and returns 01's number of shortlisted rows in place of the count."
module _ (s marks marks' : List ℕ) (best : ℕ) where
  pub flat_lattice_result : (budget : ℕ)
      → Leaves (flat_lattice_call s (length marks) budget) marks (accepted best) marks'
      → best ≡ length (best_matches (list_in s) (log_in s))
  flat_lattice_result budget a = (accepted_leaves (flat_lattice_call s (length marks) budget) marks best marks' a).1

  pub flat_window_result : (w : ℕ) → Leaves (flat_window_call s (length marks) w) marks (accepted best) marks'
      → best ≡ length (best_matches (list_in s) (log_in s))
  flat_window_result w a = (accepted_leaves (flat_window_call s (length marks) w) marks best marks' a).1

-- ---- the calls that are accepted: "at most 32,768 lattice nodes, .. every window from 1 to 1,024 and every budget of
-- at least the crossings"

module _ (l : PreferenceList) (log : Log) (marks : ℕ) where
  pub lattice_accepts : (nodes budget : ℕ) → checked_refusal l log (marks_refusal log.values marks) ≡ 0
      → node_count (lattice_tops l) ≤ 32768 → node_count (lattice_tops l) ≤ nodes
      → crossings (lattice_tops l) (lattice_rows l log) ≤ budget → lattice_refusal l log marks nodes budget ≡ 0
  unfolding lattice_refusal ◌gives◌ ◌then◌
  lattice_accepts nodes budget z few fit enough =
      rw (
        z,
        le-ltb 32768 (node_count (lattice_tops l)) few,
        le-ltb nodes (node_count (lattice_tops l)) fit,
        le-ltb budget (crossings (lattice_tops l) (lattice_rows l log)) enough,
      )

  -- the same checks of the list, the log and the marks, then the window's size and the work list's
  pub window_accepts : (work w : ℕ) → checked_refusal l log (marks_refusal log.values marks) ≡ 0 → 1 ≤ w → w ≤ 1024
      → 2 * (row_count log.values + w) ≤ work → window_refusal l log marks work w ≡ 0
  unfolding window_refusal
  window_accepts work w z some narrow room =
      ap (checked_refusal l log) (sizes_refusal_lem log marks work w some narrow room) ∙ z
