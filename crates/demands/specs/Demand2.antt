-- Demand 2: "The runs named are exactly the best matches of the Pareto preference .., as documents 000 and 003 define
-- it". A BestMatch is a row in the sense of 000, Def. 15 and Def. 19; that the levels are the papers' is constructor,
-- Laws/Papers.antt and Laws/Greatest.antt. A BestRun is the same told wish by wish, with the substitutable values of
-- each: of one level, and under kind 08 (document 02, order 2) of one side too. "Reading and writing the records undo
-- each other": stream_roundtrip, Theorems.antt.
use Rattle.std.specs.Prelude.{◌≡◌, refl, ℕ, ◌<◌, true, List, eqb}
use Rattle.std.proofs.Common.{ap, ◌∙◌}
use borrow.Author.Tests.{eqb-true, eq-eqb}
use Rattle.laws.specs.Lists.{any_of}
use Rattle.laws.specs.Laws.AnyOf.{passing_found, passing_any}
use Rattle.run_log.specs.Log.{Log, row_count, mark_values_refusal}
use Rattle.preference.specs.Valid.{list_refusal}
use Rattle.preference.specs.declared.PreferenceList.{PreferenceList}
use Rattle.pareto.specs.Best.{is_best, best_matches, BestMatch}
use Rattle.pareto.specs.Laws.Best.{best_match, match_best}
use Rattle.pareto_wishes.specs.Wishes.{BestRun}
use Rattle.pareto_wishes.specs.Theorems.{best_run, run_best}
use Rattle.sheet_pages.specs.Pages.{pages_of, sheet_of}
use Rattle.sheet_report.specs.Laws.Marks.{sheet_of_best, best_marks}
use Rattle.demands.specs.Calls.{AcceptedCall}
use Rattle.demands.specs.Laws.After.{after_call}

module _ (l : PreferenceList) (log : Log) (r : ℕ) where
  -- a row that is named is a best match of the log
  pub named_best : any_of (eqb r) (best_matches l log) ≡ true → (r < row_count log.values) × BestMatch l log r
  unfolding best_matches
  named_best e =
      let f = passing_found (eqb r) (is_best l log) (row_count log.values) e in
      let same : r ≡ f.at = eqb-true r f.at f.holds in
      rw same (f.below, best_match l log f.at f.passes)

  -- and every best match is named
  pub best_named : r < row_count log.values → BestMatch l log r → any_of (eqb r) (best_matches l log) ≡ true
  unfolding best_matches
  best_named h b =
      passing_any (eqb r) (is_best l log) (row_count log.values) r h (match_best l log r b) (eq-eqb r r refl)

  -- a row is named exactly where no competing row is better wish by wish, over all level parts
  module _ (e : list_refusal l ≡ 0) where
    pub named_unbeaten : any_of (eqb r) (best_matches l log) ≡ true → (r < row_count log.values) × BestRun l log r
    named_unbeaten h = let n = named_best h in (n.0, best_run l e log r (match_best l log r n.1))

    pub unbeaten_named : r < row_count log.values → BestRun l log r → any_of (eqb r) (best_matches l log) ≡ true
    unbeaten_named h b = best_named h (best_match l log r (run_best l e log r b))

-- document 02, order 1: the sheet of the marks that an accepted call left has these rows, and 14 does not come
pub sheet_names_best : (l : PreferenceList) (log : Log) (after : List ℕ) → AcceptedCall l log after
    → (sheet_of log.values after ≡ pages_of log.values (best_matches l log))
    × (mark_values_refusal log.values after ≡ 0)
sheet_names_best l log after a =
    let b = after_call l log after a in (
      ap (sheet_of log.values) b.left ∙ sheet_of_best l log b.lent,
      ap (mark_values_refusal log.values) b.left ∙ best_marks l log b.lent,
    )
