-- What a call leaves, check by check.
use Rattle.std.specs.Prelude.{◌≡◌, ℕ, ◌<◌, ◌≤◌, Bool, true, false, List, ltb, Result, Err}
use Rattle.std.specs.Result.{IsErrAnd}
use Rattle.std.proofs.Common.{sym, ◌∙◌, arith}
use Rattle.std.proofs.lemmas.Result.{err_from_is_err_and}
use Rattle.std.proofs.Math.ListN.{length}
use borrow.Author.Tests.{lt-ltb, le-ltb, ltb-false, ne_eqb}
use Rattle.laws.specs.Checks.{◌gives◌, ◌then◌}
use Rattle.laws.specs.Laws.Checks.{then_next, then_none, gives_none}
use Rattle.refusal.specs.Refusal.{number, outcome_of}
use Rattle.refusal.specs.declared.Refusal.{Refusal}
use Rattle.refusal.specs.declared.Refusal.TheVariants as refusals
use Rattle.refusal.specs.Laws.Refusal.{number_some, then_err}
use Rattle.run_log.specs.Log.{Log, row_count, log_refusal, marks_refusal}
use Rattle.preference.specs.Valid.{list_refusal}
use Rattle.preference.specs.declared.PreferenceList.{PreferenceList}
use Rattle.pareto.specs.Call.{Call, Leaves}
use Rattle.pareto.specs.Laws.Call.{leaves_refused}
use Rattle.pareto.specs.Checked.{rows_refusal, checked_refusal}
use Rattle.lattice_nodes.specs.Lattice.{node_count, crossings}
use Rattle.lattice.specs.Walked.{lattice_tops, lattice_rows}
use Rattle.lattice.specs.Engine.{lattice_refusal, lattice_call, nodes_left}
use Rattle.lattice.specs.Laws.Checked.{before_11}

-- what the checks up to 8 say
pub record Passed (l : PreferenceList) (log : Log) (marks : ℕ) : Type 0 where
  pub list_accepted : list_refusal l ≡ 0
  pub log_accepted : log_refusal log.values ≡ 0
  pub marks_fit : row_count log.values ≤ marks
  pub rows_accepted : rows_refusal l log.values ≡ 0

pub passed : (l : PreferenceList) (log : Log) (marks : ℕ) → checked_refusal l log (marks_refusal log.values marks) ≡ 0
    → Passed l log marks
unfolding checked_refusal
passed l log marks z =
    let a = then_none (list_refusal l) _ z in
    let b = then_none (log_refusal log.values) _ a.1 in
    let d = then_none (marks_refusal log.values marks) _ b.1 in
    record {
      list_accepted = a.0;
      log_accepted = b.0;
      marks_fit = ltb-false marks (row_count log.values) (gives_none (ltb marks (row_count log.values)) 9 d.0);
      rows_accepted = d.1;
    }

nine : (t : Bool) → t gives 9 ≡ 11 → ⊥
unfolding ◌gives◌
nine true h = omega arith
nine false h = omega arith

module _ (l : PreferenceList) (log : Log) (marks nodes : List ℕ) (budget : ℕ) where
  abbrev pub call_of : Call
  call_of = lattice_call l log (length marks) (length nodes) budget

  -- its answer, and both lots of bytes
  abbrev pub Ends : Result ℕ Refusal → List ℕ → List ℕ → Type 0
  Ends answer marks' nodes' = Leaves call_of marks (outcome_of answer) marks' × (nodes' ≡ nodes_left call_of nodes)

  -- the exit of a `?` behind a check that refuses
  pub exit : (answer : Result ℕ Refusal) (r : Refusal) → IsErrAnd answer (λ y. y ≡ r) → Ends (Err r) marks nodes
      → Ends answer marks nodes
  exit answer r e h = let p = err_from_is_err_and answer e in rw (p.1, p.2) h

  -- a call that is refused by a number other than 11
  pub refused_by : (r : Refusal) → lattice_refusal l log (length marks) (length nodes) budget ≡ number r
      → (number r ≡ 11 → ⊥)
      → Ends (Err r) marks nodes
  unfolding nodes_left
  refused_by r e h =
      let z = number_some r in
      (leaves_refused call_of marks (number r) e z, rw (e, ne_eqb (number r) 0 z, ne_eqb (number r) 11 h))

  -- a check up to 8 refuses
  pub checks_refuse : (r : Refusal) → number r ≡ checked_refusal l log (marks_refusal log.values (length marks))
      → Ends (Err r) marks nodes
  unfolding lattice_refusal
  checks_refuse r e =
      refused_by r (sym (then_err r _ _ e)) (λ h. before_11 l log (length marks) (sym e ∙ h))

  module _ (z : checked_refusal l log (marks_refusal log.values (length marks)) ≡ 0) where
    pub too_many : (r : Refusal) → number r ≡ ltb 32768 (node_count (lattice_tops l)) gives 9 → Ends (Err r) marks nodes
    unfolding lattice_refusal
    too_many r e =
        refused_by r
        (then_next (checked_refusal l log (marks_refusal log.values (length marks))) _ z ∙ sym (then_err r _ _ e))
        (λ h. nine (ltb 32768 (node_count (lattice_tops l))) (sym e ∙ h))

    module _ (few : node_count (lattice_tops l) ≤ 32768) where
      pub too_short : length nodes < node_count (lattice_tops l) → Ends (Err refusals.NoRoom) marks nodes
      too_short h =
          refused_by refusals.NoRoom
          (unfold lattice_refusal ◌gives◌ ◌then◌ in
          rw (z, le-ltb 32768 (node_count (lattice_tops l)) few, lt-ltb (length nodes) (node_count (lattice_tops l)) h))
          (λ e. omega arith)

      module _ (fit : node_count (lattice_tops l) ≤ length nodes) where
        pub last : lattice_refusal l log (length marks) (length nodes) budget
            ≡ (ltb budget (crossings (lattice_tops l) (lattice_rows l log)) gives 11)
        unfolding lattice_refusal ◌gives◌ ◌then◌
        last =
            rw (
              z,
              le-ltb 32768 (node_count (lattice_tops l)) few,
              le-ltb (length nodes)
                  (node_count (lattice_tops l)) fit,
            )
