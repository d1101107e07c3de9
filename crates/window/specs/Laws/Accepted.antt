-- What a call that no check refuses has.
use Rattle.std.specs.Prelude.{◌≡◌, ℕ, ◌+◌, ◌*◌, ◌||◌, ltb, eqb}
use Rattle.std.proofs.Common.{arith, ltb-false}
use Rattle.std.proofs.lemmas.Bool.{eqb-false}
use Rattle.laws.specs.Checks.{◌gives◌}
use Rattle.laws.specs.Laws.Bools.{neither}
use Rattle.laws.specs.Laws.Checks.{gives_none, then_none}
use Rattle.run_log.specs.Log.{Log, row_count, log_refusal, marks_refusal}
use Rattle.run_log.specs.Laws.Log as runs
use Rattle.preference.specs.Valid.{list_refusal}
use Rattle.preference.specs.declared.PreferenceList.{PreferenceList}
use Rattle.pareto.specs.Checked.{rows_refusal, checked_refusal}
use Rattle.window.specs.Engine.{sizes_refusal, window_refusal, Runnable}

pub accepted : (l : PreferenceList) (log : Log) (marks work w : ℕ) → window_refusal l log marks work w ≡ 0
    → Runnable l log marks work w
unfolding window_refusal checked_refusal sizes_refusal
accepted l log marks work w e =
    let a = then_none (list_refusal l) _ e in
    let b = then_none (log_refusal log.values) _ a.1 in
    let s = then_none (sizes_refusal log marks work w) (rows_refusal l log.values) b.1 in
    let m = then_none (marks_refusal log.values marks) _ s.0 in
    let n = then_none (eqb w 0 || ltb 1024 w gives 10) (ltb work (2 * (row_count log.values + w)) gives 10) m.1 in
    let v = neither (eqb w 0) (ltb 1024 w) (gives_none (eqb w 0 || ltb 1024 w) 9 n.0) in
    let z = eqb-false w 0 v.0 in
    record {
      list = a.0;
      values = s.1;
      few = (runs.accepted log.values b.0).few;
      marked = ltb-false marks (row_count log.values) (gives_none (ltb marks (row_count log.values)) 9 m.0);
      some = omega arith;
      narrow = ltb-false 1024 w v.1;
      room =
          ltb-false work (2 * (row_count log.values + w))
          (gives_none (ltb work (2 * (row_count log.values + w))) 9 n.1);
    }
