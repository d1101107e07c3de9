use Rattle.std.specs.Prelude.{ℕ, List, length, replicate}
use Rattle.std.proofs.lemmas.List.{length-replicate}
use Rattle.selection.specs.Laws.Exit.{exit}
use Rattle.laws.specs.Outcome.{Outcome}
use Rattle.run_log.specs.Log.{Log, log_of}
use Rattle.preference.specs.declared.PreferenceList.{PreferenceList}
use Rattle.pareto.specs.Call.{Leaves}
use Rattle.pareto.specs.Laws.Call.{accepted_leaves, accepted_counts, refused_counts}
use Rattle.lattice.specs.Engine.{lattice_call}
use Rattle.selection.specs.Laws.Engines.{own_nodes, lattice_few}
use Rattle.selection.proofs.by_lattice.Goals as goal

-- the call's own room is 32768 zeros
told : (l : PreferenceList) (log : Log) (budget : ℕ) (marks after : List ℕ) (answer : Outcome ℕ)
    → Leaves (lattice_call l log (length marks) (length {A = ℕ} (replicate 32768 0)) budget) marks answer after
    → Leaves (lattice_call l log (length marks) 32768 budget) marks answer after
told l log budget marks after answer h = own_nodes l log marks after answer _ budget (length-replicate {A = ℕ} 32768 0) h

pub returns-in_err-run : goal.returns-in_err-run
returns-in_err-run c =
    let a = c.args in
    rw (exit c.from_residual.result _ c.from_residual.ensures.1)
    (refused_counts _ a.marks.now _ c.run.new.marks
    (told a.list (log_of a.log.now) a.budget a.marks.now c.run.new.marks _ c.in_err-run.ensures.leaves))

pub count_marked-requires : goal.count_marked-requires
count_marked-requires c =
    let a = c.args in
    let t = told a.list (log_of a.log.now) a.budget a.marks.now c.run.new.marks _ c.in_ok-run.ensures.leaves in
    lattice_few a.list (log_of a.log.now) (length a.marks.now) 32768 a.budget (accepted_leaves _ a.marks.now _ c.run.new.marks t).0

pub returns : goal.returns
returns c =
    let a = c.args in
    let t = told a.list (log_of a.log.now) a.budget a.marks.now c.run.new.marks _ c.in_ok-run.ensures.leaves in
    accepted_counts _ a.marks.now _ c.count_marked.result c.run.new.marks t c.count_marked.ensures
