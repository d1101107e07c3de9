-- What a call leaves from what the walk on weights and node numbers promises.
use Rattle.std.specs.Prelude.{◌≡◌, refl, ℕ, ◌≤◌, true, false, List, ◌++◌, ltb, leb, take, drop, Result, Ok, Err, is_ok}
use Rattle.std.proofs.Common.{sym, ◌∙◌, le_refl, arith, take-append-drop}
use Rattle.std.proofs.Math.Path.{ap}
use Rattle.std.proofs.Math.ListN.{length}
use borrow.Author.Tests.{lt-ltb, le-ltb, leb-true, leb-false}
use Rattle.laws.specs.Outcome.{outcome}
use Rattle.laws.specs.Lists.{joined}
use Rattle.laws.specs.Laws.Checks.{gives_yes, gives_no}
use Rattle.refusal.specs.declared.Refusal.{Refusal}
use Rattle.refusal.specs.declared.Refusal.TheVariants as refusals
use Rattle.run_log.specs.Log.{Log, row_count, marks_refusal}
use Rattle.preference.specs.Laws.Parts.{Within}
use Rattle.preference.specs.declared.PreferenceList.{PreferenceList}
use Rattle.pareto.specs.Best.{marks_of, marks_after}
use Rattle.pareto.specs.Call.{marks_left}
use Rattle.pareto.specs.Checked.{checked_refusal}
use Rattle.lattice_stretch.specs.declared.OverBudget.{OverBudget}
use Rattle.lattice_nodes.specs.Lattice.{node_count, crossed_at, crossings, node_bytes}
use Rattle.lattice_nodes.specs.Steps.{weights_of}
use Rattle.lattice_nodes.specs.Laws.Some.{All}
use Rattle.lattice_nodes.specs.Laws.Walk.{trail_crossed, bytes_final}
use Rattle.lattice.specs.Walked.{lattice_tops, lattice_rows}
use Rattle.lattice.specs.Engine.{nodes_left}
use Rattle.lattice_marks.specs.Settled.{crossed, Settles}
use Rattle.lattice.specs.Ids.{row_nodes}
use Rattle.lattice.specs.Laws.Rows.{rows_hold, rows_within, rows_marked}
use Rattle.lattice.specs.Laws.Ends.{Passed, passed, Ends, last}

-- the walk's answer as the call's
abbrev pub told : Result ℕ OverBudget → Result ℕ Refusal
told (Ok made) = Ok made
told (Err over) = Err refusals.OverBudget

module _ (l : PreferenceList) (log : Log) (marks nodes : List ℕ) (budget : ℕ)
    (z : checked_refusal l log (marks_refusal log.values (length marks)) ≡ 0)
    (few : node_count (lattice_tops l) ≤ 32768) (fit : node_count (lattice_tops l) ≤ length nodes)
    (answer : Result ℕ OverBudget) (marks' nodes' : List ℕ)
    (s : Settles (weights_of (lattice_tops l)) (row_nodes l log) (node_count (lattice_tops l)) budget
    (take (row_count log.values) marks) answer marks' nodes')
  where
    abbrev tops : List ℕ
    tops = lattice_tops l

    abbrev rows : List (List ℕ)
    rows = lattice_rows l log

    -- the call ends so, with what the walk left in front of the rest of the lent bytes
    abbrev ends : Result ℕ Refusal → Type 0
    ends r =
        Ends l log marks nodes budget r (marks' ++ drop (row_count log.values) marks)
        (nodes' ++ drop (node_count tops) nodes)

    pass : Passed l log (length marks)
    pass = passed l log (length marks) z

    valid : All (Within tops) rows
    valid = rows_within l log pass.list_accepted pass.rows_accepted

    walk_is : crossed (weights_of tops) (row_nodes l log) (node_count tops)
        ≡ joined (crossed_at tops rows) (node_count tops)
    walk_is =
        trail_crossed tops rows valid (row_nodes l log) (λ y h. rows_hold l log y (omega arith)) (node_count tops)
        (le_refl (node_count tops))

    count_is : length (crossed (weights_of tops) (row_nodes l log) (node_count tops)) ≡ crossings tops rows
    unfolding crossings
    count_is = ap length walk_is

    enough : is_ok answer ≡ leb (crossings tops rows) budget
    enough = rw count_is at s.enough

    pub spent : is_ok answer ≡ false → ends (Err refusals.OverBudget)
    unfolding marks_left nodes_left
    spent e =
        let over = leb-false (crossings tops rows) budget (sym enough ∙ e) in
        let refusal =
        last l log marks nodes budget z few fit
        ∙ gives_yes (ltb budget (crossings tops rows)) 11 (lt-ltb budget (crossings tops rows) over) in (
          record {
            answer_is = rw refusal (unfold outcome in refl);
            marks_are = rw (refusal, s.marks_are, e) (take-append-drop (row_count log.values) marks);
          },
          rw (refusal, s.nodes_are, e),
        )

    -- the bytes of the nodes, and the marks by them
    bytes_are : is_ok answer ≡ true → nodes' ≡ node_bytes tops rows
    bytes_are e =
        s.nodes_are
        ∙ rw (e, walk_is) (bytes_final tops rows valid (row_nodes l log) (λ y h. rows_hold l log y (omega arith)))

    marks_are : is_ok answer ≡ true → marks' ≡ marks_of l log
    marks_are e =
        s.marks_are ∙ rw (e, bytes_are e) (rows_marked l log pass.list_accepted pass.rows_accepted (omega arith))

    pub through : (made : ℕ) → answer ≡ Ok made → ends (Ok made)
    unfolding marks_left nodes_left marks_after
    through made a =
        let e : is_ok answer ≡ true = rw a in
        let fits = leb-true (crossings tops rows) budget (sym enough ∙ e) in
        let refusal =
        last l log marks nodes budget z few fit
        ∙ gives_no (ltb budget (crossings tops rows)) 11 (le-ltb budget (crossings tops rows) fits) in (
          record {
            answer_is = rw (refusal, rw a at s.counted, count_is) (unfold outcome in refl);
            marks_are = rw (refusal, marks_are e);
          },
          rw (refusal, bytes_are e),
        )

    pub settled : ends (told answer)
    settled = go answer refl
      where
        go : (r : Result ℕ OverBudget) → answer ≡ r → ends (told r)
        go (Ok made) e = through made e
        go (Err over) e = spent (rw e)
