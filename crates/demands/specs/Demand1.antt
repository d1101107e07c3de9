-- Demand 1: "every call ends with its result or with a number of document 01, and a refusal leaves the runs and the
-- marks untouched." Each call's contract gives its outcome for every input; here are the numbers that can come back
-- (specs/Numbers.antt), and what a refusal leaves.
use Rattle.std.specs.Prelude.{◌≡◌, ℕ, List, ◌∷◌, ◌++◌, eqb, ℤ, length, drop, replicate}
use Rattle.std.proofs.Common.{sym, ap, ◌∙◌}
use borrow.Author.Tests.{eq-eqb, ne_eqb}
use Rattle.laws.specs.Lists.{any_of}
use Rattle.laws.specs.Outcome.{refused, outcome}
use Rattle.laws.specs.Laws.Outcome.{refused_refusal}
use Rattle.run_log.specs.Log.{Log}
use Rattle.preference.specs.Level.{level_refusal, level_at}
use Rattle.preference.specs.declared.PreferenceList.{PreferenceList}
use Rattle.pareto.specs.Call.{Call, Leaves}
use Rattle.pareto.specs.Refusals.{Among}
use Rattle.pareto.specs.Laws.Call.{refused_leaves}
use Rattle.pareto.specs.Laws.Refusals.{among_some}
use Rattle.stream_format.specs.Read.{read_of, log_after}
use Rattle.stream_format.specs.Write.{write_refusal, out_after}
use Rattle.lattice_nodes.specs.Lattice.{node_count}
use Rattle.lattice.specs.Walked.{lattice_tops}
use Rattle.lattice.specs.Engine.{lattice_call, nodes_left}
use Rattle.window.specs.Engine.{window_call, WorkLeft}
use Rattle.dominator.specs.Engine.{dominator_refusal, RefusedBy}
use Rattle.console.specs.Flat.{flat_lattice_call, flat_window_call}
use Rattle.selection.specs.Stream.{program_call}
use Rattle.sheet_pages.specs.Pages.{sheet_of}
use Rattle.sheet_pages.specs.Call.{sheet_refusal, SheetLeft}
use Rattle.sheet_pages.specs.Laws.Left.{refused_left}
use Rattle.sheet_report.specs.Sheet.{stream_sheet, stream_refusal}
use Rattle.demands.specs.Refusals.{level_refusals, read_refusals, write_refusals, lattice_refusals, window_refusals}
use Rattle.demands.specs.Refusals.{dominator_refusals, sheet_refusals, stream_sheet_refusals}
use Rattle.demands.specs.Refusals.{flat_lattice_refusals, flat_window_refusals, program_refusals}
use Rattle.demands.specs.Laws.Refusals.{lattice_among, window_among, dominator_among, level_among, write_among}
use Rattle.demands.specs.Laws.Refusals.{read_among, sheet_among}
use Rattle.demands.specs.Laws.Streams.{flat_lattice_among, flat_window_among, program_among}
use Rattle.demands.specs.Laws.Streams.{stream_sheet_among}

-- a number that a call is refused by is not 0
some_among : (ns : List ℕ) (n k : ℕ) → n ≡ k → (k ≡ 0 → ⊥) → Among (0 ∷ ns) n → Among ns k
some_among ns n k e h a = among_some ns k h (ap (λ (j : ℕ). any_of (eqb j) (0 ∷ ns)) (sym e) ∙ a)

-- a refused call: its number is one of these, and the marks are as they were
refused_call : (ns : List ℕ) (c : Call) → Among (0 ∷ ns) c.refusal → (marks marks' : List ℕ) (k : ℕ)
    → Leaves c marks (refused k) marks'
    → Among ns k × (marks' ≡ marks)
refused_call ns c m marks marks' k a =
    let p = refused_leaves c marks k marks' a in
    (some_among ns c.refusal k p.0 p.1 m, p.2)

module _ (l : PreferenceList) (log : Log) (marks marks' : List ℕ) where
  -- "except that 11 leaves each node's byte zero"
  pub lattice_refused : (nodes nodes' : List ℕ) (budget k : ℕ)
      → let call = lattice_call l log (length marks) (length nodes) budget in
      Leaves call marks (refused k) marks' → nodes' ≡ nodes_left call nodes
      → (Among lattice_refusals k × (marks' ≡ marks)) × ((k ≡ 11 → ⊥) → nodes' ≡ nodes)
      × (k ≡ 11 → nodes' ≡ replicate (node_count (lattice_tops l)) 0 ++ drop (node_count (lattice_tops l)) nodes)
  unfolding nodes_left
  lattice_refused nodes nodes' budget k a b =
      let call = lattice_call l log (length marks) (length nodes) budget in
      let p = refused_leaves call marks k marks' a in
      let some : call.refusal ≡ 0 → ⊥ = λ z. p.1 (sym p.0 ∙ z) in (
        refused_call lattice_refusals call (lattice_among l log (length marks) (length nodes) budget) marks marks' k a,
        λ h. b ∙ rw (ne_eqb call.refusal 0 some, ne_eqb call.refusal 11 (λ e. h (sym p.0 ∙ e))),
        λ h. b ∙ rw (ne_eqb call.refusal 0 some, eq-eqb call.refusal 11 (p.0 ∙ h)),
      )

  pub window_refused : (work work' : List ℕ) (w k : ℕ)
      → Leaves (window_call l log (length marks) (length work) w) marks (refused k) marks'
      → WorkLeft (window_call l log (length marks) (length work) w) work work'
      → (Among window_refusals k × (marks' ≡ marks)) × (work' ≡ work)
  window_refused work work' w k a b =
      let call = window_call l log (length marks) (length work) w in
      let p = refused_leaves call marks k marks' a in (
        refused_call window_refusals call (window_among l log (length marks) (length work) w) marks marks' k a,
        b (λ z. p.1 (sym p.0 ∙ z)),
      )

pub dominator_refused : (l : PreferenceList) (log : Log) (row k : ℕ) → RefusedBy l log row k
    → Among dominator_refusals k
dominator_refused l log row k a =
    some_among dominator_refusals (dominator_refusal l log row) k (sym a.refusal) a.some (dominator_among l log row)

pub level_refused : (l : PreferenceList) (place : ℕ) (value : ℤ) (k : ℕ)
    → refused k ≡ outcome (level_refusal l place value) (level_at l place value)
    → Among level_refusals k
level_refused l place value k e =
    let n = refused_refusal _ _ k e in
    some_among level_refusals (level_refusal l place value) k n.0 (λ z. n.1 (n.0 ∙ z)) (level_among l place value)

pub read_refused : (s : List ℕ) (log : List ℤ) → ((read_of s (length log)).refusal ≡ 0 → ⊥)
    → Among read_refusals (read_of s (length log)).refusal × (log_after s log ≡ log)
unfolding log_after
read_refused s log h = (
  among_some read_refusals (read_of s (length log)).refusal h (read_among s (length log)),
  rw (ne_eqb (read_of s (length log)).refusal 0 h),
)

pub write_refused : (l : PreferenceList) (log : List ℤ) (out : List ℕ) → (write_refusal l log (length out) ≡ 0 → ⊥)
    → Among write_refusals (write_refusal l log (length out)) × (out_after l log out ≡ out)
unfolding out_after
write_refused l log out h = (
  among_some write_refusals (write_refusal l log (length out)) h (write_among l log (length out)),
  rw (ne_eqb (write_refusal l log (length out)) 0 h),
)

-- the flat calls: a result below zero is minus the number
module _ (s marks marks' : List ℕ) (k : ℕ) where
  pub flat_lattice_refused : (budget : ℕ) → Leaves (flat_lattice_call s (length marks) budget) marks (refused k) marks'
      → Among flat_lattice_refusals k × (marks' ≡ marks)
  flat_lattice_refused budget =
      refused_call flat_lattice_refusals (flat_lattice_call s (length marks) budget)
      (flat_lattice_among s (length marks) budget) marks marks' k

  pub flat_window_refused : (w : ℕ) → Leaves (flat_window_call s (length marks) w) marks (refused k) marks'
      → Among flat_window_refusals k × (marks' ≡ marks)
  flat_window_refused w =
      refused_call flat_window_refusals (flat_window_call s (length marks) w)
      (flat_window_among s (length marks) w) marks marks' k

-- a program's `refused N`
pub program_refused : (s : List ℕ) → ((program_call s).refusal ≡ 0 → ⊥)
    → Among program_refusals (program_call s).refusal
program_refused s h = among_some program_refusals (program_call s).refusal h (program_among s)

-- document 02, order 1: the sheet, of a log with marks and of a stream; the output is as it was
module _ (out out' : List ℕ) (k : ℕ) where
  left_call : (ns : List ℕ) (refusal : ℕ) (sheet : List ℕ) → Among (0 ∷ ns) refusal
      → SheetLeft refusal sheet out (refused k) out' → Among ns k × (out' ≡ out)
  left_call ns refusal sheet m a =
      let p = refused_left refusal sheet out out' k a in (some_among ns refusal k p.0 p.1 m, p.2)

  pub sheet_refused : (log : List ℤ) (marks : List ℕ)
      → SheetLeft (sheet_refusal log marks (length out)) (sheet_of log marks) out (refused k) out'
      → Among sheet_refusals k × (out' ≡ out)
  sheet_refused log marks = left_call sheet_refusals _ (sheet_of log marks) (sheet_among log marks (length out))

  pub stream_sheet_refused : (s : List ℕ)
      → SheetLeft (stream_refusal s (length out)) (stream_sheet s) out (refused k) out'
      → Among stream_sheet_refusals k × (out' ≡ out)
  stream_sheet_refused s = left_call stream_sheet_refusals _ (stream_sheet s) (stream_sheet_among s (length out))
