-- The numbers that the calls on a stream can give: 0, or one of their lists.
use Rattle.std.specs.Prelude.{◌≡◌, Bool, cond, List, ◌∷◌, eqb}
use Rattle.std.proofs.Math.Path.{refl}
use Rattle.std.proofs.Common.{◌∙◌, arith}
use Prim.Native.Nat.{ℕ, ◌*◌, ◌≤◌}
use Rattle.std.proofs.Math.Bool.{true, false}
use Rattle.std.proofs.Math.Dec.{ltb}
use borrow.Author.Tests.{ltb-false, le-ltb, eqb-true, eqb-false}
use Rattle.laws.specs.Checks.{◌gives◌, ◌then◌}
use Rattle.laws.specs.Lists.{any_of}
use Rattle.laws.specs.Laws.Checks.{gives_no, then_next, then_first}
use Rattle.run_log.specs.Log.{Log, row_count, log_refusal, marks_refusal}
use Rattle.run_log.specs.Laws.Log.{accepted_rows}
use Rattle.preference.specs.declared.PreferenceList.{PreferenceList}
use Rattle.pareto.specs.Checked.{checked_refusal}
use Rattle.pareto.specs.Refusals.{Among}
use Rattle.pareto.specs.Laws.Refusals.{within, wider, none_among, gives_among, then_among, checked_in}
use Rattle.lattice_nodes.specs.Lattice.{node_count, crossings}
use Rattle.lattice_nodes.specs.Laws.Budget.{crossings_small}
use Rattle.lattice.specs.Walked.{lattice_tops, lattice_rows}
use Rattle.lattice.specs.Engine.{lattice_refusal}
use Rattle.window.specs.Engine.{sizes_refusal, window_refusal}
use Rattle.stream_format.specs.Read.{records, end_refusal, read_of}
use Rattle.stream_format.specs.Laws.Longest.{rows_at_most}
use Rattle.stream_format.specs.Laws.Rows.{values_long, values_fit}
use Rattle.selection.specs.Selection.{either_refusal}
use Rattle.selection.specs.Stream.{list_in, log_in, program_call}
use Rattle.console.specs.Flat.{flat_lattice_call, flat_window_call}
use Rattle.demands.specs.Refusals.{read_refusals, lattice_refusals, window_refusals, flat_lattice_refusals}
use Rattle.sheet_pages.specs.Call.{room_refusal}
use Rattle.sheet_report.specs.Sheet.{stream_refusal}
use Rattle.demands.specs.Refusals.{flat_window_refusals, program_refusals, stream_sheet_refusals}
use Rattle.demands.specs.Laws.Counts.{sizes_refusal_lem}
use Rattle.demands.specs.Laws.Refusals.{lattice_among, window_among, read_in, read_among}

-- ---- the flat calls

pub flat_lattice_among : (s : List ℕ) (marks budget : ℕ)
    → Among (0 ∷ flat_lattice_refusals) (flat_lattice_call s marks budget).refusal
unfolding within any_of
flat_lattice_among s marks budget =
    let ns = flat_lattice_refusals in
    let n = lattice_refusal (list_in s) (log_in s) marks 32768 budget in
    then_among ns _ _ (wider (0 ∷ read_refusals) (0 ∷ ns) (read_of s 8192).refusal refl (read_among s 8192))
    (wider (0 ∷ lattice_refusals) (0 ∷ ns) n refl (lattice_among (list_in s) (log_in s) marks 32768 budget))

pub flat_window_among : (s : List ℕ) (marks w : ℕ)
    → Among (0 ∷ flat_window_refusals) (flat_window_call s marks w).refusal
unfolding within any_of
flat_window_among s marks w =
    let ns = flat_window_refusals in
    let n = window_refusal (list_in s) (log_in s) marks 4096 w in
    then_among ns _ _ (wider (0 ∷ read_refusals) (0 ∷ ns) (read_of s 8192).refusal refl (read_among s 8192))
    (wider (0 ∷ window_refusals) (0 ∷ ns) n refl (window_among (list_in s) (log_in s) marks 4096 w))

-- ---- the program: 9, 10 and 11 never come

-- there is room for every log
read_program : (s : List ℕ) → Among (0 ∷ program_refusals) (read_of s 8192).refusal
unfolding end_refusal within any_of
read_program s =
    read_in program_refusals refl s 8192
    (λ z.
    let few = rows_at_most s z in
    let fits = gives_no (ltb 8192 (8 * (records s).rows)) 10 (le-ltb 8192 (8 * (records s).rows) (omega arith)) in
    rw fits (then_among program_refusals _ _ (gives_among program_refusals _ 1 refl) (none_among program_refusals)))

module _ (l : PreferenceList) (log : Log) (g : log_refusal log.values ≡ 0) (few : row_count log.values ≤ 1024) where
  no_ten : Among (0 ∷ program_refusals) (log_refusal log.values)
  no_ten = rw g (none_among program_refusals)

  enough_marks : marks_refusal log.values 1024 ≡ 0
  enough_marks = gives_no (ltb 1024 (row_count log.values)) 10 (le-ltb 1024 (row_count log.values) few)

  checks_among : (more : ℕ) → more ≡ 0 → Among (0 ∷ program_refusals) (checked_refusal l log more)
  unfolding within any_of
  checks_among more z = checked_in program_refusals refl refl l log more no_ten (rw z (none_among program_refusals))

  window_program : Among (0 ∷ program_refusals) (window_refusal l log 1024 4096 64)
  unfolding window_refusal
  window_program =
      checks_among (sizes_refusal log 1024 4096 64)
      (sizes_refusal_lem log 1024 4096 64 (omega arith) (omega arith) (omega arith) ∙ enough_marks)

  -- 9 besides
  lattice_program : Among (0 ∷ 9 ∷ program_refusals) (lattice_refusal l log 1024 32768 262144)
  unfolding lattice_refusal any_of within
  lattice_program =
      then_among (9 ∷ program_refusals) _ _
      (wider (0 ∷ program_refusals) (0 ∷ 9 ∷ program_refusals)
      (checked_refusal l log (marks_refusal log.values 1024)) refl
      (checks_among _ enough_marks))
      (past (ltb 32768 (node_count (lattice_tops l))) refl)
    where
      past : (t : Bool) → ltb 32768 (node_count (lattice_tops l)) ≡ t
          → Among (0 ∷ 9 ∷ program_refusals)
          (t gives 9 then ltb 32768 (node_count (lattice_tops l)) gives 10
          then ltb 262144 (crossings (lattice_tops l) (lattice_rows l log)) gives 11)
      past true e = unfold ◌gives◌ ◌then◌ in refl
      past false e =
          let few =
          crossings_small (lattice_tops l) (lattice_rows l log) (ltb-false 32768 (node_count (lattice_tops l)) e) in
          let fits = le-ltb 262144 (crossings (lattice_tops l) (lattice_rows l log)) (omega arith) in
          rw (e, gives_no (ltb 262144 (crossings (lattice_tops l) (lattice_rows l log))) 11 fits)
          (unfold ◌gives◌ ◌then◌ in refl)

  either_program : Among (0 ∷ program_refusals) (either_refusal l log 1024)
  unfolding either_refusal any_of
  either_program = go (eqb (lattice_refusal l log 1024 32768 262144) 9) refl
    where
      n : ℕ
      n = lattice_refusal l log 1024 32768 262144

      go : (t : Bool) → eqb n 9 ≡ t → Among (0 ∷ program_refusals) (cond t (window_refusal l log 1024 4096 64) n)
      go true e = window_program
      go false e = rw e at lattice_program

pub program_among : (s : List ℕ) → Among (0 ∷ program_refusals) (program_call s).refusal
program_among s = go (eqb (read_of s 8192).refusal 0) refl
  where
    either : ℕ
    either = either_refusal (list_in s) (log_in s) 1024

    go : (t : Bool) → eqb (read_of s 8192).refusal 0 ≡ t
        → Among (0 ∷ program_refusals) ((read_of s 8192).refusal then either)
    go true e =
        let z = eqb-true (read_of s 8192).refusal 0 e in
        let long = values_long s 8192 z in
        let fits = values_fit s 8192 z in
        rw (then_next (read_of s 8192).refusal either z)
        (either_program (list_in s) (log_in s)
        (accepted_rows (log_in s).values (read_of s 8192).rows long (omega arith))
        (omega arith))
    go false e =
        rw (then_first (read_of s 8192).refusal either (eqb-false (read_of s 8192).refusal 0 e)) (read_program s)

-- ---- the sheet of a stream

pub stream_sheet_among : (s : List ℕ) (room : ℕ) → Among (0 ∷ stream_sheet_refusals) (stream_refusal s room)
unfolding stream_refusal room_refusal within any_of
stream_sheet_among s room =
    let ns = stream_sheet_refusals in
    then_among ns _ _ (wider (0 ∷ program_refusals) (0 ∷ ns) (program_call s).refusal refl (program_among s))
    (gives_among ns _ 15 refl)
